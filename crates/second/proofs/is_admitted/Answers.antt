-- `is_admitted` meets its contract: the carrier's place and the parents by their own tests, where it is enabled.
use Rattle.second.specs.AdmittedLaws.{admitted_yes, admitted_no}
use Rattle.second.proofs.is_admitted.Goals as goal

pub returns-then-s : goal.returns-then-s
returns-then-s c = admitted_yes _ _ _ _ c.if-s.true c.is_admitted.ensures c.are_states.ensures

pub returns-else-s : goal.returns-else-s
returns-else-s c = admitted_no _ _ c.if-s.false
