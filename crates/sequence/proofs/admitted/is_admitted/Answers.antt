-- `is_admitted` meets its contract: the two places, and the previous symbol by its own test.
use Rattle.sequence.specs.AdmittedLaws.{admitted_is}
use Rattle.sequence.proofs.admitted.is_admitted.Goals as goal

pub returns : goal.returns
returns c = admitted_is _ _ c.is_symbol.ensures
