-- `is_admitted` meets its contract: the alternation, and the detector's place by its own test.
use Rattle.carrier.specs.AdmittedLaws.{admitted_is}
use Rattle.carrier.proofs.is_admitted.Goals as goal

pub returns : goal.returns
returns c = admitted_is _ _ c.is_admitted.ensures
