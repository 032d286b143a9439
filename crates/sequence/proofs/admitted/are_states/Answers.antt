-- `are_states` meets its contract: all parents are below 64 where the largest is.
use Rattle.sequence.specs.AdmittedLaws.{largest_below}
use Rattle.sequence.proofs.admitted.are_states.Goals as goal

pub returns : goal.returns
returns c = largest_below _ _ c.largest.ensures
