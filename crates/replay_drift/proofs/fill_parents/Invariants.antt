-- `replay_drift::fill_parents` fills the table with states.
use Rattle.replay_detector.specs.Below.{Below}
use Rattle.replay_drift.proofs.fill_parents.Given as goal

abbrev pub invariant-loop-i : goal.invariant-loop-i
invariant-loop-i l = Below l.i l.parents
