-- `replay_detector::fill_parents` fills the table with states.
use Rattle.std.proofs.Common.{◌≡◌, length}
use Rattle.replay_detector.specs.Below.{Below}
use Rattle.replay_detector.proofs.fill_parents.Given as goal

abbrev pub invariant-loop-i : goal.invariant-loop-i
invariant-loop-i l = (length l.parents ≡ 2048) × Below l.i l.parents
