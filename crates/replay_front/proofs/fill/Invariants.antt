-- `fill` fills the block with numbers.
use mathlib.Core.Path.{◌≡◌}
use lib.ListN.{length}
use Rattle.replay_front.specs.Sound.{Sound}
use Rattle.replay_front.proofs.fill.Given as goal

abbrev pub invariant-loop-i : goal.invariant-loop-i
invariant-loop-i l = (length l.samples ≡ 1024) × Sound l.i l.samples
