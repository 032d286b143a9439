-- `replay_program::play` is safe and ends: each turn is nearer to the last stage.
use mathlib.Core.Path.{◌≡◌}
use Prim.Native.Nat.{◌+◌, ◌≤◌}
use lib.ListN.{length}
use Rattle.program.specs.Program.{left_of, rest_of}
use Rattle.replay_program.proofs.play.Given as goal

abbrev pub invariant-loop-table : goal.invariant-loop-table
invariant-loop-table l = (l.stage ≡ l.p.stage) × (l.p.overload + left_of l.p.stage ≤ 4294967295) × (l.at ≤ length l.recording) × (length l.table ≡ 16384)

abbrev pub decreases-loop-table : goal.decreases-loop-table
decreases-loop-table l = rest_of l.p.stage
