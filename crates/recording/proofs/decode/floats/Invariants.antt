-- `decode::floats` meets its contract: each turn of the loop stores one float, and what lies after them stays.
use Rattle.std.proofs.Common.{◌≡◌}
use Rattle.laws.specs.Places.{fill}
use Rattle.recording.specs.Decode.{float_at}
use Rattle.recording.proofs.decode.floats.Given as goal

abbrev pub invariant-loop-i : goal.invariant-loop-i
invariant-loop-i l = l.out ≡ fill (float_at l.source) l.i l.initial.out
