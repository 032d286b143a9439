-- `signal::write_points` meets its contract: the invariants are the sum and the floats after i points.
use Rattle.std.proofs.Common.{◌≡◌}
use lib.Ieee.{binary64, of_bits}
use Rattle.laws.specs.Turns.{turns}
use Rattle.signal.specs.Signal.{error_at}
use Rattle.signal.proofs.Loops.{sum_turn, write_turn}
use Rattle.signal.proofs.write_points.Given as goal

abbrev pub invariant-loop-i : goal.invariant-loop-i
invariant-loop-i l = (l.sum ≡ turns (sum_turn l.real l.imaginary l.start (error_at l.amplitude)) l.i (of_bits binary64 0))
    × (l.output ≡ turns (write_turn l.real l.imaginary l.start l.amplitude) l.i l.initial.output)
