-- `signal::plain::power_run` meets its contract: the invariant is the power of the first i points.
use Rattle.std.proofs.Common.{◌≡◌}
use Rattle.laws.specs.Turns.{turns}
use Rattle.signal.specs.Plain.{run_of}
use Rattle.signal.specs.Powers.{power_step}
use Rattle.signal.proofs.plain.power_run.Given as goal

abbrev pub invariant-loop-i : goal.invariant-loop-i
invariant-loop-i l = l.power ≡ turns (run_of (power_step l.real l.imaginary) l.from 0) l.i l.initial.power
