-- `signal::rows::write_run` meets its contract: the invariants are the sum and the floats after the whole rows so far, and the next row divided.
use Rattle.std.proofs.Common.{◌≡◌, ◌+◌, ◌-◌, ◌≤◌, length}
use Rattle.laws.specs.Turns.{turns}
use Rattle.signal.specs.Signal.{error_at}
use Rattle.signal.specs.Plain.{sum_step, write_step, run_of}
use Rattle.signal.proofs.RowLaws.{Divided}
use Rattle.signal.proofs.rows.write_run.Given as goal

abbrev pub invariant-loop-at : goal.invariant-loop-at
invariant-loop-at l = (l.at + l.first ≤ l.count)
    × (length l.output ≡ length l.initial.output)
    × Divided l.real l.imaginary l.amplitude (l.from + l.at) l.first l.row
    × (l.sum ≡ turns (run_of (sum_step l.real l.imaginary (error_at l.amplitude)) l.from l.done) l.at l.before)
    × (l.output ≡ turns (run_of (write_step l.real l.imaginary l.amplitude) l.from l.done) l.at l.initial.output)

abbrev pub decreases-loop-at : goal.decreases-loop-at
decreases-loop-at l = l.count - l.at
