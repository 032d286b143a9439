-- `signal::rows::divide_row` meets its contract: the invariant is the row after j turns, each with its two quotients.
use Rattle.std.proofs.Common.{◌≡◌}
use Rattle.laws.specs.Turns.{turns}
use Rattle.signal.specs.Rows.{divide_turn}
use Rattle.signal.proofs.rows.divide_row.Given as goal

abbrev pub invariant-loop-j : goal.invariant-loop-j
invariant-loop-j l = l.row ≡ turns (divide_turn l.real l.imaginary l.amplitude l.from) l.j l.initial.row
