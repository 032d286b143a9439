-- `signal::rows::exchange_row` meets its contract: writing a row and dividing the next into its places is the same as one after the other, since a turn reads its places before it writes them.
use Rattle.std.proofs.Common.{◌≡◌}
use Rattle.laws.specs.Turns.{turns}
use Rattle.signal.specs.Rows.{divide_turn, error_turn, point_turn}
use Rattle.signal.proofs.rows.exchange_row.Given as goal

abbrev pub invariant-loop-j : goal.invariant-loop-j
invariant-loop-j l = (l.row ≡ turns (divide_turn l.real l.imaginary l.amplitude l.next) l.j l.initial.row)
    × (l.sum ≡ turns (error_turn l.initial.row) l.j l.before)
    × (l.output ≡ turns (point_turn l.initial.row l.done) l.j l.initial.output)
