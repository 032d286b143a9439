-- `signal::rows::write_row` meets its contract: the invariants are the sum and the floats after j points.
use Rattle.std.proofs.Common.{◌≡◌}
use Rattle.laws.specs.Turns.{turns}
use Rattle.signal.specs.Rows.{error_turn, point_turn}
use Rattle.signal.proofs.rows.write_row.Given as goal

abbrev pub invariant-loop-j : goal.invariant-loop-j
invariant-loop-j l = (l.sum ≡ turns (error_turn l.row) l.j l.before) × (l.output ≡ turns (point_turn l.row l.done) l.j l.initial.output)
