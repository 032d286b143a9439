-- `signal::rows::write_point` meets its contract: the two floats and the error are what `narrow` and `error` give.
use Rattle.std.proofs.Common.{arith, length-set}
use Rattle.signal.proofs.rows.write_point.Goals as goal

pub bounds-output-at-2 : goal.bounds-output-at-2
bounds-output-at-2 c = simp length-set (omega arith)

pub returns : goal.returns
returns c = record { errors = rw c.error.ensures; written = rw (c.narrow-2.ensures, c.narrow.ensures) }
