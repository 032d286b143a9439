-- `signal::plain::with_point` meets its contract: a part that is no NaN is widened exactly; the rest is what the calls answer.
use Rattle.signal.proofs.Quotients.{number_exact}
use Rattle.signal.proofs.plain.with_point.Goals as goal

pub float_to_float-u : goal.float_to_float-u
float_to_float-u c = number_exact _ c.row_known-1.given c.no_nan-a.ensures.number

pub float_to_float-v : goal.float_to_float-v
float_to_float-v c = number_exact _ c.row_known-2-1.given c.no_nan-b.ensures.number

pub returns : goal.returns
returns c =
    let is_y = c.no_nan-b.ensures in
    let is_x = c.no_nan-a.ensures in
    rw (c.least-2.ensures, c.span-2.ensures, c.least.ensures, c.span.ensures, is_y.same, is_x.same)
