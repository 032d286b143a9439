-- `signal::mean` meets its contract: a count of at most 1,024 is an f64 without rounding.
use Rattle.std.proofs.Common.{◌^◌, arith, le-leb}
use lib.Ieee.{in_float}
use denote.Floats.{passes}
use Rattle.signal.proofs.mean.Goals as goal

pub int_to_float-result : goal.int_to_float-result
unfolding in_float
int_to_float-result c = passes _ (le-leb c.args.count (2 ^ 53) (omega arith))
