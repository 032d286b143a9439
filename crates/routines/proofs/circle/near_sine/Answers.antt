-- `circle::near_sine` meets its contract: the polynomial, step by step.
use lib.Ieee.{of_bits}
use Rattle.routines.specs.Circle.{near_sine}
use Rattle.std.proofs.Common.{refl}
use Rattle.routines.proofs.circle.near_sine.Goals as goal

pub returns : goal.returns
unfolding near_sine of_bits
returns c = refl
