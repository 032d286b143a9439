-- `circle::near_cosine` meets its contract: the polynomial, step by step.
use lib.Ieee.{of_bits}
use Rattle.routines.specs.Circle.{near_cosine}
use Rattle.std.proofs.Common.{refl}
use Rattle.routines.proofs.circle.near_cosine.Goals as goal

pub returns : goal.returns
unfolding near_cosine of_bits
returns c = refl
