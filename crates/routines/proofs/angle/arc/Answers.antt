-- `angle::arc` meets its contract: the polynomial, step by step.
use lib.Ieee.{of_bits}
use Rattle.routines.specs.Angle.{arc_of, factor_of}
use Rattle.std.proofs.Common.{refl}
use Rattle.routines.proofs.angle.arc.Goals as goal

pub returns : goal.returns
unfolding arc_of factor_of of_bits
returns c = refl
