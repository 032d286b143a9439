-- `width::F64Width::not_a_number` meets its contract: zero over zero is a NaN.
use Rattle.std.proofs.Common.{refl}
use lib.Ieee.{of_bits, div}
use Rattle.patterns.proofs.width.F64Width.not_a_number.Goals as goal

pub returns : goal.returns
unfolding of_bits div
returns c = refl
