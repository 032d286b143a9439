-- `is_inside` meets its contract: below the upper end in size.
use mathlib.Core.Path.{refl}
use lib.Ieee.{of_bits, neg, div, lt, le}
use Rattle.samples.specs.Inside.{is_inside}
use Rattle.samples.proofs.is_inside.Goals as goal

pub returns : goal.returns
unfolding is_inside of_bits neg div lt le
returns c = refl
