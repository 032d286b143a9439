-- `is_at_end` meets its contract: at least the upper end, which is the code's quotient and the definition's pattern, or at most the lower.
use mathlib.Core.Path.{refl}
use lib.Ieee.{of_bits, neg, div, lt, le}
use Rattle.samples.specs.Samples.{is_at_end}
use Rattle.samples.proofs.is_at_end.Goals as goal

pub returns : goal.returns
unfolding is_at_end of_bits neg div lt le
returns c = refl
