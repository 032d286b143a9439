-- `is_within` meets its contract: both tests at once.
use Rattle.std.proofs.Common.{refl}
use lib.Ieee.{of_bits, neg}
use Rattle.decimator.specs.Quantiser.{within}
use Rattle.decimator.proofs.quantiser.is_within.Goals as goal

pub returns : goal.returns
unfolding within of_bits neg
returns c = refl
