-- `rate_is_refused` meets its contract: a rate that is not finite, below 9,600 or above 20,000,000.
use lib.Ieee.{of_bits, lt}
use Rattle.checks.specs.Checks.{rate_refused}
use Rattle.checks.proofs.setup.rate_is_refused.Goals as goal

pub returns : goal.returns
unfolding rate_refused of_bits lt
returns c = rw c.is_finite.ensures
