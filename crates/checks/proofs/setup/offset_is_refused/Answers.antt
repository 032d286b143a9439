-- `offset_is_refused` meets its contract: an offset that is not finite, or a channel edge at or beyond half the rate.
use lib.Ieee.{of_bits, le, add, div}
use Rattle.checks.specs.Checks.{offset_refused}
use Rattle.checks.proofs.setup.offset_is_refused.Goals as goal

pub returns : goal.returns
unfolding offset_refused of_bits le add div
returns c = rw (c.abs.ensures, c.is_finite.ensures)
