-- `fresh` meets its contract: cosine and sine of the angle are the step.
use lib.Ieee.{of_bits, neg}
use Rattle.oscillator.specs.Laws.{fresh_is}
use Rattle.oscillator.proofs.fresh.Goals as goal

pub returns : goal.returns
unfolding of_bits neg
returns c = fresh_is _ _ _ _ c.cosine.ensures c.sine.ensures
