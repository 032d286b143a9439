-- `doubt` meets its contract: 4 for the first four rows, the taps'.
use Rattle.sequence.specs.Steps.{below_is, above_is}
use Rattle.second.proofs.prior.doubt.Goals as goal

pub returns-then-row-lt4 : goal.returns-then-row-lt4
returns-then-row-lt4 c = below_is _ _ _ _ c.if-row-lt4.true

pub returns-else-row-lt4 : goal.returns-else-row-lt4
returns-else-row-lt4 c = above_is _ _ _ _ c.if-row-lt4.false
