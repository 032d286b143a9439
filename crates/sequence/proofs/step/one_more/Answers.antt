-- `one_more` meets its contract: one more up to 32.
use Rattle.sequence.specs.Steps.{below_is, above_is}
use Rattle.sequence.proofs.step.one_more.Goals as goal

pub returns-then-filled-lt32 : goal.returns-then-filled-lt32
returns-then-filled-lt32 c = below_is _ _ _ _ c.if-filled-lt32.true

pub returns-else-filled-lt32 : goal.returns-else-filled-lt32
returns-else-filled-lt32 c = above_is _ _ _ _ c.if-filled-lt32.false
