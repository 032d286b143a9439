-- `fresh_tap` meets its contract: 1 in the main tap's 64 places, and 0 else.
use Rattle.sequence.specs.Steps.{below_is, above_is}
use Rattle.sequence.proofs.step.fresh_tap.Goals as goal

pub returns-then-i-lt-STATES : goal.returns-then-i-lt-STATES
returns-then-i-lt-STATES c = below_is _ _ _ _ c.if-i-lt-STATES.true

pub returns-else-i-lt-STATES : goal.returns-else-i-lt-STATES
returns-else-i-lt-STATES c = above_is _ _ _ _ c.if-i-lt-STATES.false
