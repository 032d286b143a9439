-- `turned` meets its contract: at the 4,096th turn what `renormalized` makes, and before it the product with the step.
use Rattle.oscillator.specs.Laws.{turned_last, turned_other}
use Rattle.oscillator.proofs.turned.Goals as goal

pub returns-then-next-eq-PERIOD : goal.returns-then-next-eq-PERIOD
returns-then-next-eq-PERIOD c = turned_last _ _ c.if-next-eq-PERIOD.true c.renormalized.ensures

pub returns-else-next-eq-PERIOD : goal.returns-else-next-eq-PERIOD
returns-else-next-eq-PERIOD c = turned_other _ c.if-next-eq-PERIOD.false
