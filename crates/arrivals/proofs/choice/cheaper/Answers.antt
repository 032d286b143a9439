-- `choice::cheaper` meets its contract: the branch that stands in the planes where it is cheaper, and else the one before.
use mathlib.Core.Path.{refl}
use Rattle.laws.specs.Branches.{cond_yes, cond_no}
use Rattle.arrivals.specs.Layout.{cheaper_of}
use Rattle.arrivals.specs.Arrivals.{better}
use Rattle.arrivals.proofs.choice.cheaper.Goals as goal

pub returns-then-cost-b : goal.returns-then-cost-b
unfolding cheaper_of better
returns-then-cost-b c = cond_yes _ _ _ c.if-cost-b.true

pub returns-else-cost-b : goal.returns-else-cost-b
unfolding cheaper_of better
returns-else-cost-b c = cond_no _ _ _ _ c.if-cost-b.false refl
