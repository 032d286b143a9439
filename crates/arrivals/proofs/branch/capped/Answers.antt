-- `branch::capped` meets its contract: the distance where it is below the cap, and else the cap.
use mathlib.Core.Path.{refl}
use Rattle.laws.specs.Branches.{cond_yes, cond_no}
use Rattle.arrivals.specs.Arrivals.{capped_of}
use Rattle.arrivals.proofs.branch.capped.Goals as goal

pub returns-then-e : goal.returns-then-e
unfolding capped_of
returns-then-e c = cond_yes _ _ _ c.if-e.true

pub returns-else-e : goal.returns-else-e
unfolding capped_of
returns-else-e c = cond_no _ _ _ _ c.if-e.false refl
