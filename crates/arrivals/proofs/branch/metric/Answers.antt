-- `branch::metric` meets its contract: the capped distance where the input is reliable, and else 0.
use mathlib.Core.Path.{refl}
use Rattle.laws.specs.Branches.{cond_no}
use Rattle.arrivals.specs.Arrivals.{metric_of}
use Rattle.arrivals.proofs.branch.metric.Goals as goal

pub returns-then-reliable : goal.returns-then-reliable
unfolding metric_of
returns-then-reliable c = rw (c.if-reliable.true, c.capped.ensures, c.power.ensures, c.subtracted.ensures)

pub returns-else-reliable : goal.returns-else-reliable
unfolding metric_of
returns-else-reliable c = cond_no _ _ _ _ c.if-reliable.false refl
