-- `best::nearer` meets its contract: the further state where it is cheaper, and else the one before.
use mathlib.Core.Path.{refl}
use Rattle.laws.specs.Branches.{cond_yes, cond_no}
use Rattle.trellis.specs.Layout.{nearer_of}
use Rattle.trellis.proofs.best.nearer.Goals as goal

pub returns-then-cost-b : goal.returns-then-cost-b
unfolding nearer_of
returns-then-cost-b c = cond_yes _ _ _ c.if-cost-b.true

pub returns-else-cost-b : goal.returns-else-cost-b
unfolding nearer_of
returns-else-cost-b c = cond_no _ _ _ _ c.if-cost-b.false refl
