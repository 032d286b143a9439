-- `power_told` meets its contract: the power where reliable, and 1.
use Rattle.laws.specs.Branches.{cond_yes, cond_no}
use mathlib.Core.Path.{refl}
use Rattle.sequence.specs.Sequence.{power_told_of}
use Rattle.sequence.proofs.step.power_told.Goals as goal

pub returns-then-reliable : goal.returns-then-reliable
unfolding power_told_of
returns-then-reliable c = cond_yes _ _ _ c.if-reliable.true

pub returns-else-reliable : goal.returns-else-reliable
unfolding power_told_of
returns-else-reliable c = cond_no _ _ _ _ c.if-reliable.false refl
