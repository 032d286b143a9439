-- `phase_between` meets its contract: the angle where reliable, and 0.
use mathlib.Core.Path.{refl}
use Rattle.laws.specs.Branches.{cond_then, cond_no}
use Rattle.sequence.specs.Sequence.{phase_between_of}
use Rattle.sequence.proofs.step.phase_between.Goals as goal

pub returns-then-reliable : goal.returns-then-reliable
unfolding phase_between_of
returns-then-reliable c = cond_then _ _ _ _ c.if-reliable.true (rw (c.arctangent.ensures, c.multiplied_conjugate-turn.ensures))

pub returns-else-reliable : goal.returns-else-reliable
unfolding phase_between_of
returns-else-reliable c = cond_no _ _ _ _ c.if-reliable.false refl
