-- `noise_after` meets its contract: the noise moves on a reliable and finite residual, and stays else.
use Rattle.answers.specs.Observed.{noise_after_of}
use Rattle.answers.proofs.soft.noise_after.Goals as goal

pub returns-then-reliable-is_finite : goal.returns-then-reliable-is_finite
unfolding noise_after_of
returns-then-reliable-is_finite c = rw (← c.is_finite.ensures, c.if-reliable-is_finite.true, c.min.ensures)

pub returns-else-reliable-is_finite : goal.returns-else-reliable-is_finite
unfolding noise_after_of
returns-else-reliable-is_finite c = rw (← c.is_finite.ensures, c.if-reliable-is_finite.false)
