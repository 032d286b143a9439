-- `wave` meets its contract: the limit in the middle, and else the sine over the distance.
use Rattle.resampler.specs.Design.{wave_of}
use Rattle.resampler.proofs.design.wave.Goals as goal

pub returns-then-x : goal.returns-then-x
unfolding wave_of
returns-then-x c = rw c.if-x.true

pub returns-else-x : goal.returns-else-x
unfolding wave_of
returns-else-x c = rw (c.if-x.false, c.sine.ensures)
