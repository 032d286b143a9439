-- `scale` meets its contract: one over the sizes times the noise.
use Rattle.answers.specs.Observed.{scale_of}
use Rattle.answers.proofs.soft.scale.Goals as goal

pub returns : goal.returns
unfolding scale_of
returns c = rw (c.max.ensures, c.size-2.ensures, c.size.ensures)
