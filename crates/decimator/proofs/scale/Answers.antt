-- `scale` meets its contract: the cube is multiplied in the order of the definition.
use Rattle.decimator.specs.Decimator.{scale_of}
use Rattle.decimator.proofs.scale.Goals as goal

pub returns : goal.returns
unfolding scale_of
returns c = rw c.nearest_u64_to_f64-d.ensures
