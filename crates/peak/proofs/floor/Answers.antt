-- `peak::floor` meets its contract: it is one product.
use mathlib.Core.Path.{refl}
use Rattle.peak.specs.Peak.{floor_of}
use Rattle.peak.proofs.floor.Goals as goal

pub returns : goal.returns
unfolding floor_of
returns c = refl
