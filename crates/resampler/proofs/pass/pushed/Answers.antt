-- `pushed` meets its contract: the value stands at the place of the ring, which moves on.
use Rattle.std.proofs.Common.{refl}
use Rattle.resampler.proofs.pass.pushed.Goals as goal

pub returns : goal.returns
returns c = record { state = rw c.next_place.ensures; real = refl; imaginary = refl }
