-- `corrected` meets its contract: the sample turned back by sine and cosine of the rotation.
use Rattle.carrier.specs.Carrier.{corrected_of}
use Rattle.carrier.proofs.corrected.Goals as goal

pub returns : goal.returns
unfolding corrected_of
returns c = cc
