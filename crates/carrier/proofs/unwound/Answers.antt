-- `unwound` meets its contract: the nearest number of full turns taken off.
use Rattle.carrier.specs.Carrier.{unwound_of}
use Rattle.carrier.proofs.unwound.Goals as goal

pub returns : goal.returns
unfolding unwound_of
returns c = cc
