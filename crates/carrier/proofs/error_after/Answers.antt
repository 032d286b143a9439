-- `error_after` meets its contract: the widened root of the power, smoothed.
use Rattle.carrier.specs.Carrier.{error_after_of}
use Rattle.carrier.proofs.error_after.Goals as goal

pub returns : goal.returns
unfolding error_after_of
returns c = cc
