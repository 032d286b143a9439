-- `frequency_after` meets its contract: moved, and clamped.
use Rattle.carrier.specs.Carrier.{frequency_after_of}
use Rattle.carrier.proofs.frequency_after.Goals as goal

pub returns : goal.returns
unfolding frequency_after_of
returns c = cc
