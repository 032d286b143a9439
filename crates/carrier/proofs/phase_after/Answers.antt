-- `phase_after` meets its contract: moved, and unwound.
use Rattle.carrier.specs.Carrier.{phase_after_of}
use Rattle.carrier.proofs.phase_after.Goals as goal

pub returns : goal.returns
unfolding phase_after_of
returns c = cc
