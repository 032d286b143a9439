-- `phase_error` meets its contract: clamped in f32, then widened.
use Rattle.carrier.specs.Carrier.{phase_error_of}
use Rattle.carrier.proofs.phase_error.Goals as goal

pub returns : goal.returns
unfolding phase_error_of
returns c = cc
