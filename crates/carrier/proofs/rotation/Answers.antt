-- `rotation` meets its contract: the phase and the alternation's eighths of a turn.
use mathlib.Core.Path.{refl}
use Rattle.carrier.specs.Carrier.{rotation_of}
use Rattle.carrier.proofs.rotation.Goals as goal

pub returns : goal.returns
unfolding rotation_of
returns c = refl
