-- `zero_carrier` meets its contract: every place of the carrier and of its detector is zero.
use mathlib.Core.Path.{refl}
use lib.Ieee.{of_bits}
use Rattle.receiver_state.specs.State.{zero_carrier}
use Rattle.receiver_state.proofs.state.zero_carrier.Goals as goal

pub returns : goal.returns
unfolding zero_carrier of_bits
returns c = refl
