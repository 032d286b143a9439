-- `zero_front` meets its contract: every place of the front is zero.
use lib.Ieee.{of_bits}
use Rattle.receiver_state.specs.State.{zero_front}
use Rattle.receiver_state.proofs.state.zero_front.Goals as goal

pub returns : goal.returns
unfolding zero_front of_bits
returns c = cc
