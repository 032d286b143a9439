-- `zero_chain` meets its contract: every place of the chain is zero.
use lib.Ieee.{of_bits}
use Rattle.receiver_state.specs.State.{zero_chain}
use Rattle.receiver_state.proofs.state.zero_chain.Goals as goal

pub returns : goal.returns
unfolding zero_chain of_bits
returns c = cc
