-- `zero` meets its contract: every number is zero, every flag false, every option absent.
use lib.Ieee.{of_bits}
use Rattle.receiver_state.specs.State.{zero_receiver}
use Rattle.receiver_state.proofs.state.zero.Goals as goal

pub returns : goal.returns
unfolding zero_receiver of_bits
returns c = rw (c.zero_second.ensures, c.planes_with.ensures, c.zero_chain.ensures, c.zero_front.ensures)
