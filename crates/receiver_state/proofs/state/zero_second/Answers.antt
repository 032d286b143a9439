-- `zero_second` meets its contract: not enabled, its place zero and nothing recorded.
use Rattle.receiver_state.specs.State.{zero_second}
use Rattle.receiver_state.proofs.state.zero_second.Goals as goal

pub returns : goal.returns
unfolding zero_second
returns c = rw c.zero_carrier-carrier.ensures
