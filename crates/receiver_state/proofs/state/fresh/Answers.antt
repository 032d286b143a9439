-- `fresh` meets its contract: every place and plane is its own crate's fresh one, and the second tracker is not enabled.
use mir.Facts.{to_z-of_z}
use lib.Ieee.{of_bits}
use Rattle.receiver_state.specs.State.{fresh_receiver}
use Rattle.receiver_state.proofs.state.fresh.Goals as goal

pub returns : goal.returns
unfolding fresh_receiver of_bits
returns c =
    rw (c.zero_second.ensures, c.planes_with.ensures, c.fresh_channels.ensures, c.fresh_real.ensures, c.fresh_records.ensures, c.fresh.ensures, to_z-of_z c.ranges.profile)
