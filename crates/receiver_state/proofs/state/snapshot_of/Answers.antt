-- `snapshot_of` meets its contract: the counts, the carrier's error and frequency, and the lock.
use lib.Ieee.{of_bits, mul, div}
use Rattle.receiver_state.specs.State.{hertz_of, snapshot_of}
use Rattle.receiver_state.proofs.state.snapshot_of.Goals as goal

pub returns : goal.returns
unfolding snapshot_of hertz_of of_bits mul div
returns c = rw c.flag.ensures
