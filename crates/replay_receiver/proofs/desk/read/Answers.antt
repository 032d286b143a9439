-- `replay_receiver::desk::read` is safe and ends.
use Rattle.std.proofs.Common.{sym, length-take-le}
use Rattle.replay_receiver.proofs.desk.read.Goals as goal

pub slice_bounds-read_in-end-then-room-floats : goal.slice_bounds-read_in-end-then-room-floats
slice_bounds-read_in-end-then-room-floats c = sym (length-take-le _ _ c.if-room-floats.true)
