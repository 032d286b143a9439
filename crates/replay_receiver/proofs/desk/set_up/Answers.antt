-- `replay_receiver::desk::set_up` is safe and ends.
use Rattle.std.proofs.Common.{sym, length-take-le}
use Rattle.replay_receiver.proofs.desk.set_up.Goals as goal

pub slice_bounds-set_up_in-end-then-room-table : goal.slice_bounds-set_up_in-end-then-room-table
slice_bounds-set_up_in-end-then-room-table c = sym (length-take-le _ _ c.if-room-table.true)
