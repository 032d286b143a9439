-- `replay_receiver::desk::block` is safe and ends.
use Rattle.std.proofs.Common.{sym, length-take-le}
use Rattle.replay_receiver.proofs.desk.block.Goals as goal

pub slice_bounds-block_in-end : goal.slice_bounds-block_in-end
slice_bounds-block_in-end c = sym (length-take-le _ _ c.if-t-table.true)

pub slice_bounds-block_in-end-then-q-reliabilities : goal.slice_bounds-block_in-end-then-q-reliabilities
slice_bounds-block_in-end-then-q-reliabilities c = sym (length-take-le _ _ c.if-n-samples.true)

pub slice_bounds-block_in-end-then-q-reliabilities-3 : goal.slice_bounds-block_in-end-then-q-reliabilities-3
slice_bounds-block_in-end-then-q-reliabilities-3 c = sym (length-take-le _ _ c.if-p-dibits.true)

pub slice_bounds-block_in-end-then-q-reliabilities-5 : goal.slice_bounds-block_in-end-then-q-reliabilities-5
slice_bounds-block_in-end-then-q-reliabilities-5 c = sym (length-take-le _ _ c.if-q-reliabilities.true)
