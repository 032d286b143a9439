-- `replay_receiver::desk::both` is safe and ends.
use Rattle.std.proofs.Common.{sym, length-take-le}
use Rattle.replay_receiver.proofs.desk.both.Goals as goal

pub slice_bounds-both_lent-end-then-q-other_reliabilities : goal.slice_bounds-both_lent-end-then-q-other_reliabilities
slice_bounds-both_lent-end-then-q-other_reliabilities c = sym (length-take-le _ _ c.if-p-others.true)

pub slice_bounds-both_lent-end-then-q-other_reliabilities-3 : goal.slice_bounds-both_lent-end-then-q-other_reliabilities-3
slice_bounds-both_lent-end-then-q-other_reliabilities-3 c = sym (length-take-le _ _ c.if-q-other_reliabilities.true)
