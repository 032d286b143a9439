-- `replay_receiver::desk::read_first` is safe and ends.
use Rattle.std.proofs.Common.{sym, length-take-le}
use Rattle.replay_receiver.proofs.desk.read_first.Goals as goal

pub slice_bounds-read_full-end-then-count-input : goal.slice_bounds-read_full-end-then-count-input
slice_bounds-read_full-end-then-count-input c = sym (length-take-le c.args.count c.args.input.now c.if-count-input.true)
