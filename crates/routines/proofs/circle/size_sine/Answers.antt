-- `circle::size_sine` meets its contract: within 64 the turned sine brought back to -1..1, and beyond it a NaN.
use lib.Ieee.{of_bits, neg, div}
use Rattle.std.proofs.Common.{sym}
use Rattle.routines.proofs.CircleLaws.{size_none}
use Rattle.routines.proofs.CircleCode.{sine_reached}
use Rattle.routines.proofs.circle.size_sine.Goals as goal

pub returns-then-a : goal.returns-then-a
unfolding of_bits neg
returns-then-a c =
    let a = c.args.a in
    sine_reached a _ _ _ c.if-a.true c.reduced.ensures c.turned_sine.ensures c.clamp.ensures

pub returns-else-a : goal.returns-else-a
unfolding of_bits div
returns-else-a c = sym (size_none c.args.a c.if-a.false)
