-- `circle::size_cosine` meets its contract: within 64 the turned cosine brought back to -1..1, and beyond it a NaN.
use lib.Ieee.{of_bits, neg, div}
use Rattle.std.proofs.Common.{sym}
use Rattle.routines.proofs.CircleLaws.{size_cosine_none}
use Rattle.routines.proofs.CircleCode.{cosine_reached}
use Rattle.routines.proofs.circle.size_cosine.Goals as goal

pub returns-then-a : goal.returns-then-a
unfolding of_bits neg
returns-then-a c =
    let a = c.args.a in
    cosine_reached a _ _ _ c.if-a.true c.reduced.ensures c.turned_cosine.ensures c.clamp.ensures

pub returns-else-a : goal.returns-else-a
unfolding of_bits div
returns-else-a c = sym (size_cosine_none c.args.a c.if-a.false)
