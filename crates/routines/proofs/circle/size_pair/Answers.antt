-- `circle::size_pair` meets its contract: within 64 the turned pair brought back to -1..1, and beyond it two NaN.
use lib.Ieee.{of_bits, neg, div}
use Rattle.routines.proofs.CircleCode.{pair_reached, pair_none}
use Rattle.routines.proofs.circle.size_pair.Goals as goal

pub returns-then-a : goal.returns-then-a
unfolding of_bits neg
returns-then-a c =
    let a = c.args.a in
    let test1_holds = c.if-a.true in
    pair_reached a _ _ _ _ test1_holds c.reduced.ensures c.turned_pair-p.ensures c.clamp.ensures c.clamp-then-a.ensures

pub returns-else-a : goal.returns-else-a
unfolding of_bits div
returns-else-a c = pair_none c.args.a c.if-a.false
