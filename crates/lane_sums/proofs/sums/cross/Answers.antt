-- `cross` meets its contract: after j rows of l lanes the first 16 j + l sums are laid.
use Rattle.lane_sums.specs.LaneLaws.{pairs_start, from_start, from_step, from_end, lanes_end}
use Rattle.lane_sums.specs.Laws.{cross_is}
use borrow.Author.Rules.{rules}
use Rattle.lane_sums.proofs.sums.cross.Goals as goal

pub loop-j-init : goal.loop-j-init
loop-j-init c = pairs_start _ _ _

pub loop-l-init : goal.loop-l-init
loop-l-init c = from_start _ _ _ _

pub loop-l-preserved : goal.loop-l-preserved
loop-l-preserved c =
    let laid = c.loop-l.invariant in
    from_step _ _ _ _ _ _ _ (cross_is _ _ _ _ _ (search rules) (search rules) c.crossed-z.ensures) laid

pub loop-j-preserved : goal.loop-j-preserved
loop-j-preserved c =
    let row = c.loop-l.invariant in
    let rows = c.loop-j.invariant in
    from_end _ _ _ _ _ _ _ _ row rows (search rules)

pub returns : goal.returns
returns c = lanes_end _ _ _ _ _ c.loop-j.invariant (search rules) (search rules)
