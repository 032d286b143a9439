-- `divide` meets its contract: after i rows of l lanes the first 16 i + l quotients are laid.
use Rattle.lane_sums.specs.LaneLaws.{pairs_start, from_start, from_step, from_end, lanes_end}
use Rattle.lane_sums.specs.Laws.{divide_is}
use borrow.Author.Rules.{rules}
use Rattle.lane_sums.proofs.sums.divide.Goals as goal

pub loop-i-init : goal.loop-i-init
loop-i-init c = pairs_start _ _ _

pub loop-l-init : goal.loop-l-init
loop-l-init c = from_start _ _ _ _

pub loop-l-preserved : goal.loop-l-preserved
loop-l-preserved c =
    let laid = c.loop-l.invariant in
    from_step _ _ _ _ _ _ _ (divide_is _ _ _ _ _ (search rules) (search rules) c.divided-z.ensures) laid

pub loop-i-preserved : goal.loop-i-preserved
loop-i-preserved c =
    let row = c.loop-l.invariant in
    let rows = c.loop-i.invariant in
    from_end _ _ _ _ _ _ _ _ row rows (search rules)

pub returns : goal.returns
returns c = lanes_end _ _ _ _ _ c.loop-i.invariant (search rules) (search rules)
