-- `project` meets its contract: after i rows of l lanes the first 16 i + l sums are laid.
use Rattle.lane_sums.specs.LaneLaws.{pairs_start, from_start, from_step, from_end, lanes_end}
use Rattle.lane_sums.specs.Laws.{project_is}
use borrow.Author.Rules.{rules}
use Rattle.lane_sums.proofs.sums.project.Goals as goal

pub loop-i-init : goal.loop-i-init
loop-i-init c = pairs_start _ _ _

pub loop-l-init : goal.loop-l-init
loop-l-init c = from_start _ _ _ _

pub loop-l-preserved : goal.loop-l-preserved
loop-l-preserved c =
    let row = c.loop-l.invariant in
    from_step _ _ _ _ _ _ _ (project_is _ _ _ _ _ (search rules) (search rules) c.projected-z.ensures) row

pub loop-i-preserved : goal.loop-i-preserved
loop-i-preserved c =
    let row = c.loop-l.invariant in
    let rows = c.loop-i.invariant in
    from_end _ _ _ _ _ _ _ _ row rows (search rules)

pub returns : goal.returns
returns c = lanes_end _ _ _ _ _ c.loop-i.invariant (search rules) (search rules)
