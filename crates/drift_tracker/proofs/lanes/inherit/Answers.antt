-- `inherit` meets its contract: after k turns the first k numbers are the parents'.
use Rattle.lane_sums.specs.LaneLaws.{pairs_start, pairs_step}
use Rattle.drift_tracker.specs.Laws.{inherit_is, drifts_end}
use borrow.Author.Rules.{rules}
use Rattle.drift_tracker.proofs.lanes.inherit.Goals as goal

pub loop-k-init : goal.loop-k-init
loop-k-init c = pairs_start _ _ _

pub loop-k-preserved : goal.loop-k-preserved
loop-k-preserved c = pairs_step _ _ _ _ _ _ (inherit_is _ _ _ _ _ (search rules) c.parent-p.ensures.same c.number-z.ensures) c.loop-k.invariant

pub returns : goal.returns
returns c = drifts_end _ _ _ _ c.loop-k.invariant (search rules) (search rules)
