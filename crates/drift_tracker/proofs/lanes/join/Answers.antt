-- `join` meets its contract: after k turns the first k points are laid.
use Rattle.lane_sums.specs.LaneLaws.{pairs_start, pairs_step}
use Rattle.drift_tracker.specs.Laws.{joined_is}
use borrow.Author.Rules.{rules}
use Rattle.drift_tracker.proofs.lanes.join.Goals as goal

pub loop-k-init : goal.loop-k-init
loop-k-init c = pairs_start _ _ _

pub loop-k-preserved : goal.loop-k-preserved
loop-k-preserved c = pairs_step _ _ _ _ _ _ c.point-z.ensures c.loop-k.invariant

pub returns : goal.returns
returns c = joined_is _ _ _ _ c.loop-k.invariant (search rules) (search rules)
