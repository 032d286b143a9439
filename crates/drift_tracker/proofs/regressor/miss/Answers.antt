-- `miss` meets its contract: after l turns the first l errors are laid.
use Rattle.lane_sums.specs.LaneLaws.{pairs_start, pairs_step, pairs_end}
use borrow.Author.Rules.{rules}
use Rattle.drift_tracker.proofs.regressor.miss.Goals as goal

pub loop-l-init : goal.loop-l-init
loop-l-init c = pairs_start _ _ _

pub loop-l-preserved : goal.loop-l-preserved
loop-l-preserved c = pairs_step _ _ _ _ _ _ c.subtracted-z.ensures c.loop-l.invariant

pub returns : goal.returns
returns c = pairs_end _ _ _ _ _ c.loop-l.invariant (search rules) (search rules)
