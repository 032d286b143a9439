-- `inherit_all` meets its contract: after g turns the first g groups have their parents' inverses.
use Rattle.drift_tracker.specs.Laws.{inverses_start, inverses_end, inverse_kept}
use borrow.Author.Rules.{rules}
use Rattle.drift_tracker.proofs.follow.inherit_all.Goals as goal

pub loop-g-init : goal.loop-g-init
loop-g-init c = inverses_start _ _ (search rules)

pub loop-g-preserved : goal.loop-g-preserved
loop-g-preserved c = inverse_kept _ _ _ _ _ _ c.inherit_inverses.ensures c.loop-g.invariant

pub returns : goal.returns
returns c = inverses_end _ _ _ _ c.loop-g.invariant (search rules)
