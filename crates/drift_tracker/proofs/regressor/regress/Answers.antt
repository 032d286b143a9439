-- `regress` meets its contract: after t rows of l lanes the first 16 t + l symbols are laid.
use Rattle.lane_sums.specs.LaneLaws.{pairs_start, from_start, from_step, from_end, lanes_end}
use Rattle.drift_tracker.specs.Laws.{regress_is}
use borrow.Author.Rules.{rules}
use Rattle.drift_tracker.proofs.regressor.regress.Goals as goal

pub loop-t-init : goal.loop-t-init
loop-t-init c = pairs_start _ _ _

pub loop-l-init : goal.loop-l-init
loop-l-init c = from_start _ _ _ _

pub loop-l-preserved : goal.loop-l-preserved
loop-l-preserved c =
    let row = c.loop-l.invariant in
    let t = c.loop-t.t in
    let l = c.loop-l.l in
    from_step _ _ _ _ _ _ _ (regress_is _ _ t l _ _ (search rules) c.parent-p.ensures.same c.symbol_of-z.ensures) row

pub loop-t-preserved : goal.loop-t-preserved
loop-t-preserved c =
    let row = c.loop-l.invariant in
    let rows = c.loop-t.invariant in
    from_end _ _ _ _ _ _ _ _ row rows (search rules)

pub returns : goal.returns
returns c = lanes_end _ _ _ _ _ c.loop-t.invariant (search rules) (search rules)
