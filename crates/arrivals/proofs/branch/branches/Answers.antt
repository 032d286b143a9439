-- `branch::branches` meets its contract: each turn of the loop writes one prior's sum and the two parts of its prediction.
use lib.Ieee.{nan}
use Rattle.laws.specs.Places.{fill_start, fill_end}
use Rattle.arrivals.specs.Laws.{sum_step, real_step, imaginary_step}
use borrow.Author.Rules.{rules}
use Rattle.arrivals.proofs.branch.branches.Goals as goal

pub loop-p-init : goal.loop-p-init
loop-p-init c = (fill_start _ _, fill_start _ _, fill_start _ _)

pub loop-p-preserved : goal.loop-p-preserved
loop-p-preserved c =
    let filled = c.loop-p.invariant in (
      sum_step _ _ _ _ _ _ _ _ _ _ _ c.predicted-prediction.ensures c.metric-m.ensures filled.0,
      real_step _ _ _ _ _ _ _ c.predicted-prediction.ensures filled.1,
      imaginary_step _ _ _ _ _ _ _ c.predicted-prediction.ensures filled.2,
    )

pub returns : goal.returns
returns c = (
  fill_end _ _ 64 _ _ nan c.loop-p.invariant.0 (search rules) (search rules) (search rules),
  fill_end _ _ 64 _ _ nan c.loop-p.invariant.1 (search rules) (search rules) (search rules),
  fill_end _ _ 64 _ _ nan c.loop-p.invariant.2 (search rules) (search rules) (search rules),
)
