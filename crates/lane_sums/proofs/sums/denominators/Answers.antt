-- `denominators` meets its contract: after l turns the first l lanes are done.
use lib.Ieee.{nan}
use Rattle.laws.specs.Places.{fill_start, fill_end}
use Rattle.lane_sums.specs.Laws.{denominator_step}
use borrow.Author.Rules.{rules}
use Rattle.lane_sums.proofs.sums.denominators.Goals as goal

pub loop-l-init : goal.loop-l-init
loop-l-init c = fill_start _ _

pub loop-l-preserved : goal.loop-l-preserved
loop-l-preserved c =
    let laid = c.loop-l.invariant in
    denominator_step _ _ _ _ _ _ c.denominator.ensures laid

pub returns : goal.returns
returns c = fill_end _ _ 16 _ _ nan c.loop-l.invariant (search rules) (search rules) (search rules)
