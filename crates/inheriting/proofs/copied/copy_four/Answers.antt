-- `copy_four` meets its contract: after e turns the first e numbers of the four inverses are laid.
use Rattle.inheriting.specs.Laws.{fours_start, fours_step, fours_end}
use borrow.Author.Rules.{rules}
use Rattle.inheriting.proofs.copied.copy_four.Goals as goal

pub loop-e-init : goal.loop-e-init
loop-e-init c = fours_start _ _ _ _ _ _ _

pub loop-e-preserved : goal.loop-e-preserved
loop-e-preserved c = fours_step _ _ _ _ _ _ _ _ _ _ c.copy_number.ensures c.loop-e.invariant

pub returns : goal.returns
returns c = fours_end _ _ _ _ _ _ _ _ _ c.loop-e.invariant (search rules) (search rules)
