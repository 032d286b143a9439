-- `deliver` meets its contract: after i turns the first i answers of the row are delivered.
use Rattle.delivery.specs.Laws.{row_start, row_step, row_asks, row_end}
use borrow.Author.Rules.{rules}
use Rattle.delivery.proofs.deliver.Goals as goal

pub loop-i-init : goal.loop-i-init
loop-i-init c = row_start _ _ _

pub step-t-requires : goal.step-t-requires
step-t-requires c = row_asks _ _ _ _ _ _ c.requires.given c.loop-i.invariant (search rules)

pub loop-i-preserved : goal.loop-i-preserved
loop-i-preserved c = row_step _ _ _ _ _ _ _ _ _ _ c.answer_at.ensures c.is_told_at.ensures c.paired-answer.ensures c.is_locked_at-locked.ensures c.step-t.ensures c.loop-i.invariant

pub returns : goal.returns
returns c = row_end _ _ _ _ _ _ c.requires.given c.loop-i.invariant (search rules) (search rules)
