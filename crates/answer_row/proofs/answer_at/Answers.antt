-- `answer_at` meets its contract: the three bytes where the flag says that there is a dibit.
use Rattle.answer_row.specs.Laws.{answer_told, answer_silent}
use Rattle.answer_row.proofs.answer_at.Goals as goal

pub returns-then-flags-at : goal.returns-then-flags-at
returns-then-flags-at c = answer_told _ _ c.if-flags-at.true

pub returns : goal.returns
returns c = answer_silent _ _ c.if-flags-at.false
