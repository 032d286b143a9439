-- `laid` meets its contract: none, one or two values stand in the row from its next place on.
use borrow.Author.Rules.{rules}
use Rattle.front.specs.Laws.{laid_none, laid_one, laid_two}
use Rattle.front.proofs.laid.Goals as goal

pub returns-then-p-eq0 : goal.returns-then-p-eq0
returns-then-p-eq0 c = laid_none c.args.p _ c.if-p-eq0.true

pub returns-then-p-eq1 : goal.returns-then-p-eq1
returns-then-p-eq1 c =
    laid_one c.args.p _ c.if-p-eq1.true

pub returns : goal.returns
returns c =
    laid_two c.args.p _ (search rules)
