-- `symbol_of` meets its contract: one law for each of the four.
use Rattle.drift_tracker.specs.Laws.{newest_is, last_is, earlier_is, first_is}
use borrow.Author.Rules.{rules}
use Rattle.drift_tracker.proofs.regressor.symbol_of.Goals as goal

pub returns-then-t-eq0 : goal.returns-then-t-eq0
returns-then-t-eq0 c =
    let given = c.args in
    newest_is given.s given.p given.t _ c.if-t-eq0.true c.symbol.ensures

pub returns-then-t-eq1 : goal.returns-then-t-eq1
returns-then-t-eq1 c =
    let given = c.args in
    last_is given.s given.p given.t _ c.if-t-eq1.true c.symbol-then-t-eq1.ensures

pub returns-then-t-eq2 : goal.returns-then-t-eq2
returns-then-t-eq2 c =
    let given = c.args in
    earlier_is given.s given.p given.t _ c.if-t-eq2.true c.symbol-then-t-eq2.ensures

pub returns : goal.returns
returns c =
    let given = c.args in
    first_is given.s given.p given.t _ (search rules) c.symbol-2.ensures
