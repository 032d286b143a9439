-- `prior` meets its contract: the diagonal's doubts, and 0 beside it.
use mathlib.Core.Path.{refl}
use borrow.Author.Tests.{eq-eqb, ne_eqb}
use Rattle.laws.specs.Branches.{cond_then, cond_no}
use Rattle.second.proofs.prior.prior.Goals as goal

pub returns-then-row-column : goal.returns-then-row-column
returns-then-row-column c = cond_then _ _ _ _ (eq-eqb _ _ c.if-row-column.true) c.doubt.ensures

pub returns-else-row-column : goal.returns-else-row-column
returns-else-row-column c = cond_no _ _ _ _ (ne_eqb _ _ c.if-row-column.false) refl
