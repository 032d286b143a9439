-- `prior_of` meets its contract.
use borrow.Author.Tests.{le-ltb, lt-ltb}
use Rattle.least_squares.specs.Layout.{prior_at}
use Rattle.least_squares.proofs.limits.prior_of.Goals as goal

pub returns-then-e-gt0 : goal.returns-then-e-gt0
unfolding prior_at
returns-then-e-gt0 c = simp (lt-ltb _ _ c.if-e-gt0.true)

pub returns-then-e-lt36 : goal.returns-then-e-lt36
unfolding prior_at
returns-then-e-lt36 c = simp (le-ltb _ _ c.if-e-gt0.false, lt-ltb _ _ c.if-e-lt36.true)

pub returns-else-e-lt36 : goal.returns-else-e-lt36
unfolding prior_at
returns-else-e-lt36 c = simp (le-ltb _ _ c.if-e-gt0.false, le-ltb _ _ c.if-e-lt36.false)
