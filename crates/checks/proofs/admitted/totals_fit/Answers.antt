-- `totals_fit` meets its contract: beyond 2^52 samples it fails at once, and within them no product overflows.
use Rattle.checks.specs.AdmittedTests.{totals_beyond, totals_within}
use borrow.Author.Rules.{rules}
use Rattle.checks.proofs.admitted.totals_fit.Goals as goal

pub returns-then-total-gt-LIMIT : goal.returns-then-total-gt-LIMIT
returns-then-total-gt-LIMIT c = totals_beyond _ _ _ _ c.if-total-gt-LIMIT.true

pub returns : goal.returns
returns c = totals_within _ _ _ _ (search rules)
