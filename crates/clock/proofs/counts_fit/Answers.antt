-- `clock::counts_fit` meets its contract: the three ways (warm and in range, warm and beyond it, cold) are the definition's.
use Rattle.clock.specs.AdmittedLaws.{counts_warm, counts_beyond, counts_cold}
use Rattle.std.proofs.Common.{rules}
use Rattle.clock.proofs.counts_fit.Goals as goal

pub returns-then-c-le12 : goal.returns-then-c-le12
returns-then-c-le12 c =
    let warm = c.if-c.true in
    counts_warm _ warm c.if-c-le12.true

pub returns-then-c : goal.returns-then-c
returns-then-c c = counts_beyond _ c.if-c.true (search rules)

pub returns : goal.returns
returns c = counts_cold _ c.if-c.false
