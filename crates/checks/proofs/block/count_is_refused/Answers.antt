-- `count_is_refused` meets its contract: beyond 65,536 samples it refuses at once, and within them the sum does not overflow.
use Rattle.checks.specs.Ways.{count_many, count_few}
use borrow.Author.Rules.{rules}
use Rattle.checks.proofs.block.count_is_refused.Goals as goal

pub returns-then-n-gt65536 : goal.returns-then-n-gt65536
returns-then-n-gt65536 c = count_many _ _ c.if-n-gt65536.true

pub returns : goal.returns
returns c = count_few _ _ (search rules)
