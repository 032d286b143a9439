-- `symbols::real` meets its contract: the symbols 0 and 3 have the positive part, 1 and 2 the negative.
use Rattle.channels.specs.Laws.{real_plus, real_minus}
use borrow.Author.Rules.{rules}
use Rattle.channels.proofs.symbols.real.Goals as goal

pub returns-then-k-lt2 : goal.returns-then-k-lt2
returns-then-k-lt2 c = real_plus c.args.k (search rules) c.if-k-lt2.true

pub returns-else-k-lt2 : goal.returns-else-k-lt2
returns-else-k-lt2 c = real_minus c.args.k (search rules) (search rules)
