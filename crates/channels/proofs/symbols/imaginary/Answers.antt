-- `symbols::imaginary` meets its contract: the symbols 0 and 1 have the positive part, 2 and 3 the negative.
use Rattle.channels.specs.Laws.{imaginary_plus, imaginary_minus}
use borrow.Author.Rules.{rules}
use Rattle.channels.proofs.symbols.imaginary.Goals as goal

pub returns-then-k-lt2 : goal.returns-then-k-lt2
returns-then-k-lt2 c = imaginary_plus _ c.if-k-lt2.true

pub returns-else-k-lt2 : goal.returns-else-k-lt2
returns-else-k-lt2 c = imaginary_minus c.args.k (search rules) (search rules)
