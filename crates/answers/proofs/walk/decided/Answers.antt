-- `decided` meets its contract: dibit 0 where no symbol is known before, and else the difference of the two.
use mathlib.Core.Path.{subst}
use native.Mathlib.Omega.{arith}
use Rattle.answers.specs.Laws.{decided_is}
use Rattle.answers.specs.Walk.{Earlier}
use Rattle.answers.proofs.walk.decided.Goals as goal

pub overflow_sub-current : goal.overflow_sub-current
overflow_sub-current c = let h = subst Earlier c.in-Some.is c.requires.1 in omega arith

pub returns : goal.returns
returns c = decided_is _ _ _ _ _ _ c.in-Some.is c.dibit_of.ensures c.with_record.ensures
