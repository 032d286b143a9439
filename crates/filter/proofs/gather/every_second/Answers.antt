-- `filter::gather::every_second` meets its contract: the invariant is the first j samples filled.
use mathlib.Core.Path.{refl}
use lib.Ieee.{nan}
use Rattle.laws.specs.Places.{fill_start, fill_step, fill_end}
use Rattle.filter.specs.Fast.{every_second_of}
use borrow.Author.Rules.{rules}
use Rattle.filter.proofs.gather.every_second.Goals as goal

pub loop-j-init : goal.loop-j-init
loop-j-init c = fill_start _ _

pub loop-j-preserved : goal.loop-j-preserved
loop-j-preserved c = fill_step _ _ _ _ _ refl c.loop-j.invariant

pub returns : goal.returns
unfolding every_second_of
returns c = fill_end _ _ _ _ _ nan c.loop-j.invariant (search rules) (search rules) (search rules)
