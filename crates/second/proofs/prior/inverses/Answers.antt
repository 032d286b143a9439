-- `inverses` meets its contract: 8,192 turns, each storing the number of its place.
use lib.Ieee.{nan}
use Rattle.laws.specs.Places.{fill_start, fill_step, fill_end}
use Rattle.second.specs.Prior.{number_at}
use Rattle.second.specs.FreshLaws.{inverses_are}
use borrow.Author.Rules.{rules}
use Rattle.second.proofs.prior.inverses.Goals as goal

pub loop-k-init : goal.loop-k-init
loop-k-init c = fill_start _ _

pub loop-k-preserved : goal.loop-k-preserved
loop-k-preserved c = fill_step number_at _ _ _ _ (rw c.number.ensures) c.loop-k.invariant

pub returns : goal.returns
returns c = inverses_are _ (fill_end _ _ 8192 _ _ nan c.loop-k.invariant (search rules) (search rules) (search rules))
