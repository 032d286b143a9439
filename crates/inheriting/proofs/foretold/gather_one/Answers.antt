-- `gather_one` meets its contract: after x turns the first x numbers of each quarter are laid.
use Rattle.inheriting.specs.Foretold.{foretold_start, foretold_step, foretold_end}
use borrow.Author.Rules.{rules}
use Rattle.inheriting.proofs.foretold.gather_one.Goals as goal

pub loop-x-init : goal.loop-x-init
loop-x-init c = foretold_start _ _ _ _ _ _ _

pub loop-x-preserved : goal.loop-x-preserved
loop-x-preserved c = foretold_step _ _ _ _ _ _ _ _ _ _ c.foretell_one.ensures c.loop-x.invariant

pub returns : goal.returns
returns c = foretold_end _ _ _ _ _ _ _ _ _ c.loop-x.invariant (search rules) (search rules)
