-- `decide` meets its contract: after i turns the first i symbols of the row are decided.
use Rattle.decisions.specs.Laws.{row_start, row_step, next_asks, row_end}
use borrow.Author.Rules.{rules}
use Rattle.decisions.proofs.decide.Goals as goal

pub loop-i-init : goal.loop-i-init
loop-i-init c = row_start _ _ _ _

pub link-t-requires : goal.link-t-requires
link-t-requires c = record { given_row = next_asks _ _ _ _ _ _ c.requires.given_row c.loop-i.invariant; at_bound = search rules }

pub loop-i-preserved : goal.loop-i-preserved
loop-i-preserved c = row_step _ _ _ _ _ _ _ c.link-t.ensures c.loop-i.invariant

pub returns : goal.returns
returns c = row_end _ _ _ _ _ _ _ c.requires.given_row c.loop-i.invariant (search rules) (search rules)
