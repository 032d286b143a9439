-- `filter::sums::four_sums` meets its contract: the invariant is the sums over the first 2 j taps.
use mathlib.Core.Path.{◌∙◌}
use Rattle.filter.proofs.Laws.{four_start, four_even, four_odd, four_last}
use borrow.Author.Rules.{rules}
use Rattle.filter.proofs.sums.four_sums.Goals as goal

pub loop-j-init : goal.loop-j-init
loop-j-init c = c.no_sums-s.ensures ∙ four_start _ _ _ _ _

pub loop-j-preserved : goal.loop-j-preserved
loop-j-preserved c = c.tapped_four-s-in-loop-j.ensures ∙ four_odd _ _ _ _ _ _ _ _ _ (c.tapped_four-s.ensures ∙ four_even _ _ _ _ _ _ _ _ _ c.loop-j.invariant)

pub returns : goal.returns
returns c = c.tapped_four.ensures ∙ four_last _ _ _ _ _ _ _ _ _ c.loop-j.invariant (search rules) (search rules)
