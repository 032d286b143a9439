-- `largest` meets its contract: 2,048 turns of the larger of two.
use mathlib.Core.Path.{◌∙◌}
use Rattle.laws.specs.Turns.{turns_start, turns_step, turns_end}
use Rattle.sequence.specs.Admitted.{largest_of}
use borrow.Author.Rules.{rules}
use Rattle.sequence.proofs.admitted.largest.Goals as goal

pub loop-parent-init : goal.loop-parent-init
loop-parent-init c = turns_start _ _

pub loop-parent-preserved : goal.loop-parent-preserved
loop-parent-preserved c = c.most-found.ensures ∙ turns_step _ _ _ _ c.loop-parent.invariant

pub returns : goal.returns
unfolding largest_of
returns c = turns_end _ _ _ _ _ c.loop-parent.invariant (search rules) (search rules)
