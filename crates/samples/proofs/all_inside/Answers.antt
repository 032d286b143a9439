-- `all_inside` meets its contract: each turn looks at one part.
use Rattle.laws.specs.Turns.{turns_start, turns_step, turns_end}
use Rattle.samples.specs.Inside.{all_inside}
use borrow.Author.Rules.{rules}
use Rattle.samples.proofs.all_inside.Goals as goal

pub loop-part-init : goal.loop-part-init
loop-part-init c = turns_start _ _

pub loop-part-preserved : goal.loop-part-preserved
loop-part-preserved c = rw c.is_inside-ok.ensures (turns_step _ _ _ _ c.loop-part.invariant)

pub returns : goal.returns
unfolding all_inside
returns c = turns_end _ _ _ _ _ c.loop-part.invariant (search rules) (search rules)
