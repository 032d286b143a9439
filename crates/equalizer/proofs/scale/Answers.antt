-- `equalizer::scale` meets its contract: the invariant is the weights after k turns.
use Rattle.laws.specs.Turns.{turns_start, turns_step, turns_end}
use Rattle.equalizer.specs.Equalizer.{scaled_by}
use borrow.Author.Rules.{rules}
use Rattle.equalizer.proofs.scale.Goals as goal

pub loop-k-init : goal.loop-k-init
loop-k-init c = turns_start _ _

pub loop-k-preserved : goal.loop-k-preserved
loop-k-preserved c = turns_step _ _ _ _ c.loop-k.invariant

pub returns : goal.returns
unfolding scaled_by
returns c = turns_end _ _ _ _ _ c.loop-k.invariant (search rules) (search rules)
