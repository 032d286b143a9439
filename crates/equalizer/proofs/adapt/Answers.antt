-- `equalizer::adapt` meets its contract: the invariant is the weights after k turns.
use Rattle.laws.specs.Turns.{turns_start, turns_step, turns_end}
use Rattle.equalizer.specs.Equalizer.{adapted_of}
use borrow.Author.Rules.{rules}
use Rattle.equalizer.proofs.adapt.Goals as goal

pub loop-k-init : goal.loop-k-init
loop-k-init c = turns_start _ _

pub loop-k-preserved : goal.loop-k-preserved
loop-k-preserved c = turns_step _ _ _ _ c.loop-k.invariant

pub returns : goal.returns
unfolding adapted_of
returns c = turns_end _ _ _ _ _ c.loop-k.invariant (search rules) (search rules)
