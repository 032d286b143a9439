-- `equalizer::norm` meets its contract: the invariant is the sum of the first k powers.
use Rattle.laws.specs.Turns.{turns_start, turns_step, turns_end}
use Rattle.equalizer.specs.Equalizer.{norm_of}
use borrow.Author.Rules.{rules}
use Rattle.equalizer.proofs.norm.Goals as goal

pub loop-k-init : goal.loop-k-init
loop-k-init c = turns_start _ _

pub loop-k-preserved : goal.loop-k-preserved
loop-k-preserved c = turns_step _ _ _ _ c.loop-k.invariant

pub returns : goal.returns
unfolding norm_of
returns c = turns_end _ _ _ _ _ c.loop-k.invariant (search rules) (search rules)
