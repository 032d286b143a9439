-- `divide` meets its contract: each of the first places is divided by the sum and multiplied by 32, once.
use Rattle.std.proofs.Common.{rules}
use Rattle.resampler.specs.Loops.{divided_of}
use Rattle.laws.specs.Turns.{turns_start, turns_step, turns_end}
use Rattle.resampler.proofs.design.divide.Goals as goal

pub loop-i-init : goal.loop-i-init
loop-i-init c = turns_start _ _

pub loop-i-preserved : goal.loop-i-preserved
loop-i-preserved c = turns_step _ _ _ _ c.loop-i.invariant

pub returns : goal.returns
unfolding divided_of
returns c = turns_end _ _ _ _ _ c.loop-i.invariant (search rules) (search rules)
