-- `summed` meets its contract: each turn adds a product to each part, in the order of the definition.
use Rattle.std.proofs.Common.{rules}
use Rattle.resampler.specs.Loops.{run_of}
use Rattle.laws.specs.Turns.{turns_start, turns_step, turns_end}
use Rattle.resampler.proofs.pass.summed.Goals as goal

pub loop-i-init : goal.loop-i-init
loop-i-init c = turns_start _ _

pub loop-i-preserved : goal.loop-i-preserved
loop-i-preserved c = turns_step _ _ _ _ c.loop-i.invariant

pub returns : goal.returns
unfolding run_of
returns c = turns_end _ _ _ _ _ c.loop-i.invariant (search rules) (search rules)
