-- `signal::plain::power_run` meets its contract: the invariant is the power of the first i points.
use Rattle.std.proofs.Common.{◌∙◌, rules}
use Rattle.laws.specs.Turns.{turns_start, turns_step, turns_end}
use Rattle.signal.proofs.plain.power_run.Goals as goal

pub loop-i-init : goal.loop-i-init
loop-i-init c = turns_start _ _

pub loop-i-preserved : goal.loop-i-preserved
loop-i-preserved c = c.with_point-power.ensures ∙ turns_step _ _ _ _ c.loop-i.invariant

pub returns : goal.returns
returns c = turns_end _ _ _ _ _ c.loop-i.invariant (search rules) (search rules)
