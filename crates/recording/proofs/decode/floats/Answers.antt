-- `decode::floats` meets its contract: each turn of the loop stores one float, and what lies after them stays.
use Rattle.std.proofs.Common.{rules}
use Rattle.laws.specs.Places.{fill_start, fill_step}
use Rattle.recording.specs.DecodeLaws.{filled_end}
use Rattle.recording.proofs.decode.floats.Goals as goal

pub loop-i-init : goal.loop-i-init
loop-i-init c = fill_start _ _

pub loop-i-preserved : goal.loop-i-preserved
loop-i-preserved c = fill_step _ _ _ _ _ (rw c.float32.ensures) c.loop-i.invariant

pub returns : goal.returns
returns c = filled_end _ _ _ _ _ c.loop-i.invariant (search rules) (search rules) (search rules)
