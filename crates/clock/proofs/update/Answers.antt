-- `clock::update` meets its contract: the invariant is rate and phase after so many turns.
use Rattle.std.proofs.Common.{rules}
use lib.Ieee.{of_bits, neg}
use Rattle.laws.specs.Turns.{turns_start, turns_step}
use Rattle.clock.proofs.Laws.{update_is}
use Rattle.clock.proofs.update.Goals as goal

pub loop-turn-init : goal.loop-turn-init
loop-turn-init c = turns_start _ _

pub loop-turn-preserved : goal.loop-turn-preserved
loop-turn-preserved c = turns_step _ _ _ _ c.loop-turn.invariant

pub returns : goal.returns
unfolding of_bits neg
returns c = update_is _ _ _ _ _ _ c.loop-turn.invariant (search rules) (search rules) c.clamp.ensures
