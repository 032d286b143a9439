-- `best::take_off` meets its contract: each turn of the loop takes the cost off one state.
use Rattle.laws.specs.Turns.{turns_start, turns_step}
use Rattle.trellis.specs.Laws.{off_turn, off_end}
use borrow.Author.Rules.{rules}
use Rattle.trellis.proofs.best.take_off.Goals as goal

pub loop-cost-init : goal.loop-cost-init
loop-cost-init c = turns_start _ _

pub loop-cost-preserved : goal.loop-cost-preserved
unfolding off_turn
loop-cost-preserved c = turns_step _ _ _ _ c.loop-cost.invariant

pub returns : goal.returns
returns c = off_end _ _ _ _ c.loop-cost.invariant (search rules) (search rules) (search rules)
