-- `choice::interleave` meets its contract: each turn of the loop writes the four states that share a q, one for each symbol.
use lib.Ieee.{nan}
use Rattle.laws.specs.Turns.{turns_start, turns_step}
use Rattle.arrivals.specs.Runs.{fours_turn, fours_end}
use borrow.Author.Rules.{rules}
use Rattle.arrivals.proofs.choice.interleave.Goals as goal

pub loop-q-init : goal.loop-q-init
loop-q-init c = turns_start _ _

pub loop-q-preserved : goal.loop-q-preserved
unfolding fours_turn
loop-q-preserved c =
    turns_step _ _ _ _ c.loop-q.invariant

pub returns : goal.returns
returns c = fours_end _ nan _ _ _ c.loop-q.invariant (search rules) (search rules) c.requires
