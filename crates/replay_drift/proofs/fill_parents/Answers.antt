-- `replay_drift::fill_parents` fills the table with states.
use Rattle.replay_detector.specs.Below.{below_none, below_more}
use borrow.Author.Rules.{rules}
use Rattle.replay_drift.proofs.fill_parents.Goals as goal

pub loop-i-init : goal.loop-i-init
loop-i-init c = below_none _

pub loop-i-preserved : goal.loop-i-preserved
loop-i-preserved c = below_more _ _ _ (search rules) c.parent.ensures c.loop-i.invariant

pub returns : goal.returns
returns c = record { below = λ i h. c.loop-i.invariant.below i (search (rules, h)) }
