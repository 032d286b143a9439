-- `replay_detector::fill_parents` fills the table with states.
use Rattle.std.proofs.Common.{length-set, rules}
use Rattle.replay_detector.specs.Below.{below_none, below_more}
use Rattle.replay_detector.proofs.fill_parents.Goals as goal

pub loop-i-init : goal.loop-i-init
loop-i-init c = (search rules, below_none _)

pub loop-i-preserved : goal.loop-i-preserved
loop-i-preserved c = (simp length-set (search rules), below_more _ _ _ (search rules) c.parent.ensures c.loop-i.invariant.1)

pub returns : goal.returns
returns c = (record { below = λ i h. c.loop-i.invariant.1.below i (search (rules, h)) }, search rules)
