-- `replay_drift::set_places` is safe: the array keeps its length.
use lib.ListN.{length-set}
use borrow.Author.Rules.{rules}
use Rattle.replay_drift.proofs.set_places.Goals as goal

pub loop-preserved : goal.loop-preserved
loop-preserved c = simp length-set (search rules)
