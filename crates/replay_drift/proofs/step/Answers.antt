-- `replay_drift::step` keeps the tracker's lengths.
use Rattle.replay_drift.specs.Sized.{followed_sized}
use Rattle.replay_drift.proofs.step.Goals as goal

pub returns : goal.returns
returns c = followed_sized _ _ _ _ _ _ c.follow.ensures
