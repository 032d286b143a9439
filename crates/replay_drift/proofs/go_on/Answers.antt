-- `replay_drift::go_on` keeps the taps' lengths.
use Rattle.replay_drift.specs.Sized.{advanced_real, advanced_imaginary}
use Rattle.replay_drift.proofs.go_on.Goals as goal

pub returns : goal.returns
returns c = (advanced_real _ _ _ c.advance.ensures, advanced_imaginary _ _ _ c.advance.ensures)
