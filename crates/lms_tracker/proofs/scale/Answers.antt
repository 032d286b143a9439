-- `follow::scale` meets its contract: the four places of the state's taps are multiplied by the gain.
use mathlib.Core.Path.{refl}
use Rattle.lms_tracker.specs.Layout.{scaled_column}
use Rattle.channels.specs.Stripes.{column}
use Rattle.lms_tracker.proofs.scale.Goals as goal

pub returns : goal.returns
unfolding scaled_column column
returns c = refl
