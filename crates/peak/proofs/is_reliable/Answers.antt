-- `peak::is_reliable` meets its contract: its two tests are the definition's.
use mathlib.Core.Path.{refl}
use Rattle.peak.specs.Peak.{reliable_of}
use Rattle.peak.proofs.is_reliable.Goals as goal

pub returns : goal.returns
unfolding reliable_of
returns c = refl
