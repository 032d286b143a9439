-- `is_admitted` meets its contract: its one comparison is the definition's.
use mathlib.Core.Path.{refl}
use Rattle.oscillator.proofs.is_admitted.Goals as goal

pub returns : goal.returns
returns c = refl
