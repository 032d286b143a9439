-- `is_admitted` meets its contract: its three comparisons are the definition's.
use Rattle.std.proofs.Common.{refl}
use Rattle.decimator.proofs.is_admitted.Goals as goal

pub returns : goal.returns
returns c = refl
