-- `is_usable` meets its contract: reliable, finite, above the least power.
use Rattle.answers.proofs.combine.is_usable.Goals as goal

pub returns : goal.returns
returns c = rw c.is_finite.ensures
