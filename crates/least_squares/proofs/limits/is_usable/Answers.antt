-- `is_usable` meets its contract.
use Rattle.least_squares.proofs.limits.is_usable.Goals as goal

pub returns : goal.returns
returns c = rw c.is_finite.ensures
