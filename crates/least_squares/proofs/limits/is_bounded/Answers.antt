-- `is_bounded` meets its contract.
use Rattle.least_squares.proofs.limits.is_bounded.Goals as goal

pub returns : goal.returns
returns c = rw c.is_finite.ensures
