-- `sounded` meets its contract: what `released` leaves, as an `Advance`.
use Rattle.decimator.proofs.sounded.Goals as goal

pub returns : goal.returns
returns c = rw c.released-r.ensures
