-- `decimate` meets its contract: what `released` leaves, and its sums scaled.
use Rattle.decimator.proofs.decimate.Goals as goal

pub returns : goal.returns
returns c = rw (c.scaled.ensures, c.released-r.ensures)
