-- `signal::missed` meets its contract: the distance is that of the size, which `abs` gives.
use Rattle.signal.proofs.missed.Goals as goal

pub returns : goal.returns
returns c = rw c.abs-distance.ensures
