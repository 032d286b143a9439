-- `signal::plain::error` meets its contract: the two distances are of the sizes that `size` gives.
use Rattle.signal.proofs.plain.error.Goals as goal

pub returns : goal.returns
returns c = rw (c.size-up.ensures, c.size-across.ensures)
