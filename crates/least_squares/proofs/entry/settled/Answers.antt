-- `settled` meets its contract: the mean of the number and of the conjugate of the one across.
use Rattle.least_squares.proofs.entry.settled.Goals as goal

pub returns : goal.returns
returns c = rw (c.reduced-y.ensures, c.reduced-x.ensures)
