-- `diagonal` meets its contract: the conjugate of the mean, where both numbers are one.
use Rattle.least_squares.proofs.entry.diagonal.Goals as goal

pub returns : goal.returns
returns c = rw (c.reduced-z.ensures, c.requires.far_of_u)
