-- `still_finite` meets its contract: finite so far, and both parts are.
use Rattle.samples.proofs.still_finite.Goals as goal

pub returns : goal.returns
returns c = rw (c.is_finite-2.ensures, c.is_finite.ensures)
