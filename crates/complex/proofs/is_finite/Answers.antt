-- `is_finite` meets its contract: both parts are finite.
use Rattle.complex.proofs.is_finite.Goals as goal

pub returns : goal.returns
returns c = cc
