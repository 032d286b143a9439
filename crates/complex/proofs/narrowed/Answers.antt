-- `narrowed` meets its contract: both parts are narrowed.
use Rattle.complex.proofs.narrowed.Goals as goal

pub returns : goal.returns
returns c = cc
