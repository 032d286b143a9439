-- `renormalized` meets its contract: both parts over the square root that `sqrt` gives.
use Rattle.oscillator.proofs.renormalized.Goals as goal

pub returns : goal.returns
returns c = cc
