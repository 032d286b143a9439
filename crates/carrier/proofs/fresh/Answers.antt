-- `fresh` meets its contract: a loop of zeros around a fresh detector.
use Rattle.carrier.proofs.fresh.Goals as goal

pub returns : goal.returns
returns c = rw c.fresh.ensures
