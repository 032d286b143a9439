-- `signal::paired` meets its contract: it is zero where one of the two is absent, and else what `rotated` gives.
use Rattle.signal.proofs.paired.Goals as goal

pub returns : goal.returns
returns c = cc
