-- `fresh` meets its contract: every number is 0. Assumes nothing.
use Rattle.std.proofs.Common.{refl}
use Rattle.decimator.specs.Decimator.{fresh_of}
use Rattle.decimator.proofs.fresh.Goals as goal

pub returns : goal.returns
unfolding fresh_of
returns c = refl
