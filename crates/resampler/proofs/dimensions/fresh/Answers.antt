-- `fresh` meets its contract: half an arm as an f64 is where the first output lies.
use Rattle.resampler.specs.Dimensions.{fresh_of}
use Rattle.resampler.proofs.dimensions.fresh.Goals as goal

pub returns : goal.returns
unfolding fresh_of
returns c = rw c.nearest_u64_to_f64.ensures
