-- `front_at` meets its contract: each part is fresh for the rate, the offset and the dimensions.
use Rattle.receiver.proofs.setup.front_at.Goals as goal

pub returns : goal.returns
returns c = rw (c.fresh-resampler.ensures, c.fresh-decimator.ensures, c.fresh-oscillator.ensures)
