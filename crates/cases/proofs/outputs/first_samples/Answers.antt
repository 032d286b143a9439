-- `cases::outputs::first_samples` is safe: a fresh resampler may be run.
use lib.Ieee.{of_bits, le}
use Rattle.std.proofs.Common.{refl}
use Rattle.resampler.specs.Dimensions.{fresh_of}
use Rattle.resampler.specs.Ranges.{fresh_admitted}
use Rattle.cases.proofs.outputs.first_samples.Goals as goal

pub sized-dimensions-requires : goal.sized-dimensions-requires
unfolding of_bits le
sized-dimensions-requires c = record { range = record { lower = tt; upper = tt } }

pub pass-requires : goal.pass-requires
unfolding fresh_of
pass-requires c =
    rw c.fresh-fresh.ensures (record { admitted = fresh_admitted _ c.sized-dimensions.ensures.ranges; index_value = refl })
