-- `nearest` meets its contract: from 0 to 1,024 the rounded number is a whole one that the cast keeps.
use Rattle.std.proofs.Common.{rules}
use Rattle.resampler.specs.Ranges.{whole_asks}
use Rattle.resampler.proofs.dimensions.nearest.Goals as goal

pub truncating_f64_to_u64-requires : goal.truncating_f64_to_u64-requires
truncating_f64_to_u64-requires c =
    let w = whole_asks c.args.x (search rules) c.requires in
    rw c.round.ensures (record { lower_bound = w.0; upper_bound = w.1 })

pub returns : goal.returns
returns c = rw (c.truncating_f64_to_u64.ensures, c.round.ensures)
