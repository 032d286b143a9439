-- `placed` meets its contract: 64 x is exact, and half its whole part, rounded up, is 32 x rounded half away.
use Rattle.std.proofs.Common.{T, rules}
use lib.Ieee.{binary64, of_bits, fits}
use Rattle.resampler.specs.Scaled.{above_minus_one, below_2_64, placed_code, placed_near}
use Rattle.resampler.proofs.pass.placed.Goals as goal

pub truncating_f64_to_u64-h-requires : goal.truncating_f64_to_u64-h-requires
unfolding of_bits
truncating_f64_to_u64-h-requires c = record { lower_bound = above_minus_one c.args.x c.requires; upper_bound = below_2_64 c.args.x c.requires }

pub returns : goal.returns
unfolding of_bits
returns c =
    let f : T (fits binary64 c.args.x) = search rules in
    let e = placed_code c.args.x c.requires f c.truncating_f64_to_u64-h.result c.truncating_f64_to_u64-h.ensures in
    record { same = e; near = placed_near c.args.x c.requires f _ e }
