-- `is_admitted` meets its contract: sizes and ranges in turn, and then whether the next output waits.
use Rattle.resampler.specs.AdmittedLaws.{sizes_dimensioned, ranges_far}
use Rattle.resampler.specs.Pass.{admitted_of}
use Rattle.resampler.proofs.pass.is_admitted.Goals as goal

pub placed-requires : goal.placed-requires
placed-requires c =
    ranges_far c.args.r c.has_ranges.result c.has_ranges.ensures c.if-has_ranges.true

pub is_waiting-requires : goal.is_waiting-requires
is_waiting-requires c =
    let has_sizes = c.has_sizes in
    record { dimensioned = sizes_dimensioned c.args.r has_sizes.result has_sizes.ensures c.if-has_sizes.true; near = c.placed.ensures.near }

pub returns-then-has_ranges : goal.returns-then-has_ranges
unfolding admitted_of
returns-then-has_ranges c =
    let has_sizes = c.has_sizes in
    let test = c.if-has_sizes in
    rw (← has_sizes.ensures, test.true, ← c.has_ranges.ensures, c.if-has_ranges.true, ← c.placed.ensures.same) c.is_waiting.ensures

pub returns-else-has_ranges : goal.returns-else-has_ranges
unfolding admitted_of
returns-else-has_ranges c = rw (← c.has_sizes.ensures, c.if-has_sizes.true, ← c.has_ranges.ensures, c.if-has_ranges.false)

pub returns-else-has_sizes : goal.returns-else-has_sizes
unfolding admitted_of
returns-else-has_sizes c = rw (← c.has_sizes.ensures, c.if-has_sizes.false)
