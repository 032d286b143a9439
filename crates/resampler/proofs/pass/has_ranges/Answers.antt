-- `has_ranges` meets its contract: above 2^52 the answer is no, and else the four comparisons.
use Rattle.std.proofs.Common.{le-ltb, lt-ltb}
use Rattle.resampler.specs.Pass.{ranges_ok}
use Rattle.resampler.proofs.pass.has_ranges.Goals as goal

pub returns-then-r-gt-LIMIT : goal.returns-then-r-gt-LIMIT
unfolding ranges_ok
returns-then-r-gt-LIMIT c = rw (lt-ltb _ _ c.if-r-gt-LIMIT.true)

pub returns : goal.returns
unfolding ranges_ok
returns c =
    let test = c.if-r-gt-LIMIT in
    let nearest_u64_to_f64 = c.nearest_u64_to_f64-end in
    rw (le-ltb _ _ test.false, nearest_u64_to_f64.ensures)
