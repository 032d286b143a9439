-- `has_sizes` meets its contract: above 576 the answer is no, and else the three comparisons.
use Rattle.std.proofs.Common.{le-ltb, lt-ltb}
use Rattle.resampler.specs.Pass.{sizes_ok}
use Rattle.resampler.proofs.pass.has_sizes.Goals as goal

pub returns-then-r-gt576 : goal.returns-then-r-gt576
unfolding sizes_ok
returns-then-r-gt576 c = rw (lt-ltb _ _ c.if-r-gt576.true)

pub returns : goal.returns
unfolding sizes_ok
returns c =
    let test = c.if-r-gt576 in
    rw (le-ltb _ _ test.false)
