-- `denominator` meets its contract: 0.8 and four products.
use lib.Ieee.{binary32, add}
use Rattle.least_squares.specs.LeastSquares.{memory}
use Rattle.lane_sums.proofs.sums.denominator.Goals as goal

pub returns : goal.returns
returns c =
    let first = c.weight.ensures in
    λ i. add binary32 (add binary32 (add binary32 (add binary32 memory (first i)) (c.weight-2.ensures i)) (c.weight-3.ensures i)) (c.weight-4.ensures i)
