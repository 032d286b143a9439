-- `projected` meets its contract: the sum of four products.
use Rattle.lane_sums.specs.Laws.{four_sum_is}
use Rattle.lane_sums.proofs.sums.projected.Goals as goal

pub returns : goal.returns
returns c =
    four_sum_is _ _ _ _ _ _ _ _ _ c.four_sum.ensures c.projection.ensures c.projection-2.ensures c.projection-3.ensures c.projection-4.ensures
