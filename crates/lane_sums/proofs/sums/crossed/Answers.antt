-- `crossed` meets its contract: the sum of four products.
use Rattle.lane_sums.specs.Laws.{four_sum_is}
use Rattle.lane_sums.proofs.sums.crossed.Goals as goal

pub returns : goal.returns
returns c =
    four_sum_is _ _ _ _ _ _ _ _ _ c.four_sum.ensures c.crossing.ensures c.crossing-2.ensures c.crossing-3.ensures c.crossing-4.ensures
