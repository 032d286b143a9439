-- `weigh` meets its contract: what the symbols project, the denominator, the gain and the row, one after the other.
use Rattle.lane_sums.specs.Laws.{weigh_denominator, weigh_gain}
use Rattle.lane_sums.proofs.weigh.weigh.Goals as goal

pub returns : goal.returns
returns c =
    let projected = c.project.ensures in
    let denominator = c.denominators.ensures in
    let gain = c.divide.ensures in
    record { gain_after = weigh_gain _ _ _ _ _ projected denominator gain; row_after = c.cross.ensures; d_after = weigh_denominator _ _ _ _ projected denominator }
