-- `observed` meets its contract: both observations where the tap and the value are of use, and neither where not.
use Rattle.answers.specs.Laws.{observed_yes, observed_no}
use Rattle.answers.proofs.combine.observed.Goals as goal

pub returns-then-is_usable-is_finite : goal.returns-then-is_usable-is_finite
returns-then-is_usable-is_finite c =
    let power_is = c.power-p.ensures in
    let cancelled_is = c.cancelled.ensures in
    let multiplied_conjugate_is = c.multiplied_conjugate-v.ensures in
    observed_yes _ _ _ _ _ _ _ _ _ power_is cancelled_is multiplied_conjugate_is c.is_usable.ensures c.is_finite.ensures _ c.if-is_usable-is_finite.true c.divided.ensures

pub returns-else-is_usable-is_finite : goal.returns-else-is_usable-is_finite
returns-else-is_usable-is_finite c =
    let power_is = c.power-p.ensures in
    let cancelled_is = c.cancelled.ensures in
    observed_no _ _ _ _ _ _ _ _ _ power_is cancelled_is c.multiplied_conjugate-v.ensures c.is_usable.ensures c.is_finite.ensures c.if-is_usable-is_finite.false
