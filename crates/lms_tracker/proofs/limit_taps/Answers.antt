-- `follow::limit_taps` meets its contract: above the most power both parts are scaled by 4 / √norm, and else nothing moves.
use Rattle.lms_tracker.specs.Laws.{limit_yes, limit_no}
use Rattle.lms_tracker.proofs.limit_taps.Goals as goal

pub returns-then-norm : goal.returns-then-norm
returns-then-norm c =
    let above = c.if-norm.true in
    let root = c.sqrt-gain.ensures in
    record { real_after = limit_yes _ _ _ _ _ above root c.scale.ensures; imaginary_after = limit_yes _ _ _ _ _ above root c.scale-then-norm.ensures }

pub returns-else-norm : goal.returns-else-norm
returns-else-norm c = record { real_after = limit_no _ _ _ c.if-norm.false; imaginary_after = limit_no _ _ _ c.if-norm.false }
