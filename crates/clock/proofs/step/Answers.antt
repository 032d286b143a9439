-- `clock::step` meets its contract: without a symbol the windows stay; with one they are what `matched` leaves.
use Rattle.clock.proofs.Laws.{step_waiting, step_symbol, after_symbol}
use Rattle.clock.proofs.step.Goals as goal

pub returns-in_default : goal.returns-in_default
returns-in_default c = record { same = step_waiting _ _ _ _ _ _ _ _ _ _ c.ticked-s.ensures.same c.in_default.is; kept = c.ticked-s.ensures.kept }

pub matched-requires : goal.matched-requires
matched-requires c =
    let is_due = c.in-Some.is in
    let is_ticked = c.ticked-s.ensures in
    let k = after_symbol _ _ _ is_due is_ticked.kept in record { arm_below = k.0; from_below = k.1 }

pub returns : goal.returns
returns c =
    let is_ticked = c.ticked-s.ensures in
    let is_due = c.in-Some.is in
    record { same = step_symbol _ _ _ _ _ _ _ _ _ _ is_ticked.same _ _ is_due c.matched.ensures; kept = is_ticked.kept }
