-- `recovery::step::step` meets its contract: the three ways (the keeper fills, the clock has no symbol, a symbol is equalized and turns the clock's loop) are the definition's.
use Rattle.recovery.specs.Laws.{stepped_filling, stepped_waiting, stepped_here}
use Rattle.recovery.proofs.step.step.Goals as goal

pub keep-k-requires : goal.keep-k-requires
keep-k-requires c =
    let asked = c.requires in
    record { head_bound = asked.given.keeper.head; sizes_value = asked.sizes_value }

pub returns-in_default : goal.returns-in_default
returns-in_default c = (stepped_filling _ _ _ _ _ c.keep-k.ensures.same c.in_default.is, c.keep-k.ensures.envelopes)

pub step-ticked-requires : goal.step-ticked-requires
step-ticked-requires c =
    let asked = c.requires in
    asked.given.clock

pub returns-in_default-due : goal.returns-in_default-due
returns-in_default-due c =
    let is_kept = c.keep-k.ensures in
    let is_level = c.in-Some.is in
    (stepped_waiting _ _ _ _ _ is_kept.same _ is_level _ c.step-ticked.ensures.same c.in_default-due.is, is_kept.envelopes)

pub returns : goal.returns
returns c =
    let is_kept = c.keep-k.ensures in
    let is_level = c.in-Some.is in
    let is_clocked = c.step-ticked.ensures in
    let is_due = c.in-Some-due.is in
    (stepped_here _ _ _ _ _ is_kept.same _ is_level _ is_clocked.same _ _ _ is_due c.equalize-e.ensures c.update-turned.ensures, is_kept.envelopes)
