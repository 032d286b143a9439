-- `clock::phase::ranged` meets its contract: below 0, in 0..32, from 32 on and NaN, the closed form is what the definition's loops make.
use Rattle.clock.proofs.Ranged.{truncates, middle_in, same_middle, high_in, high_is, same_high, same_nan, held}
use Rattle.clock.proofs.phase.ranged.Goals as goal

pub returns-then-phase : goal.returns-then-phase
returns-then-phase c = c.ranged_below.ensures

pub truncating_f32_to_u64-whole-requires : goal.truncating_f32_to_u64-whole-requires
truncating_f32_to_u64-whole-requires c = let t = truncates _ (middle_in _ c.requires c.if-phase.false c.if-phase-2.true) in record { lower_bound = t.0; upper_bound = t.1 }

pub returns-then-phase-2 : goal.returns-then-phase-2
returns-then-phase-2 c =
    let same = same_middle _ _ c.requires c.if-phase.false c.if-phase-2.true c.truncating_f32_to_u64-whole.ensures in
    record { same = held _ _ _ _ same; few = same.few }

pub truncating_f32_to_u64-whole-requires-then-phase-3 : goal.truncating_f32_to_u64-whole-requires-then-phase-3
truncating_f32_to_u64-whole-requires-then-phase-3 c = let t = truncates _ (high_in _ c.requires c.if-phase.false c.if-phase-3.true) in record { lower_bound = t.0; upper_bound = t.1 }

pub overflow_sub-result : goal.overflow_sub-result
overflow_sub-result c =
    let asked = c.requires in
    (high_is _ _ asked c.if-phase-3.true c.truncating_f32_to_u64-whole-then-phase-3.ensures).least

pub returns-then-phase-3 : goal.returns-then-phase-3
returns-then-phase-3 c =
    let fits = c.requires in
    let same = same_high _ _ fits c.if-phase-3.true c.truncating_f32_to_u64-whole-then-phase-3.ensures in
    record { same = held _ _ _ _ same; few = same.few }

pub returns : goal.returns
returns c = let same = same_nan _ c.requires c.if-phase-2.false c.if-phase-3.false in record { same = held _ _ _ _ same; few = same.few }
