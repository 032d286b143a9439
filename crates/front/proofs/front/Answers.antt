-- `front` meets its contract: at each turn what is left to fill is what was to be filled, and it ends with the samples or with the row.
use native.Mathlib.Omega.{arith}
use mathlib.Core.Path.{refl, ◌∙◌}
use Rattle.front.specs.Draws.{filled_end, filled_full, kept_start, kept_on, advance_asks, kept_end, kept_full}
use Rattle.front.proofs.front.Goals as goal

pub loop-t-init : goal.loop-t-init
loop-t-init c = (kept_start _ _ c.requires.admitted, refl)

pub overflow_add-from : goal.overflow_add-from
overflow_add-from c =
    omega (arith, c.loop-t.invariant.0.most, c.requires)

pub advance-t-requires : goal.advance-t-requires
advance-t-requires c =
    let going = c.loop-t.invariant.0 in
    let samples_left = c.loop-t-test.true in
    let room_left = c.if-t-gt-ROOM.false in
    let asks = advance_asks _ _ _ _ _ _ _ going c.requires.numbers refl refl samples_left c.requires.from_bound c.requires.arm_in_bounds room_left in
    record {
      admitted = asks.0;
      numbers = asks.1.0;
      arm_in_bounds = asks.1.1.0;
      index_bound = asks.1.1.1.0;
      made_bound = asks.1.1.1.1.0;
      used_in_bounds = asks.1.1.1.1.1;
    }

pub loop-t-smaller : goal.loop-t-smaller
loop-t-smaller c =
    let samples_left = c.loop-t-test.true in
    omega (arith, c.advance-t.ensures.kept.further, samples_left)

pub loop-t-preserved : goal.loop-t-preserved
loop-t-preserved c =
    let inv = c.loop-t.invariant in
    let samples_left = c.loop-t-test.true in
    let room_left = c.if-t-gt-ROOM.false in
    (kept_on _ _ _ _ _ _ refl samples_left room_left inv.0 c.advance-t.ensures.kept, c.advance-t.ensures.left ∙ inv.1)

pub returns-after-loop-t : goal.returns-after-loop-t
returns-after-loop-t c = record { same = filled_end _ _ _ _ c.loop-t-test.false ∙ c.loop-t.invariant.1; kept = kept_end _ _ _ c.loop-t.invariant.0 (omega (arith, c.loop-t-test.false)) }

pub returns-then-t-gt-ROOM : goal.returns-then-t-gt-ROOM
returns-then-t-gt-ROOM c = record { same = filled_full _ _ _ _ c.if-t-gt-ROOM.true ∙ c.loop-t.invariant.1; kept = kept_full _ _ _ c.loop-t.invariant.0 c.if-t-gt-ROOM.true }
