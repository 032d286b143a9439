-- The two loops that bring the phase into range turn at most once from an admitted phase: what the code's closed form makes is what they make. Assumes nothing.
use Rattle.std.specs.Prelude.{◌≡◌, ℕ, zero, suc, ◌+◌, ◌-◌, ◌*◌, ◌^◌, ◌<◌, ◌≤◌, Bool, true, false, not, T, ℤ, pos, negsuc, ◌+ℤ◌, ◌-ℤ◌, neg_ℤ, ◌≢◌, nat_lt, refl, Float}
use Rattle.std.proofs.Common.{arith, sym, ap, ◌∙◌, subst, inl, inr, true≢false, ltb→lt, lt→ltb, le-ltb, le-leb}
use Rattle.std.specs.Float.{nan, inf, fin, binary32}
use Rattle.std.specs.Float.Ieee.{of_bits, of_int, add, sub, neg, lt, le, eq, up, down, to_unsigned}
use Rattle.std.specs.Float.Ieee.Bits.{is_true}
use Rattle.std.specs.Float.Ieee.Fits.{down_pos}
use Rattle.std.proofs.lemmas.Bool.{lt-leb}
use Rattle.numbers.specs.Constants.{zero32}
use Rattle.laws.specs.Turns.{until, until_stop, until_turn}
use Rattle.laws.specs.Branches.{from_true, from_false}
use Rattle.laws.specs.FloatOrder.{le→, →le, lt→le, not_lt→le}
use Rattle.laws.specs.FloatSums.{In, in_finite, add_in, sub_in, in_wider}
use Rattle.clock.specs.declared.phase.Arm.{Arm}
use Rattle.clock.specs.Clock.{arm_number_of, Turning, sixteen, thirty_two, minus16, f48, too_high, negative, lowered, raised, lowered_of, raised_of, turning_of, ranged_of}
use Rattle.clock.specs.Ranges.{PhaseFits, PhaseTurned, Ceiling}
use Rattle.clock.specs.Floor.{arm_nan, High, high_from, middle_from, minus_zero, ceiling_up, ceiling_not}

-- ---- the loops, by the arm
abbrev at : Float → ℤ → ℤ → Turning
at p a s = record { phase = p; arm = a; shift = s }

lowered_stays : (t : Turning) → too_high t.arm ≡ false → lowered_of t ≡ t
unfolding lowered_of
lowered_stays t h = until_stop _ _ _ t (ap not h)

raised_stays : (t : Turning) → negative t.arm ≡ false → raised_of t ≡ t
unfolding raised_of
raised_stays t h = until_stop _ _ _ t (ap not h)

less32 : (w : ℕ) → 32 ≤ w → pos w -ℤ pos 32 ≡ pos (w - 32)
less32 w h = rw (le-ltb w 32 h)

lowered_once : (p : Float) (w : ℕ) → 32 ≤ w → w < 64 → lowered_of (at p (pos w) (pos 0)) ≡ at (sub binary32 p thirty_two) (pos (w - 32)) (pos 1)
unfolding lowered_of
lowered_once p w h k =
    sym (until_turn (λ (z : Turning). not (too_high z.arm)) lowered w (at p (pos w) (pos 0)) (omega arith) (ap not (le-leb 32 w h)))
    ∙ ap (λ (z : ℤ). until (λ (z : Turning). not (too_high z.arm)) lowered (w - 1) (at (sub binary32 p thirty_two) z (pos 1))) (less32 w h)
    ∙ until_stop _ _ _ _ (ap not (lt-leb 32 (w - 32) (omega arith)))

more32 : (c : ℕ) → c < 32 → negsuc c +ℤ pos 32 ≡ pos (31 - c)
more32 c h = let e : 32 - suc c ≡ 31 - c = omega arith in rw (le-ltb 32 (suc c) (omega arith), e)

raised_once : (p : Float) (c : ℕ) → c < 32 → raised_of (at p (negsuc c) (pos 0)) ≡ at (add binary32 p thirty_two) (pos (31 - c)) (negsuc 0)
unfolding raised_of
raised_once p c h =
    sym (until_turn (λ (z : Turning). not (negative z.arm)) raised (suc c) (at p (negsuc c) (pos 0)) (omega arith) refl)
    ∙ ap (λ (z : ℤ). until (λ (z : Turning). not (negative z.arm)) raised (suc c - 1) (at (add binary32 p thirty_two) z (negsuc 0))) (more32 c h)
    ∙ until_stop _ _ _ _ refl

ranged_middle : (p : Float) (w : ℕ) → arm_number_of p ≡ pos w → w < 32 → turning_of p ≡ at p (pos w) (pos 0)
unfolding turning_of
ranged_middle p w e h = rw (e, lowered_stays (at p (pos w) (pos 0)) (lt-leb 32 w h)) (raised_stays (at p (pos w) (pos 0)) refl)

ranged_high : (p : Float) (w : ℕ) → arm_number_of p ≡ pos w → 32 ≤ w → w < 64 → turning_of p ≡ at (sub binary32 p thirty_two) (pos (w - 32)) (pos 1)
unfolding turning_of
ranged_high p w e h k = rw (e, lowered_once p w h k) (raised_stays (at (sub binary32 p thirty_two) (pos (w - 32)) (pos 1)) refl)

ranged_low : (p : Float) (c : ℕ) → arm_number_of p ≡ negsuc c → c < 32 → turning_of p ≡ at (add binary32 p thirty_two) (pos (31 - c)) (negsuc 0)
unfolding turning_of
ranged_low p c e h = rw (e, lowered_stays (at p (negsuc c) (pos 0)) refl) (raised_once p c h)

-- ---- the phase, its arm, and 1 more than the shift, as the code has them, and their ranges
pub record Same (p : Float) (arm ahead : ℕ) (t : Turning) : Type 0 where
  pub phases : p ≡ t.phase
  pub arms : t.arm ≡ pos arm
  pub shifts : pos 1 +ℤ t.shift ≡ pos ahead
  pub small : arm < 32
  pub few : ahead ≤ 2
  pub range : PhaseTurned p

same_as : (p : Float) (arm ahead : ℕ) (s : ℤ) (t : Turning) → t ≡ at p (pos arm) s → pos 1 +ℤ s ≡ pos ahead → arm < 32 → ahead ≤ 2 → PhaseTurned p → Same p arm ahead t
same_as p arm ahead s t q e a b r = record {
  phases = sym (ap (λ (z : Turning). z.phase) q);
  arms = ap (λ (z : Turning). z.arm) q;
  shifts = ap (λ (z : Turning). pos 1 +ℤ z.shift) q ∙ e;
  small = a;
  few = b;
  range = r;
}

-- ---- a comparison that holds is not of a NaN
lt_not_nan : (p y : Float) → lt p y ≡ true → p ≢ nan
unfolding lt
lt_not_nan p y h e = true≢false (sym h ∙ ap (λ (z : Float). lt z y) e)

le_nan : (x : Float) → le x nan ≡ false
unfolding le lt eq
le_nan nan = refl
le_nan (inf s) = refl
le_nan (fin s m e) = refl

le_not_nan : (x p : Float) → le x p ≡ true → p ≢ nan
le_not_nan x p h e = true≢false (sym h ∙ ap (le x) e ∙ le_nan x)

in_of : (p : Float) → PhaseFits p → (p ≢ nan) → In minus16 f48 p
in_of p (inl e) h = absurd (h e)
in_of p (inr i) h = i

from0 : (p : Float) → In minus16 f48 p → lt p zero32 ≡ false → In zero32 f48 p
unfolding of_bits
from0 p i h = record { lower = not_lt→le p zero32 (in_finite minus16 f48 p tt tt i) tt (from_false (lt p zero32) h); upper = i.upper }

-- ---- 0 to 32
pub middle_in : (p : Float) → PhaseFits p → lt p zero32 ≡ false → lt p thirty_two ≡ true → In zero32 f48 p
middle_in p r h k = from0 p (in_of p r (lt_not_nan p thirty_two k)) h

pub same_middle : (p : Float) (w : ℕ) → PhaseFits p → lt p zero32 ≡ false → lt p thirty_two ≡ true → w ≡ to_unsigned 64 p → Same p w 1 (turning_of p)
same_middle p w r h k e =
    let i = middle_in p r h k in
    let m = middle_from p (from_false (lt p zero32) h) (from_true (lt p thirty_two) k) w e in
    same_as p w 1 (pos 0) (turning_of p) (ranged_middle p w m.arm m.most) refl m.most (omega arith)
    (inr (record { lower = i.lower; upper = lt→le p thirty_two (from_true (lt p thirty_two) k) }))

-- ---- 32 and up
pub high_in : (p : Float) → PhaseFits p → lt p zero32 ≡ false → le thirty_two p ≡ true → In zero32 f48 p
high_in p r h k = from0 p (in_of p r (le_not_nan thirty_two p k)) h

pub high_is : (p : Float) (w : ℕ) → PhaseFits p → le thirty_two p ≡ true → w ≡ to_unsigned 64 p → High p w
high_is p w r k e = high_from p (in_of p r (le_not_nan thirty_two p k)) (from_true (le thirty_two p) k) w e

pub same_high : (p : Float) (w : ℕ) → PhaseFits p → le thirty_two p ≡ true → w ≡ to_unsigned 64 p → Same (sub binary32 p thirty_two) (w - 32) 2 (turning_of p)
unfolding of_bits sub le
same_high p w r k e =
    let i = in_of p r (le_not_nan thirty_two p k) in
    let u = high_is p w r k e in
    let l = u.least in
    let g = u.most in
    let n : In thirty_two f48 p = record { lower = from_true (le thirty_two p) k; upper = i.upper } in
    let a : In thirty_two thirty_two thirty_two = record { lower = tt; upper = tt } in
    same_as (sub binary32 p thirty_two) (w - 32) 2 (pos 1) (turning_of p) (ranged_high p w u.arm l (omega arith)) refl (omega arith) (omega arith)
    (inr (in_wider (sub binary32 thirty_two thirty_two) (sub binary32 f48 thirty_two) zero32 thirty_two tt tt tt tt (sub_in binary32 thirty_two f48 thirty_two thirty_two tt tt n a)))

-- ---- below 0
pub neg_in : (p : Float) → PhaseFits p → lt p zero32 ≡ true → In zero32 sixteen (neg p)
unfolding lt neg of_bits
neg_in p (inl e) h = absurd (lt_not_nan p zero32 h e)
neg_in nan (inr i) h = absurd (in_finite minus16 f48 nan tt tt i)
neg_in (inf s) (inr i) h = absurd (in_finite minus16 f48 (inf s) tt tt i)
neg_in (fin false m e) (inr i) h = absurd (go (m * up e) (ltb→lt (m * up e * 1) (0 * up (pos 0) * down e) (from_true (lt (fin false m e) zero32) h)))
  where
    go : (a : ℕ) → a * 1 < 0 * up (pos 0) * down e → ⊥
    go a k = omega arith
neg_in (fin true m e) (inr i) h = record {
  lower = →le zero32 (fin false m e) tt tt (low (m * up e) (down e));
  upper = →le (fin false m e) sixteen tt tt (top (m * up e) (down e) (le→ minus16 (fin true m e) tt tt i.lower));
}
  where
    low : (a D : ℕ) → 0 * up (pos 0) * D + 0 * 1 ≤ a * 1 + 0 * D
    low a D = omega arith

    top : (a D : ℕ) → 0 * D + a * 1 ≤ 0 * 1 + 1 * up (pos 4) * D → a * 1 + 0 * D ≤ 1 * up (pos 4) * D + 0 * 1
    top a D k = omega arith

-- the ceiling of a phase's negative is its arm, and is not 0
low_arm : (p : Float) (c : ℕ) → lt p zero32 ≡ true → PhaseFits p → Ceiling (neg p) c → (arm_number_of p ≡ neg_ℤ (pos c)) × (1 ≤ c)
unfolding lt neg of_bits
low_arm p c h (inl e) k = absurd (lt_not_nan p zero32 h e)
low_arm nan c h (inr i) k = absurd (in_finite minus16 f48 nan tt tt i)
low_arm (inf s) c h (inr i) k = absurd (in_finite minus16 f48 (inf s) tt tt i)
low_arm (fin false m d) c h (inr i) k = absurd (go (m * up d) (ltb→lt (m * up d * 1) (0 * up (pos 0) * down d) (from_true (lt (fin false m d) zero32) h)))
  where
    go : (a : ℕ) → a * 1 < 0 * up (pos 0) * down d → ⊥
    go a k = omega arith
low_arm (fin true m d) c h (inr i) k = (k.arm, some c k.reached)
  where
    above : (a : ℕ) → 0 < a * 1 + 0 * up (pos 0) * down d → 0 < a
    above a k = omega arith

    some : (c : ℕ) → m * up d ≤ c * down d → 1 ≤ c
    some zero r = let a = above (m * up d) (ltb→lt 0 (m * up d * 1 + 0 * up (pos 0) * down d) (from_true (lt (fin true m d) zero32) h)) in absurd (omega arith)
    some (suc c) r = omega arith

neg_suc : (c : ℕ) → 1 ≤ c → neg_ℤ (pos c) ≡ negsuc (c - 1)
neg_suc zero h = absurd (omega arith)
neg_suc (suc c) h = let e : suc c - 1 ≡ c = omega arith in rw e

pub same_low : (p : Float) (c : ℕ) → PhaseFits p → lt p zero32 ≡ true → Ceiling (neg p) c → Same (add binary32 p thirty_two) (32 - c) 0 (turning_of p)
unfolding of_bits add le
same_low p c r h k =
    let i = in_of p r (lt_not_nan p zero32 h) in
    let g = low_arm p c h r k in
    let l = g.1 in
    let u = k.most in
    let s : 31 - (c - 1) ≡ 32 - c = omega arith in
    let n : In minus16 zero32 p = record { lower = i.lower; upper = lt→le p zero32 (from_true (lt p zero32) h) } in
    let a : In thirty_two thirty_two thirty_two = record { lower = tt; upper = tt } in
    same_as (add binary32 p thirty_two) (32 - c) 0 (negsuc 0) (turning_of p)
    (ranged_low p (c - 1) (g.0 ∙ neg_suc c l) (omega arith) ∙ ap (λ (z : ℕ). at (add binary32 p thirty_two) (pos z) (negsuc 0)) s) refl (omega arith) (omega arith)
    (inr (in_wider (add binary32 minus16 thirty_two) (add binary32 zero32 thirty_two) zero32 thirty_two tt tt tt tt (add_in binary32 minus16 zero32 thirty_two thirty_two tt tt n a)))

-- ---- NaN
pub same_nan : (p : Float) → PhaseFits p → lt p thirty_two ≡ false → le thirty_two p ≡ false → Same p 0 1 (turning_of p)
unfolding of_bits
same_nan p (inr i) h k = absurd (true≢false (sym (is_true (le thirty_two p) (not_lt→le p thirty_two (in_finite minus16 f48 p tt tt i) tt (from_false (lt p thirty_two) h))) ∙ k))
same_nan p (inl e) h k = same_as p 0 1 (pos 0) (turning_of p) (ranged_middle p 0 (ap arm_number_of e ∙ arm_nan) (omega arith)) refl (omega arith) (omega arith) (inl e)

-- ---- so every admitted phase has its arm and its shift
pub record Found (q : Float) : Type 0 where
  pub phase : Float
  pub arm : ℕ
  pub ahead : ℕ
  pub same : Same phase arm ahead (turning_of q)

found_as : (q p : Float) (arm ahead : ℕ) → Same p arm ahead (turning_of q) → Found q
found_as q p arm ahead s = record { phase = p; arm = arm; ahead = ahead; same = s }

pub found : (q : Float) → PhaseFits q → Found q
found q r = low (lt q zero32) refl
  where
    ceiled : (b : Bool) → lt (of_int binary32 (pos (to_unsigned 64 (neg q)))) (neg q) ≡ b → lt q zero32 ≡ true → Found q
    ceiled true e h = found_as q _ _ _ (same_low q _ r h (ceiling_up (neg q) _ _ (neg_in q r h) refl refl e))
    ceiled false e h = found_as q _ _ _ (same_low q _ r h (ceiling_not (neg q) _ _ (neg_in q r h) refl refl e))

    top : (b : Bool) → le thirty_two q ≡ b → lt q thirty_two ≡ false → Found q
    top true e h = found_as q _ _ _ (same_high q _ r e refl)
    top false e h = found_as q _ _ _ (same_nan q r h e)

    middle : (b : Bool) → lt q thirty_two ≡ b → lt q zero32 ≡ false → Found q
    middle true e h = found_as q _ _ _ (same_middle q _ r h e refl)
    middle false e h = top (le thirty_two q) refl e

    low : (b : Bool) → lt q zero32 ≡ b → Found q
    low true e = ceiled (lt (of_int binary32 (pos (to_unsigned 64 (neg q)))) (neg q)) refl e
    low false e = middle (lt q thirty_two) refl e

-- what the code holds is made of these parts, and has them: nothing is lost with the signs
pub held : (q p : Float) (arm ahead : ℕ) → Same p arm ahead (turning_of q) → ◌≡◌ {A = Arm} (record { phase = p; arm = arm; ahead = ahead }) (ranged_of q)
unfolding ranged_of
held q p arm ahead s = rw (s.phases, s.arms, s.shifts)

pub same_held : (q : Float) (a : Arm) → PhaseFits q → a ≡ ranged_of q → Same a.phase a.arm a.ahead (turning_of q)
same_held q a r e =
    let f = found q r in
    let k : ◌≡◌ {A = Arm} (record { phase = f.phase; arm = f.arm; ahead = f.ahead }) a = held q f.phase f.arm f.ahead f.same ∙ sym e in
    subst (λ (z : Arm). Same z.phase z.arm z.ahead (turning_of q)) k f.same

-- the loops end by their tests, not by the number of turns that they are given
pub ranged_done : (q : Float) → PhaseFits q → (too_high (turning_of q).arm ≡ false) × (negative (turning_of q).arm ≡ false)
ranged_done q r =
    let f = found q r in
    let m = f.same.small in
    (ap too_high f.same.arms ∙ lt-leb 32 f.arm (omega arith), ap negative f.same.arms)

-- ---- a value in 0..48 may be truncated to a whole number
pub truncates : (x : Float) → In zero32 f48 x → T (lt (fin true 1 (pos 0)) x) × T (lt x (fin false 1 (pos 64)))
unfolding of_bits lt
truncates nan i = absurd (in_finite zero32 f48 nan tt tt i)
truncates (inf s) i = absurd (in_finite zero32 f48 (inf s) tt tt i)
truncates (fin true m e) i = go (m * up e) (down e) (down_pos e) (minus_zero m e i.lower)
  where
    go : (a D : ℕ) → 0 < D → a ≡ 0 → T (nat_lt (a * 1) (1 * D)) × T (nat_lt 0 (a * 1 + 2 ^ 64 * D))
    go a D d z = (lt→ltb (a * 1) (1 * D) (omega arith), lt→ltb 0 (a * 1 + 2 ^ 64 * D) (omega arith))
truncates (fin false m e) i = go (m * up e) (down e) (down_pos e) (le→ (fin false m e) f48 tt tt i.upper)
  where
    go : (a D : ℕ) → 0 < D → a * 1 + 0 * D ≤ 3 * up (pos 4) * D + 0 * 1 → T (nat_lt 0 (1 * D + a * 1)) × T (nat_lt (a * 1) (2 ^ 64 * D))
    go a D d l = (lt→ltb 0 (1 * D + a * 1) (omega arith), lt→ltb (a * 1) (2 ^ 64 * D) (omega arith))

pub within48 : (x : Float) → In zero32 sixteen x → In zero32 f48 x
unfolding of_bits le
within48 x i = in_wider zero32 sixteen zero32 f48 tt tt tt tt i
