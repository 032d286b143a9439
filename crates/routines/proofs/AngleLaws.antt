-- The arctangent: a NaN gives a NaN, it is odd in y, and zeros and infinities give what IEEE 754 says of atan2, as the nearest value of binary32. Assumes nothing.
use Rattle.std.specs.Prelude.{◌≡◌, ℕ, zero, suc, ◌*◌, ◌<◌, ◌≤◌, Bool, true, false, cond, ◌&&◌, ◌||◌, T, ℤ, pos, ◌==◌, Float}
use Rattle.std.proofs.Math.Path.{refl}
use Rattle.std.proofs.Common.{sym, ap, ◌∙◌, zero-mul, mul-pos, zero-lt-suc, arith, true≢false, lt→ltb}
use Rattle.std.proofs.Math.Dec.{eqb-suc-zero, not_T}
use Rattle.std.specs.Float.{nan, inf, fin, Format, binary32}
use Rattle.std.specs.Float.Ieee.{binary64, of_bits, up, down, round, sub, div, neg, le, lt, eq, is_nan}
use Rattle.std.specs.Float.Ieee.Fits.{up_pos, eq→eqb}
use Rattle.std.specs.Float.Ieee.Bits.{is_true, is_false}
use Rattle.std.specs.Float.Ieee.Positive.{num, den, positive}
use Rattle.laws.specs.Branches.{cond_yes, cond_then, cond_no}
use Rattle.laws.specs.FloatOrder.{nonneg, le→cross, cross→le}
use Rattle.laws.specs.FloatRounding.{signed, round_zero}
use Rattle.numbers.specs.Numbers.{abs_of, sign_of, is_finite, convert}
use Rattle.routines.specs.Circle.{with_sign}
use Rattle.routines.proofs.CircleLaws.{abs_neg, sign_turns}
use Rattle.routines.specs.Angle.{nought, quarter_pi, half_pi, arc_of, quadrant_arc, mirrored_of, arc_size, arctangent_of}

-- ---- a NaN
pub nan_first : (x : Float) → arctangent_of nan x ≡ nan
unfolding arctangent_of
nan_first x = refl

pub nan_second : (y : Float) → arctangent_of y nan ≡ nan
unfolding arctangent_of
nan_second y = go (is_nan y)
  where
    go : (b : Bool) → cond b nan nan ≡ nan
    go true = refl
    go false = refl

-- ---- odd in y
arc_size_neg : (y x : Float) → arc_size (neg y) x ≡ arc_size y x
unfolding arc_size
arc_size_neg y x = ap (λ (z : Float). convert binary32 (mirrored_of (quadrant_arc z (abs_of x)) (sign_of x))) (abs_neg y)

kept_nan : (b : Bool) (u v : Float) → u ≡ neg v → cond b nan u ≡ neg (cond b nan v)
kept_nan true u v e = unfold neg in refl
kept_nan false u v e = e

-- with a y that is no NaN
size_turns : (y x : Float) → is_nan y ≡ false → cond (is_nan x) nan (with_sign (sign_of (neg y)) (arc_size (neg y) x)) ≡ neg (cond (is_nan x) nan (with_sign (sign_of y) (arc_size y x)))
size_turns y x h =
    ap (λ (v : Float). cond (is_nan x) nan (with_sign (sign_of (neg y)) v)) (arc_size_neg y x)
    ∙ kept_nan (is_nan x) (with_sign (sign_of (neg y)) (arc_size y x)) (with_sign (sign_of y) (arc_size y x)) (sign_turns y (arc_size y x) (λ k. absurd (true≢false (sym k ∙ h))))

pub odd_in_y : (y x : Float) → arctangent_of (neg y) x ≡ neg (arctangent_of y x)
unfolding arctangent_of is_nan neg
odd_in_y nan x = refl
odd_in_y (inf s) x = size_turns (inf s) x refl
odd_in_y (fin s m e) x = size_turns (fin s m e) x refl

-- ---- IEEE 754's cases, y not negative: odd-in-y has the others
abbrev pub plus_zero : Float
plus_zero = fin false 0 (pos 0)

-- pi, pi / 2, pi / 4 and 3 pi / 4, each the nearest value of binary32
abbrev pub pi32 : Float
pi32 = of_bits binary32 0x40490fdb  -- 3.1415927

abbrev pub half_pi32 : Float
half_pi32 = of_bits binary32 0x3fc90fdb  -- 1.5707964

abbrev pub quarter_pi32 : Float
quarter_pi32 = of_bits binary32 0x3f490fdb  -- 0.7853982

abbrev pub three_quarter_pi32 : Float
three_quarter_pi32 = of_bits binary32 0x4016cbe4  -- 2.3561945

-- ---- the cases of `quadrant_arc`
module _ (v h : Float) where
  pub quadrant_1 : le v h ≡ true → eq h nought ≡ true → nought ≡ quadrant_arc v h
  unfolding quadrant_arc
  quadrant_1 l k = cond_then (le v h) _ _ _ l (cond_yes (eq h nought) _ _ k)

  pub quadrant_2 : (a : Float) → le v h ≡ true → eq h nought ≡ false → is_finite v ≡ true → a ≡ arc_of (div binary64 v h) → a ≡ quadrant_arc v h
  unfolding quadrant_arc
  quadrant_2 a l k f e = cond_then (le v h) _ _ _ l (cond_no (eq h nought) _ _ _ k (cond_then (is_finite v) _ _ _ f e))

  pub quadrant_3 : le v h ≡ true → eq h nought ≡ false → is_finite v ≡ false → quarter_pi ≡ quadrant_arc v h
  unfolding quadrant_arc
  quadrant_3 l k f = cond_then (le v h) _ _ _ l (cond_no (eq h nought) _ _ _ k (cond_no (is_finite v) _ _ _ f refl))

  pub quadrant_4 : (a : Float) → le v h ≡ false → a ≡ arc_of (div binary64 h v) → sub binary64 half_pi a ≡ quadrant_arc v h
  unfolding quadrant_arc
  quadrant_4 a l e = cond_no (le v h) _ _ _ l (ap (sub binary64 half_pi) e)

-- ---- zeros
pub zero_least : (h : Float) → T (signed false h) → le plus_zero h ≡ true
zero_least nan u = absurd u
zero_least (inf true) u = absurd u
zero_least (inf false) u = unfold le in refl
zero_least (fin true m e) u = absurd u
zero_least (fin false m e) u = is_true (le plus_zero (fin false m e)) (cross→le plus_zero (fin false m e) tt tt (least (m * up e) (down e)))
  where
    least : (n d : ℕ) → 0 * 1 * d ≤ n * 1
    least n d = omega arith

pub zero_equal : (e : ℤ) → eq (fin false 0 e) nought ≡ true
unfolding eq of_bits
zero_equal e = ap (λ (b : Bool). b && true) (is_true (0 * up e * 1 == 0 * 1 * down e) (eq→eqb (same (up e) (down e))))
  where
    same : (a b : ℕ) → 0 * a * 1 ≡ 0 * 1 * b
    same a b = omega arith

some_above : (n : ℕ) (d : ℤ) → le (fin false (suc n) d) plus_zero ≡ false
some_above n d = is_false (le (fin false (suc n) d) plus_zero) (not_T (le (fin false (suc n) d) plus_zero) (λ t. none (suc n * up d) (down d) (mul-pos (zero-lt-suc n) (up_pos d)) (le→cross (fin false (suc n) d) plus_zero tt tt t)))
  where
    none : (a b : ℕ) → 0 < a → a * 1 ≤ 0 * 1 * b → ⊥
    none a b p h = omega arith

some_unequal : (n : ℕ) (d : ℤ) → eq (fin false (suc n) d) nought ≡ false
unfolding of_bits le
some_unequal n d = go (lt (fin false (suc n) d) plus_zero) (eq (fin false (suc n) d) plus_zero) (some_above n d)
  where
    go : (a b : Bool) → (a || b) ≡ false → b ≡ false
    go true b h = absurd (true≢false h)
    go false b h = h

-- a quotient of values that are not negative
pub div_is : (f : Format) (v h : Float) → T (nonneg v) → T (positive h) → div f v h ≡ round f false (num v * den h) (num h * den v)
unfolding div
div_is f nan h p q = absurd p
div_is f (inf s) h p q = absurd p
div_is f (fin true m e) h p q = absurd p
div_is f (fin false m e) nan p q = absurd q
div_is f (fin false m e) (inf t) p q = absurd q
div_is f (fin false m e) (fin true n d) p q = absurd q
div_is f (fin false m e) (fin false zero d) p q = absurd q
div_is f (fin false m e) (fin false (suc n) d) p q =
    ap (λ (b : Bool). cond b (cond (m == 0) nan (inf false)) (round f false (m * up e * down d) (suc n * up d * down e))) (eqb-suc-zero n)

-- 0 / k is 0
zero_over : (n : ℕ) (d : ℤ) → div binary64 plus_zero (fin false (suc n) d) ≡ plus_zero
zero_over n d =
    div_is binary64 plus_zero (fin false (suc n) d) tt (lt→ltb 0 (suc n) (zero-lt-suc n))
    ∙ ap (λ (z : ℕ). round binary64 false z (suc n * up d * 1)) (zero-mul (down d))
    ∙ round_zero binary64 false (suc n * up d * 1) (mul-pos (mul-pos (zero-lt-suc n) (up_pos d)) (zero-lt-suc 0))

arc_zero : arc_of plus_zero ≡ plus_zero
unfolding arc_of of_bits
arc_zero = refl

-- a point on the axis to the right: no angle
flat : (x : Float) → is_nan x ≡ false → quadrant_arc plus_zero (abs_of x) ≡ plus_zero
unfolding is_nan abs_of
flat nan h = absurd (true≢false h)
flat (inf s) h = unfold quadrant_arc of_bits in refl
flat (fin s zero e) h = sym (quadrant_1 plus_zero (fin false zero e) (zero_least (fin false zero e) tt) (zero_equal e)) ∙ (let z : nought ≡ plus_zero = unfold of_bits in refl in z)
flat (fin s (suc n) d) h =
    sym (quadrant_2 plus_zero (fin false (suc n) d) plus_zero (zero_least (fin false (suc n) d) tt) (some_unequal n d) (let z : is_finite plus_zero ≡ true = unfold is_finite in refl in z) (sym (ap arc_of (zero_over n d) ∙ arc_zero)))

-- straight up: a right angle
upright : (m : ℕ) (e : ℤ) → quadrant_arc (fin false (suc m) e) plus_zero ≡ half_pi
upright m e = sym (quadrant_4 (fin false (suc m) e) plus_zero plus_zero (some_above m e) (sym (ap arc_of (zero_over m e) ∙ arc_zero))) ∙ (let z : sub binary64 half_pi plus_zero ≡ half_pi = unfold sub of_bits in refl in z)

-- ---- what the arctangent makes of an angle of the first quadrant
made : (y x a : Float) → is_nan y ≡ false → is_nan x ≡ false → sign_of y ≡ false → quadrant_arc (abs_of y) (abs_of x) ≡ a → arctangent_of y x ≡ convert binary32 (mirrored_of a (sign_of x))
unfolding arctangent_of arc_size
made y x a h k s e = ap (λ (b : Bool). cond b nan (cond (is_nan x) nan (with_sign (sign_of y) (arc_size y x)))) h ∙ ap (λ (b : Bool). cond b nan (with_sign (sign_of y) (arc_size y x))) k ∙ ap (λ (b : Bool). with_sign b (arc_size y x)) s ∙ ap (λ (z : Float). convert binary32 (mirrored_of z (sign_of x))) e

pub zero_right : (x : Float) → is_nan x ≡ false → sign_of x ≡ false → arctangent_of plus_zero x ≡ plus_zero
unfolding is_nan sign_of abs_of
zero_right x h s = made plus_zero x plus_zero refl h refl (flat x h) ∙ ap (λ (b : Bool). convert binary32 (mirrored_of plus_zero b)) s ∙ (let z : convert binary32 (mirrored_of plus_zero false) ≡ plus_zero = unfold mirrored_of convert in refl in z)

pub zero_left : (x : Float) → is_nan x ≡ false → sign_of x ≡ true → arctangent_of plus_zero x ≡ pi32
unfolding is_nan sign_of abs_of
zero_left x h s = made plus_zero x plus_zero refl h refl (flat x h) ∙ ap (λ (b : Bool). convert binary32 (mirrored_of plus_zero b)) s ∙ (let z : convert binary32 (mirrored_of plus_zero true) ≡ pi32 = unfold mirrored_of convert of_bits in refl in z)

-- y above zero, x a zero of either sign
pub upright_zero : (m : ℕ) (e : ℤ) (s : Bool) → arctangent_of (fin false (suc m) e) (fin s 0 (pos 0)) ≡ half_pi32
unfolding is_nan sign_of abs_of
upright_zero m e s = made (fin false (suc m) e) (fin s 0 (pos 0)) half_pi refl refl refl (upright m e) ∙ go s
  where
    go : (s : Bool) → convert binary32 (mirrored_of half_pi s) ≡ half_pi32
    go true = unfold mirrored_of convert of_bits in refl
    go false = unfold mirrored_of convert of_bits in refl

-- y infinite, x finite
pub upright_infinite : (s : Bool) (n : ℕ) (d : ℤ) → arctangent_of (inf false) (fin s n d) ≡ half_pi32
unfolding arctangent_of of_bits
upright_infinite true n d = refl
upright_infinite false n d = refl

-- y finite and not negative, x infinite
pub infinite_right : (m : ℕ) (e : ℤ) → arctangent_of (fin false m e) (inf false) ≡ plus_zero
unfolding arctangent_of of_bits
infinite_right m e = refl

pub infinite_left : (m : ℕ) (e : ℤ) → arctangent_of (fin false m e) (inf true) ≡ pi32
unfolding arctangent_of of_bits
infinite_left m e = refl

-- both infinite
pub diagonal_right : arctangent_of (inf false) (inf false) ≡ quarter_pi32
unfolding arctangent_of of_bits
diagonal_right = refl

pub diagonal_left : arctangent_of (inf false) (inf true) ≡ three_quarter_pi32
unfolding arctangent_of of_bits
diagonal_left = refl
