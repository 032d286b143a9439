-- Sine and cosine (docs/SPECIFICATION.md): sine keeps a zero's sign and is exactly odd, cosine is exactly even, both are within -1..1, and a NaN, an infinity and what is beyond 64 give a NaN.
-- Assumes nothing.
use Rattle.std.specs.Prelude.{◌≡◌, ℕ, zero, suc, ◌+◌, ◌*◌, ◌^◌, ◌<◌, Bool, true, false, cond, T, ℤ, pos, negsuc, ◌==◌, ◌≢◌, Float}
use Rattle.std.proofs.Math.Path.{refl}
use Rattle.std.proofs.Common.{sym, ap, ◌∙◌, subst, mul-one, one-mul, mul-pos, arith, true≢false, eqb→eq, pow_pos, pow-add}
use Rattle.std.specs.Float.{nan, inf, fin, binary64}
use Rattle.std.specs.Float.Ieee.{up, down, of_bits, neg, le, eq, fits, is_nan}
use Rattle.std.specs.Float.Ieee.Fits.{up_pos, and_l}
use Rattle.std.specs.Float.Ieee.Scale.{finite}
use Rattle.laws.specs.FloatRounding.{neg_neg, le_neg}
use Rattle.laws.specs.FloatSums.{In}
use Rattle.numbers.specs.Numbers.{abs_of, sign_of, clamp_of}
use Rattle.numbers.specs.Clamped.{clamp_in}
use Rattle.routines.specs.Circle.{one, minus_one, farthest, in_reach, turned_sine, turned_cosine, reduced_of, size_sine, size_cosine, with_sign, sine_of, cosine_of, pair_of}
use Rattle.routines.specs.Reached.{sine_number, cosine_number}

-- ---- signs
pub abs_neg : (x : Float) → abs_of (neg x) ≡ abs_of x
unfolding abs_of neg
abs_neg nan = refl
abs_neg (inf s) = refl
abs_neg (fin s m e) = refl

pub abs_plain : (x : Float) → sign_of (abs_of x) ≡ false
unfolding sign_of abs_of
abs_plain nan = refl
abs_plain (inf s) = refl
abs_plain (fin s m e) = refl

-- the sign of a size turns with the sign of its argument, where a NaN has a NaN
pub sign_turns : (x v : Float) → (is_nan x ≡ true → v ≡ nan) → with_sign (sign_of (neg x)) v ≡ neg (with_sign (sign_of x) v)
unfolding sign_of neg is_nan
sign_turns nan v h = h refl ∙ ap neg (sym (h refl))
sign_turns (inf true) v h = sym (neg_neg v)
sign_turns (inf false) v h = refl
sign_turns (fin true m e) v h = sym (neg_neg v)
sign_turns (fin false m e) v h = refl

-- ---- odd and even
sine_is : (x : Float) → sine_of x ≡ with_sign (sign_of x) (size_sine (abs_of x))
unfolding sine_of
sine_is x = refl

size_nan : (x : Float) → is_nan x ≡ true → size_sine (abs_of x) ≡ nan
unfolding is_nan abs_of size_sine le
size_nan nan h = refl
size_nan (inf s) h = absurd (true≢false (sym h))
size_nan (fin s m e) h = absurd (true≢false (sym h))

pub sine_odd : (x : Float) → sine_of (neg x) ≡ neg (sine_of x)
sine_odd x = sine_is (neg x) ∙ ap (λ (z : Float). with_sign (sign_of (neg x)) (size_sine z)) (abs_neg x) ∙ sign_turns x (size_sine (abs_of x)) (size_nan x) ∙ ap neg (sym (sine_is x))

pub cosine_even : (x : Float) → cosine_of (neg x) ≡ cosine_of x
unfolding cosine_of
cosine_even x = ap size_cosine (abs_neg x)

-- ---- within -1..1
unit_in : (v : Float) → T (finite v) → In minus_one one (clamp_of v minus_one one)
unfolding of_bits le
unit_in v f = clamp_in minus_one one v f tt tt

one_neg : neg one ≡ minus_one
unfolding of_bits neg
one_neg = refl

neg_one : neg minus_one ≡ one
unfolding of_bits neg
neg_one = refl

neg_in : (v : Float) → In minus_one one v → In minus_one one (neg v)
neg_in v i = record {
  lower = subst (λ (z : Float). T (le z (neg v))) one_neg (le_neg v one i.upper);
  upper = subst (λ (z : Float). T (le (neg v) z)) neg_one (le_neg minus_one v i.lower);
}

reach_in : (a v : Float) → le a farthest ≡ true → T (finite v) → In minus_one one (in_reach a v)
reach_in a v h f = subst (λ (b : Bool). In minus_one one (cond b (clamp_of v minus_one one) nan)) (sym h) (unit_in v f)

reach_none : (a v : Float) → le a farthest ≡ false → in_reach a v ≡ nan
reach_none a v h = ap (λ (b : Bool). cond b (clamp_of v minus_one one) nan) h

size_in : (a : Float) → sign_of a ≡ false → le a farthest ≡ true → In minus_one one (size_sine a)
unfolding size_sine
size_in a s h = reach_in a (turned_sine (reduced_of a)) h (sine_number a s h)

pub sine_in : (x : Float) → le (abs_of x) farthest ≡ true → In minus_one one (sine_of x)
sine_in x h = subst (In minus_one one) (sym (sine_is x)) (go (sign_of x))
  where
    go : (s : Bool) → In minus_one one (with_sign s (size_sine (abs_of x)))
    go true = neg_in (size_sine (abs_of x)) (size_in (abs_of x) (abs_plain x) h)
    go false = size_in (abs_of x) (abs_plain x) h

pub cosine_in : (x : Float) → le (abs_of x) farthest ≡ true → In minus_one one (cosine_of x)
unfolding cosine_of size_cosine
cosine_in x h = let a = abs_of x in reach_in a (turned_cosine (reduced_of a)) h (cosine_number a (abs_plain x) h)

-- ---- beyond 64 a NaN
pub size_none : (a : Float) → le a farthest ≡ false → size_sine a ≡ nan
unfolding size_sine
size_none a h = reach_none a (turned_sine (reduced_of a)) h

pub size_cosine_none : (a : Float) → le a farthest ≡ false → size_cosine a ≡ nan
unfolding size_cosine
size_cosine_none a h = reach_none a (turned_cosine (reduced_of a)) h

pub sine_none : (x : Float) → le (abs_of x) farthest ≡ false → sine_of x ≡ nan
sine_none x h = sine_is x ∙ ap (with_sign (sign_of x)) (size_none (abs_of x) h) ∙ go (sign_of x)
  where
    go : (s : Bool) → with_sign s nan ≡ nan
    go true = unfold neg in refl
    go false = refl

pub cosine_none : (x : Float) → le (abs_of x) farthest ≡ false → cosine_of x ≡ nan
unfolding cosine_of
cosine_none x h = size_cosine_none (abs_of x) h

-- a NaN and an infinity are beyond it, 64 of either sign is not
pub nan_beyond : le (abs_of nan) farthest ≡ false
unfolding abs_of le of_bits
nan_beyond = refl

pub infinity_beyond : (s : Bool) → le (abs_of (inf s)) farthest ≡ false
unfolding abs_of le of_bits
infinity_beyond s = refl

pub farthest_reached : (s : Bool) → le (abs_of (with_sign s farthest)) farthest ≡ true
unfolding abs_of le of_bits neg
farthest_reached true = refl
farthest_reached false = refl

number : (v : Float) → In minus_one one v → is_nan v ≡ false
unfolding is_nan le of_bits
number nan i = absurd i.upper
number (inf s) i = refl
number (fin s m e) i = refl

pub sine_at_farthest : (s : Bool) → is_nan (sine_of (with_sign s farthest)) ≡ false
sine_at_farthest s = number (sine_of (with_sign s farthest)) (sine_in (with_sign s farthest) (farthest_reached s))

pub cosine_at_farthest : (s : Bool) → is_nan (cosine_of (with_sign s farthest)) ≡ false
cosine_at_farthest s = number (cosine_of (with_sign s farthest)) (cosine_in (with_sign s farthest) (farthest_reached s))

-- ---- the pair is the two
pub pair_sine : (x : Float) → (pair_of x).sine ≡ sine_of x
unfolding pair_of
pair_sine x = refl

pub pair_cosine : (x : Float) → (pair_of x).cosine ≡ cosine_of x
unfolding pair_of
pair_cosine x = refl

-- ---- a zero
sine_zero : (s : Bool) → sine_of (fin s 0 (pos 0)) ≡ fin s 0 (pos 0)
unfolding sine_of of_bits
sine_zero true = refl
sine_zero false = refl

two_up : (k : ℕ) → 2 ^ suc k ≢ 1
two_up k h = go (2 ^ k) (pow_pos k) (sym (pow-add 2 k 1) ∙ ap (λ (n : ℕ). 2 ^ n) next ∙ h)
  where
    next : k + 1 ≡ suc k
    next = omega arith

    go : (n : ℕ) → 0 < n → n * 2 ^ 1 ≢ 1
    go n p e = omega arith

zero_power : (e : ℤ) → up e * down e ≡ 1 → e ≡ pos 0
zero_power (pos zero) h = refl
zero_power (pos (suc k)) h = absurd (two_up k (sym (mul-one (2 ^ suc k)) ∙ h))
zero_power (negsuc k) h = absurd (two_up k (sym (one-mul (2 ^ suc k)) ∙ h))

not_zero : (n d : ℕ) → 0 < n → n * 1 ≢ 0 * 1 * d
not_zero n d h e = omega arith

pub sine_keeps_zero : (x : Float) → T (fits binary64 x) → eq x (fin false 0 (pos 0)) ≡ true → sine_of x ≡ x
unfolding fits eq
sine_keeps_zero nan F h = absurd (true≢false (sym h))
sine_keeps_zero (inf s) F h = absurd (true≢false (sym h))
sine_keeps_zero (fin s zero e) F h = subst (λ (d : ℤ). sine_of (fin s zero d) ≡ fin s zero d) (sym (zero_power e (eqb→eq (up e * down e) 1 F))) (sine_zero s)
sine_keeps_zero (fin s (suc m) e) F h =
    absurd (not_zero (suc m * up e) (down e) (mul-pos (above m) (up_pos e)) (eqb→eq (suc m * up e * 1) (0 * 1 * down e) (and_l (suc m * up e * 1 == 0 * 1 * down e) _ (subst T (sym h) tt))))
  where
    above : (m : ℕ) → 0 < suc m
    above m = omega arith
