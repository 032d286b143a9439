-- What tests, signs and patterns say of a float, and `min_of`, `max_of`, `clamp_of` and `convert` case by case. Assumes nothing.
use Rattle.std.specs.Prelude.{◌≡◌, ℕ, zero, suc, ◌+◌, ◌*◌, ◌/◌, ◌%◌, ◌<◌, Bool, true, false, cond, not, ◌&&◌, ◌||◌, T, ℤ, pos, ◌==◌, nat_le, Float}
use Rattle.std.proofs.Math.Path.{refl}
use Rattle.std.proofs.Common.{sym, ap, ◌∙◌, subst, mod-eq_of_lt, arith}
use Rattle.std.specs.Float.Ieee.Scale.{round_same}
use Rattle.std.specs.Float.Ieee.Compare.{differs_from_itself}
use Rattle.std.proofs.Math.Nat.{add-mod_left}
use Rattle.std.specs.Bool.{beq}
use Rattle.std.proofs.Math.Dec.{eqb_refl}
use Rattle.std.specs.Float.{nan, inf, fin, Format}
use Rattle.std.specs.Float.Ieee.{binary32, binary64, prec, low, up, down, top, hid, ones, odd, of_fields, of_bits, to_bits, neg, sub, round, lt, eq, ne, is_nan, fits, nan_bits}
use Rattle.std.specs.Float.Ieee.Bits.{of_bits-to_bits, is_true, to_bits-lt, nan_bits_is}
use Rattle.std.specs.Float.Ieee.Fits.{down_pos, inf-fits, neg-fits}
use Rattle.std.specs.Float.Ieee.Exact.{HasValue}
use Rattle.laws.specs.FloatSums.{sub_same}
use Rattle.laws.specs.FloatParts.{bits_inf}
use Rattle.laws.specs.FloatValues.{round_id}
use Rattle.numbers.specs.Numbers.{abs_of, sign_of, is_finite, min_of, max_of, clamp_of, convert}

-- ---- tests
level_self : (s : Bool) (a : ℕ) → (a == a && (beq s s || a == 0)) ≡ true
level_self true a = ap (λ (b : Bool). b && true) (is_true (a == a) (eqb_refl a))
level_self false a = ap (λ (b : Bool). b && true) (is_true (a == a) (eqb_refl a))

-- a NaN, and nothing else, differs from itself
pub ne_self : (x : Float) → ne x x ≡ is_nan x
unfolding ne is_nan
ne_self nan = refl
ne_self (inf true) = refl
ne_self (inf false) = refl
ne_self (fin s m e) = ap not (level_self s (m * up e * down e))

-- ---- the sign of what bits stand for is the highest bit, unless they are a NaN's
odd_sign_is : (d : ℕ) (s : Bool) (q k l : ℕ) → sign_of (odd d s q k l) ≡ s
unfolding odd sign_of
odd_sign_is d s zero k l = refl
odd_sign_is d s (suc q) k l = refl

two_tests : (a b s : Bool) (v : Float) → sign_of v ≡ s → T (not (is_nan (cond a (cond b (inf s) nan) v))) → sign_of (cond a (cond b (inf s) nan) v) ≡ s
unfolding sign_of is_nan
two_tests true true s v h n = refl
two_tests true false s v h n = absurd n
two_tests false b s v h n = h

fields_sign : (f : Format) (s : Bool) (x t : ℕ) → T (not (is_nan (of_fields f s x t))) → sign_of (of_fields f s x t) ≡ s
unfolding of_fields
fields_sign f s zero t n = odd_sign_is (prec f) s t 0 (low f)
fields_sign f s (suc x) t n = two_tests (suc x == ones f) (t == 0) s (odd (prec f) s (hid f + t) x (low f)) (odd_sign_is (prec f) s (hid f + t) x (low f)) n

bits_sign : (f : Format) (b : ℕ) → T (not (is_nan (of_bits f b))) → sign_of (of_bits f b) ≡ nat_le (top f) b
unfolding of_bits
bits_sign f b n = fields_sign f (nat_le (top f) b) (b % top f / hid f) (b % hid f) n

pub sign_is : (f : Format) (x : Float) → T (fits f x) → T (not (is_nan x)) → nat_le (top f) (to_bits f x) ≡ sign_of x
sign_is f x h n =
    let e = of_bits-to_bits f x h in
    sym (bits_sign f (to_bits f x) (subst (λ (y : Float). T (not (is_nan y))) (sym e) n)) ∙ ap sign_of e

-- ---- x - x is zero for a finite x only
pub finite_is : (f : Format) (x : Float) → eq (sub f x x) (fin false 0 (pos 0)) ≡ is_finite x
unfolding eq is_finite
finite_is f nan = unfold sub in refl
finite_is f (inf true) = unfold sub in refl
finite_is f (inf false) = unfold sub in refl
finite_is f (fin s m e) = ap (λ (z : Float). eq z (fin false 0 (pos 0))) (sub_same f (fin s m e) tt)

-- ---- abs
pub abs_nan : (x : Float) → ne x x ≡ true → x ≡ abs_of x
unfolding abs_of
abs_nan x h = rw (differs_from_itself x (subst T (sym h) tt))

abs_fits : (f : Format) (x : Float) → T (fits f x) → T (fits f (abs_of x))
unfolding abs_of
abs_fits f nan F = F
abs_fits f (inf s) F = inf-fits f false
abs_fits f (fin false m e) F = F
abs_fits f (fin true m e) F = unfold neg in neg-fits f (fin true m e) F

below_top : (t p : ℕ) → t + p < 2 * t → p < t
below_top t p h = omega arith

with_sign : (f : Format) (m : ℕ) (e : ℤ) → to_bits f (fin true m e) ≡ top f + to_bits f (fin false m e)
unfolding to_bits
with_sign f m e = omega arith

pattern_below : (f : Format) (m : ℕ) (e : ℤ) → T (fits f (fin true m e)) → to_bits f (fin false m e) < top f
pattern_below f m e F = below_top (top f) (to_bits f (fin false m e)) (subst (λ (b : ℕ). b < 2 * top f) (with_sign f m e) (to_bits-lt f (fin true m e) F))

-- the pattern less its highest bit
pub abs_pattern : (f : Format) (x : Float) → T (fits f x) → T (not (is_nan x)) → to_bits f x % top f ≡ to_bits f (abs_of x)
unfolding abs_of is_nan
abs_pattern f nan F n = absurd n
abs_pattern f (inf s) F n = go f s
  where
    go : (f : Format) (s : Bool) → to_bits f (inf s) % top f ≡ to_bits f (inf false)
    go binary32 true = unfold to_bits in refl
    go binary32 false = unfold to_bits in refl
    go binary64 true = unfold to_bits in refl
    go binary64 false = unfold to_bits in refl
abs_pattern f (fin false m e) F n = mod-eq_of_lt (pattern_below f m e (unfold neg in neg-fits f (fin false m e) F))
abs_pattern f (fin true m e) F n = ap (λ (b : ℕ). b % top f) (with_sign f m e) ∙ add-mod_left (top f) (to_bits f (fin false m e)) ∙ mod-eq_of_lt (pattern_below f m e F)

pub abs_bits : (f : Format) (x : Float) → T (fits f x) → T (not (is_nan x)) → of_bits f (to_bits f x % top f) ≡ abs_of x
abs_bits f x F n = ap (of_bits f) (abs_pattern f x F n) ∙ of_bits-to_bits f (abs_of x) (abs_fits f x F)

pub abs_number : (f : Format) (x : Float) → T (fits f x) → T (not (is_nan x)) → T (not (nan_bits f (to_bits f x % top f)))
abs_number f x F n = subst (λ (b : Bool). T (not b)) (sym (nan_bits_is f (to_bits f x % top f) ∙ ap is_nan (abs_bits f x F n))) (go x n)
  where
    go : (x : Float) → T (not (is_nan x)) → T (not (is_nan (abs_of x)))
    go nan n = absurd (unfold is_nan in n)
    go (inf s) n = unfold is_nan abs_of in tt
    go (fin s m e) n = unfold is_nan abs_of in tt

pub sign_nan : (x : Float) → ne x x ≡ true → false ≡ sign_of x
unfolding sign_of
sign_nan x h = rw (differs_from_itself x (subst T (sym h) tt))

-- the test x != x fails
pub no_nan : (x : Float) → ne x x ≡ false → T (not (is_nan x))
no_nan x h = subst (λ (b : Bool). T (not b)) (sym h ∙ ne_self x) tt

-- ---- clamp, min: each arm
pub clamp_1 : (x lo hi : Float) → lt x lo ≡ true → lo ≡ clamp_of x lo hi
unfolding clamp_of
clamp_1 x lo hi h = rw h

pub clamp_2 : (x lo hi : Float) → lt x lo ≡ false → lt hi x ≡ true → hi ≡ clamp_of x lo hi
unfolding clamp_of
clamp_2 x lo hi h k = rw (h, k)

pub clamp_3 : (x lo hi : Float) → lt x lo ≡ false → lt hi x ≡ false → x ≡ clamp_of x lo hi
unfolding clamp_of
clamp_3 x lo hi h k = rw (h, k)

module _ (x y : Float) where
  pub min_1 : ne x x ≡ true → y ≡ min_of x y
  unfolding min_of
  min_1 a = rw (← ne_self x, a)

  pub min_2 : ne x x ≡ false → ne y y ≡ true → x ≡ min_of x y
  unfolding min_of
  min_2 a b = rw (← ne_self x, a, ← ne_self y, b)

  pub min_3 : ne x x ≡ false → ne y y ≡ false → lt x y ≡ true → x ≡ min_of x y
  unfolding min_of
  min_3 a b c = rw (← ne_self x, a, ← ne_self y, b, c)

  pub min_4 : ne x x ≡ false → ne y y ≡ false → lt x y ≡ false → lt y x ≡ true → y ≡ min_of x y
  unfolding min_of
  min_4 a b c d = rw (← ne_self x, a, ← ne_self y, b, c, d)

  pub min_5 : ne x x ≡ false → ne y y ≡ false → lt x y ≡ false → lt y x ≡ false → (s : Bool) → s ≡ sign_of x → cond s x y ≡ min_of x y
  unfolding min_of
  min_5 a b c d s e = rw (← ne_self x, a, ← ne_self y, b, c, d, e)

  pub max_1 : ne x x ≡ true → y ≡ max_of x y
  unfolding max_of
  max_1 a = rw (← ne_self x, a)

  pub max_2 : ne x x ≡ false → ne y y ≡ true → x ≡ max_of x y
  unfolding max_of
  max_2 a b = rw (← ne_self x, a, ← ne_self y, b)

  pub max_3 : ne x x ≡ false → ne y y ≡ false → lt y x ≡ true → x ≡ max_of x y
  unfolding max_of
  max_3 a b c = rw (← ne_self x, a, ← ne_self y, b, c)

  pub max_4 : ne x x ≡ false → ne y y ≡ false → lt y x ≡ false → lt x y ≡ true → y ≡ max_of x y
  unfolding max_of
  max_4 a b c d = rw (← ne_self x, a, ← ne_self y, b, c, d)

  pub max_5 : ne x x ≡ false → ne y y ≡ false → lt y x ≡ false → lt x y ≡ false → (s : Bool) → s ≡ sign_of x → cond s y x ≡ max_of x y
  unfolding max_of
  max_5 a b c d s e = rw (← ne_self x, a, ← ne_self y, b, c, d, e)

-- ---- `convert` by any fraction that the value equals, and where there is none
pub convert_value : (f : Format) (x : Float) (s : Bool) (a c : ℕ) → 0 < c → HasValue x s a c → convert f x ≡ round f s a c
unfolding convert
convert_value f nan s a c C h = absurd h
convert_value f (inf t) s a c C h = absurd h
convert_value f (fin t m e) s a c C h = round_same f t (m * up e) (down e) a c (down_pos e) C h.1 ∙ ap (λ (b : Bool). round f b a c) h.0

pub convert_nan : (f : Format) (x : Float) → ne x x ≡ true → nan ≡ convert f x
unfolding convert
convert_nan f x h = rw (differs_from_itself x (subst T (sym h) tt))

pub convert_inf : (f g : Format) (x : Float) → T (fits g x) → to_bits g x % top g ≡ ones g * hid g → inf (nat_le (top g) (to_bits g x)) ≡ convert f x
unfolding convert
convert_inf f g x p h = ap (convert f) (sym (bits_inf g (to_bits g x) h) ∙ of_bits-to_bits g x p)

-- a value of the format is left as it is
pub convert_id : (f : Format) (x : Float) → T (fits f x) → convert f x ≡ x
unfolding convert
convert_id f nan F = refl
convert_id f (inf s) F = refl
convert_id f (fin s m e) F = round_id f s m e F
