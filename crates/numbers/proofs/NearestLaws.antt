-- Rounding and square root give the nearest value, a tie going to the even one; that determines the result; and where the exact number is a value of the format, it is the result.
-- Assumes nothing.
use Rattle.std.specs.Prelude.{◌≡◌, ℕ, zero, suc, ◌+◌, ◌-◌, ◌*◌, ◌/◌, ◌%◌, ◌^◌, ◌<◌, ◌≤◌, Bool, true, false, cond, not, T, ◌⊎◌, ℤ, ◌==◌, ◌≢◌, from_bits, nat_le, nat_lt, refl, Float}
use Rattle.std.proofs.Common.{sym, ap, ◌∙◌, subst, inl, inr, le_trans, le_of_eq, le_of_lt, le_refl, lt_irrefl, lt_of_lt_of_le, lt_of_le_of_lt, lt_of_not-le, not-le_of_lt, mul-le-mul, mul-le-mul_right, mul-le-mul_left, mul-lt-mul_of_pos_right, le_of_mul-le-mul_right, lt_of_mul-lt-mul_right, mul_assoc, mul-pos, mul-div_cancel, div-add-mod', mod-lt, le-div_iff_mul-le, div-lt_iff_lt-mul, eq-or-lt_of_le, zero-lt-suc, sub-add_cancel, zero-add, arith, leb→le, ltb→lt, lt→ltb, nltb→le, lit≤, pow-add, pow_pos, pow_mono}
use Prim.Native.Nat.{compare, Ordering}
use Rattle.std.proofs.Math.Nat.{pow-succ'}
use Rattle.std.proofs.Math.Dec.{nleb→lt}
use Rattle.std.specs.Float.{nan, inf, fin, Format, binary32, binary64}
use Rattle.std.specs.Float.Ieee.{prec, emax, low, hid, ones, top, up, down, size, units, round, fits, to_bits, nan_bits, neg, lt}
use Rattle.std.specs.Float.Ieee.Digits.{size_reaches}
use Rattle.std.specs.Float.Ieee.Fits.{down_pos, inf-fits, round_is, two, two-le_pos}
use Rattle.std.proofs.Math.Arith.{le→nltb}
use Rattle.std.specs.Float.Ieee.Bits.{to_bits-of_bits, nan_bits_is, is_true, is_false}
use Rattle.std.specs.Float.Ieee.Exact.{HasValue, units_val}
use Rattle.std.specs.Float.Ieee.Nearest.{closest}
use Rattle.std.specs.Float.Ieee.Order.{drop, kept}
use Rattle.laws.specs.FloatRounding.{neg_neg, units_signed, round_neg}
use Rattle.laws.specs.FloatParts.{field, digits_of, power_of, finite_field, float_value, digits_lt}
use Rattle.laws.specs.FloatPack.{packed, packed_inf, pattern_under, units_fits, no_nan_bits, value_unique}
use Rattle.laws.specs.FloatValues.{no_inf, no_nan_fin}
use Rattle.std.specs.Float.Ieee.Positive.{num, den, den_pos, positive}
use Rattle.laws.specs.FloatOrder.{nonneg}
use Rattle.numbers.specs.Numbers.{convert}
use Rattle.patterns.specs.Shift.{Cmp, cmp}
use Rattle.numbers.proofs.Faithful.{sqrt_is}
use Rattle.numbers.specs.Root.{isqrt, closest_root, round_root, sqrt_of}
use Rattle.numbers.specs.Roots.{isqrt_is, closest_root_is}
use Rattle.numbers.specs.RootOrder.{drop_r, kept_r, kept_le, kept_ge, kept_r_le, kept_r_ge, all_in_use, round_root_is}
use Rattle.numbers.specs.Nearest.{Exact, ratio, root, Proper, AtMost, AtLeast, units_of, Value, Nearest}
use Rattle.numbers.specs.Halves.{Near, nearest_near, multiple_below, multiple_above, multiple_tie, low_below, low_not_above, low_no_tie}

-- ---- an exact number against whole numbers of halves
pub at_most_down : (f : Format) (x : Exact) (s t : ℕ) → s ≤ t → AtMost f t x → AtMost f s x
at_most_down f (ratio a b) s t h k = le_trans (mul-le-mul_right b h) k
at_most_down f (root a b) s t h k = le_trans (mul-le-mul_right b (mul-le-mul h h)) k

pub at_least_up : (f : Format) (x : Exact) (s t : ℕ) → s ≤ t → AtLeast f s x → AtLeast f t x
at_least_up f (ratio a b) s t h k = le_trans k (mul-le-mul_right b h)
at_least_up f (root a b) s t h k = le_trans k (mul-le-mul_right b (mul-le-mul h h))

square_le : (s t : ℕ) → s * s ≤ t * t → s ≤ t
square_le s t h = go (nat_lt t s) (ltb→lt t s) (nltb→le t s)
  where
    larger : t < s → t * t < s * s
    larger l = lt_of_le_of_lt (mul-le-mul_left t (le_of_lt l)) (mul-lt-mul_of_pos_right l (lt_of_le_of_lt (least t) l))
      where
        least : (t : ℕ) → 0 ≤ t
        least t = omega arith

    go : (b : Bool) → (T b → t < s) → (T (not b) → s ≤ t) → s ≤ t
    go true y n = absurd (not-le_of_lt (larger (y tt)) h)
    go false y n = n tt

pub at_most_least : (f : Format) (x : Exact) → Proper x → (s t : ℕ) → AtMost f s x → AtLeast f t x → s ≤ t
at_most_least f (ratio a b) B s t h k = le_of_mul-le-mul_right (le_trans h k) B
at_most_least f (root a b) B s t h k = square_le s t (le_of_mul-le-mul_right (le_trans h k) B)

abbrev NearTo : Format → Exact → ℕ → ℕ → Type 0
NearTo f x U q = Near (λ t. AtMost f t x) (λ t. AtLeast f t x) U q

-- ---- the multiple of 2 ^ k that is kept is the nearest one
ratio_near : (f : Format) (a b k : ℕ) → 0 < b → NearTo f (ratio a b) (2 ^ k) (closest (a * 2 ^ low f) (b * 2 ^ k))
ratio_near f a b k B =
    let n = a * 2 ^ low f in
    let u = b * 2 ^ k in
    let e = div-add-mod' n u in
    let l = mod-lt n (mul-pos B (pow_pos k)) in
    nearest_near (λ t. AtMost f t (ratio a b)) (λ t. AtLeast f t (ratio a b)) (at_most_down f (ratio a b)) (at_least_up f (ratio a b)) (at_most_least f (ratio a b) B)
    (2 ^ k) (n / u) (n % u * 2) u (pow_pos k)
    (whole (n / u) (n % u) b (2 ^ k) n e) (past (n / u) (n % u) b (2 ^ k) n e l)
    (λ h. more (n / u) (n % u) b (2 ^ k) n e h) (λ h. more' (n / u) (n % u) b (2 ^ k) n e h) (λ h. fewer (n / u) (n % u) b (2 ^ k) n e h) (λ h. fewer' (n / u) (n % u) b (2 ^ k) n e h)
  where
    whole : (w r b U n : ℕ) → w * (b * U) + r ≡ n → 2 * w * U * b ≤ n * 2
    whole w r b U n e = omega arith

    past : (w r b U n : ℕ) → w * (b * U) + r ≡ n → r < b * U → n * 2 ≤ (2 * w + 2) * U * b
    past w r b U n e l = omega arith

    more : (w r b U n : ℕ) → w * (b * U) + r ≡ n → b * U ≤ r * 2 → (2 * w + 1) * U * b ≤ n * 2
    more w r b U n e l = omega arith

    more' : (w r b U n : ℕ) → w * (b * U) + r ≡ n → (2 * w + 1) * U * b ≤ n * 2 → b * U ≤ r * 2
    more' w r b U n e l = omega arith

    fewer : (w r b U n : ℕ) → w * (b * U) + r ≡ n → r * 2 ≤ b * U → n * 2 ≤ (2 * w + 1) * U * b
    fewer w r b U n e l = omega arith

    fewer' : (w r b U n : ℕ) → w * (b * U) + r ≡ n → n * 2 ≤ (2 * w + 1) * U * b → r * 2 ≤ b * U
    fewer' w r b U n e l = omega arith

root_near : (f : Format) (a b k : ℕ) → 0 < b → NearTo f (root a b) (2 ^ k) (closest_root (a * 2 ^ (low f + low f)) (b * 2 ^ (k + k)))
root_near f a b k B =
    let n = a * 2 ^ (low f + low f) in
    let u = b * 2 ^ (k + k) in
    let w = isqrt (n / u) in
    let U = 2 ^ k in
    let P : 0 < u = mul-pos B (pow_pos (k + k)) in
    let d : u ≡ b * (U * U) = ap (λ (z : ℕ). b * z) (pow-add 2 k k) in
    let Lo : w * w * u ≤ n = (le-div_iff_mul-le P).0 (isqrt_is (n / u)).least in
    let Hi : n < (w + 1) * (w + 1) * u = (div-lt_iff_lt-mul P).0 (isqrt_is (n / u)).most in
    subst (NearTo f (root a b) U) (sym (closest_root_is n u))
    (nearest_near (λ t. AtMost f t (root a b)) (λ t. AtLeast f t (root a b)) (at_most_down f (root a b)) (at_least_up f (root a b)) (at_most_least f (root a b) B)
    U w (n * 4) ((2 * w + 1) * (2 * w + 1) * u) (pow_pos k)
    (whole w u b U n d Lo) (past w u b U n d Hi)
    (λ h. le_trans (le_of_eq (half w u b U d)) h) (λ h. le_trans (le_of_eq (sym (half w u b U d))) h) (λ h. le_trans h (le_of_eq (sym (half w u b U d)))) (λ h. le_trans h (le_of_eq (half w u b U d))))
  where
    whole : (w u b U n : ℕ) → u ≡ b * (U * U) → w * w * u ≤ n → 2 * w * U * (2 * w * U) * b ≤ n * 4
    whole w u b U n d l = le_trans (le_of_eq (r w b U)) (le_trans (mul-le-mul_right 4 (subst (λ (z : ℕ). w * w * z ≤ n) d l)) (le_of_eq refl))
      where
        r : (w b U : ℕ) → 2 * w * U * (2 * w * U) * b ≡ w * w * (b * (U * U)) * 4
        r w b U = omega arith

    past : (w u b U n : ℕ) → u ≡ b * (U * U) → n < (w + 1) * (w + 1) * u → n * 4 ≤ (2 * w + 2) * U * ((2 * w + 2) * U) * b
    past w u b U n d l = le_trans (mul-le-mul_right 4 (le_of_lt (subst (λ (z : ℕ). n < (w + 1) * (w + 1) * z) d l))) (le_of_eq (r w b U))
      where
        r : (w b U : ℕ) → (w + 1) * (w + 1) * (b * (U * U)) * 4 ≡ (2 * w + 2) * U * ((2 * w + 2) * U) * b
        r w b U = omega arith

    half : (w u b U : ℕ) → u ≡ b * (U * U) → (2 * w + 1) * U * ((2 * w + 1) * U) * b ≡ (2 * w + 1) * (2 * w + 1) * u
    half w u b U d = r w b U ∙ ap (λ (z : ℕ). (2 * w + 1) * (2 * w + 1) * z) (sym d)
      where
        r : (w b U : ℕ) → (2 * w + 1) * U * ((2 * w + 1) * U) * b ≡ (2 * w + 1) * (2 * w + 1) * (b * (U * U))
        r w b U = omega arith

-- ---- where the values of a format stand
-- the power of the largest values
abbrev last : Format → ℕ
last f = ones f - 2

-- a finite value is d * 2 ^ e of the smallest, and d's last digit is its pattern's
record Placed (f : Format) (v : Float) (d e : ℕ) : Type 0 where
  at : units_of f v ≡ d * 2 ^ e
  small : d < 2 ^ prec f
  deep : e ≤ last f
  parity : to_bits f v % 2 ≡ d % 2

units_of_value : (f : Format) (v : Float) (s : Bool) (a : ℕ) → HasValue v s a (2 ^ low f) → units_of f v ≡ a
units_of_value f nan s a h = absurd h
units_of_value f (inf t) s a h = absurd h
units_of_value f (fin t m e) s a h = ap (λ (z : ℕ). z / down e) h.1 ∙ mul-div_cancel a (down_pos e)

placed : (f : Format) (s : Bool) (m : ℕ) (e : ℤ) → T (fits f (fin s m e)) → Placed f (fin s m e) (digits_of f (to_bits f (fin s m e))) (power_of f (to_bits f (fin s m e)))
placed f s m e F =
    let v = fin s m e in
    let b = to_bits f v in
    let l = finite_field f v F (no_nan_fin s m e) (no_inf f s m e F) in
    record {
      at = units_of_value f v (nat_le (top f) b) (digits_of f b * 2 ^ power_of f b) (float_value f v F l);
      small = digits_lt f b;
      deep = deepest (field f b) (ones f) l;
      parity = last_digit f b;
    }
  where
    deepest : (x o : ℕ) → x < o → x - 1 ≤ o - 2
    deepest x o h = omega arith

    last_digit : (f : Format) (b : ℕ) → b % 2 ≡ digits_of f b % 2
    last_digit f b = go f (field f b == 0)
      where
        go : (f : Format) (t : Bool) → b % 2 ≡ cond t (b % hid f) (b % hid f + hid f) % 2
        go binary32 true = omega arith
        go binary32 false = omega arith
        go binary64 true = omega arith
        go binary64 false = omega arith

-- the infinity stands one digit past the largest
twice : (f : Format) → 2 ^ prec f ≡ 2 * hid f
twice binary32 = refl
twice binary64 = refl

some_digits : (f : Format) → 0 < hid f
some_digits f = pow_pos (prec f - 1)

infinity_at : (f : Format) → 2 ^ (low f + suc (emax f)) ≡ 2 ^ prec f * 2 ^ last f
infinity_at f = ap (λ (z : ℕ). 2 ^ z) (go f) ∙ pow-add 2 (prec f) (last f)
  where
    go : (f : Format) → low f + suc (emax f) ≡ prec f + last f
    go binary32 = refl
    go binary64 = refl

infinity_even : (f : Format) → to_bits f (inf false) % 2 ≡ 0
unfolding to_bits
infinity_even binary32 = refl
infinity_even binary64 = refl

-- e steps are a multiple of k steps, or lie below them
lifted : (d e k : ℕ) → k ≤ e → d * 2 ^ e ≡ d * 2 ^ (e - k) * 2 ^ k
lifted d e k h = ap (λ (z : ℕ). d * 2 ^ z) (sym (sub-add_cancel h)) ∙ ap (λ (z : ℕ). d * z) (pow-add 2 (e - k) k) ∙ sym (mul_assoc d (2 ^ (e - k)) (2 ^ k))

under_step : (H d e k : ℕ) → d < 2 * H → e < k → d * 2 ^ e < H * 2 ^ k
under_step H d e k h l =
    lt_of_lt_of_le (mul-lt-mul_of_pos_right h (pow_pos e))
    (le_trans (le_of_eq (r H (2 ^ e))) (mul-le-mul_left H (le_trans (le_of_eq (sym (pow-succ' 2 e))) (pow_mono l))))
  where
    r : (H u : ℕ) → 2 * H * u ≡ H * (2 * u)
    r H u = omega arith

-- an odd multiple is no higher
odd_level : (d j : ℕ) → d * 2 ^ j % 2 ≡ 1 → d % 2 ≡ 1
odd_level d zero h = subst (λ (z : ℕ). z % 2 ≡ 1) (times_one d) h
  where
    times_one : (d : ℕ) → d * 1 ≡ d
    times_one d = omega arith
odd_level d (suc j) h = absurd (no (d * 2 ^ j) (subst (λ (z : ℕ). z % 2 ≡ 1) (ap (λ (z : ℕ). d * z) (pow-succ' 2 j) ∙ r d (2 ^ j)) h))
  where
    r : (d u : ℕ) → d * (2 * u) ≡ 2 * (d * u)
    r d u = omega arith

    no : (u : ℕ) → 2 * u % 2 ≢ 1
    no u h = omega arith

-- ---- the kept multiple, as a value of the format, is nearest
module _ (f : Format) (x : Exact) (B : Proper x) (q k : ℕ) (most : q ≤ 2 ^ prec f) (least : 0 < k → hid f ≤ q) (N : NearTo f x (2 ^ k) q) (high : 0 < k → AtMost f (2 * hid f * 2 ^ k) x) where
  abbrev Lo : ℕ → Type 0
  Lo t = AtMost f t x

  abbrev Hi : ℕ → Type 0
  Hi t = AtLeast f t x

  abbrev y : Float
  y = units f false q k

  -- v's place against y's: a multiple of y's steps, or below them
  record Apart (v : ℕ) (odd : Type 0) : Type 0 where
    below : v < q * 2 ^ k → Lo (v + q * 2 ^ k)
    above : q * 2 ^ k < v → Hi (v + q * 2 ^ k)
    even : (v ≢ q * 2 ^ k) → Lo (v + q * 2 ^ k) → Hi (v + q * 2 ^ k) → (q % 2 ≡ 0) × odd

  multiple : (w v : ℕ) → v ≡ w * 2 ^ k → Apart v (w % 2 ≡ 1)
  multiple w v e =
      subst (λ (z : ℕ). Apart z (w % 2 ≡ 1)) (sym e) (record {
        below = λ h. multiple_below Lo Hi (at_most_down f x) (at_least_up f x) (at_most_least f x B) (2 ^ k) q (pow_pos k) N w (less w q h);
        above = λ h. multiple_above Lo Hi (at_most_down f x) (at_least_up f x) (at_most_least f x B) (2 ^ k) q (pow_pos k) N w (less q w h);
        even = λ n l h. multiple_tie Lo Hi (at_most_down f x) (at_least_up f x) (at_most_least f x B) (2 ^ k) q (pow_pos k) N w (λ e. n (ap (λ (z : ℕ). z * 2 ^ k) e)) l h;
      })
    where
      less : (a b : ℕ) → a * 2 ^ k < b * 2 ^ k → a < b
      less a b h = lt_of_not-le (λ (g : b ≤ a). not-le_of_lt h (mul-le-mul_right (2 ^ k) g))

  smaller : (v : ℕ) (odd : Type 0) → 0 < k → v < hid f * 2 ^ k → Apart v odd
  smaller v odd K l = record {
    below = λ h. low_below Lo Hi (at_most_down f x) (at_least_up f x) (at_most_least f x B) (2 ^ k) q (pow_pos k) N (hid f) v (least K) (high K) l;
    above = λ h. absurd (low_not_above Lo Hi (at_most_down f x) (at_least_up f x) (at_most_least f x B) (2 ^ k) q (pow_pos k) N (hid f) v (least K) (high K) l h);
    even = λ n l' h. absurd (low_no_tie Lo Hi (at_most_down f x) (at_least_up f x) (at_most_least f x B) (2 ^ k) q (pow_pos k) N (hid f) v (least K) (high K) l h);
  }

  finite_apart : (v : Float) (d e : ℕ) → Placed f v d e → Apart (units_of f v) (d % 2 ≡ 1)
  finite_apart v d e P = go (nat_le k e) (leb→le k e) (nleb→lt k e)
    where
      weaker : (w : ℕ) → (w % 2 ≡ 1 → d % 2 ≡ 1) → Apart (units_of f v) (w % 2 ≡ 1) → Apart (units_of f v) (d % 2 ≡ 1)
      weaker w g a = record { below = a.below; above = a.above; even = λ n l h. ((a.even n l h).0, g (a.even n l h).1) }

      go : (b : Bool) → (T b → k ≤ e) → (T (not b) → e < k) → Apart (units_of f v) (d % 2 ≡ 1)
      go true h g = weaker (d * 2 ^ (e - k)) (odd_level d (e - k)) (multiple (d * 2 ^ (e - k)) (units_of f v) (P.at ∙ lifted d e k (h tt)))
      go false h g = smaller (units_of f v) (d % 2 ≡ 1) (lt_of_le_of_lt (nought e) (g tt)) (subst (λ (z : ℕ). z < hid f * 2 ^ k) (sym P.at) (under_step (hid f) d e k (subst (λ (z : ℕ). d < z) (twice f) P.small) (g tt)))
        where
          nought : (e : ℕ) → 0 ≤ e
          nought e = omega arith

  -- ---- y below the infinity
  module _ (room : k * hid f + q < ones f * hid f) where
    y_units : units_of f y ≡ q * 2 ^ k
    y_units = units_of_value f y false (q * 2 ^ k) (units_val f false q k (pattern_under f q k most least room))

    y_pattern : to_bits f y ≡ k * hid f + q
    y_pattern =
        let p = k * hid f + q in
        ap (to_bits f) (packed f false q k most least room ∙ ap (from_bits f) (zero-add p))
        ∙ to_bits-of_bits f p (lt_of_lt_of_le room (all f)) (subst (λ (b : Bool). T (not b)) (nan_bits_is f p) (subst (λ (z : ℕ). T (not (nan_bits f z))) (zero-add p) (no_nan_bits f false p (le_of_lt room))))
      where
        all : (f : Format) → ones f * hid f ≤ 2 * top f
        all binary32 = lit≤ tt
        all binary64 = lit≤ tt

    y_parity : q % 2 ≡ 0 → to_bits f y % 2 ≡ 0
    y_parity h = ap (λ (z : ℕ). z % 2) y_pattern ∙ go f q h
      where
        go : (f : Format) (q : ℕ) → q % 2 ≡ 0 → (k * hid f + q) % 2 ≡ 0
        go binary32 q h = omega arith
        go binary64 q h = omega arith

    k_deep : k ≤ last f
    k_deep = go f k q room least
      where
        go : (f : Format) (k q : ℕ) → k * hid f + q < ones f * hid f → (0 < k → hid f ≤ q) → k ≤ last f
        go f zero q h g = nought (last f)
          where
            nought : (n : ℕ) → 0 ≤ n
            nought n = omega arith
        go binary32 (suc k) q h g = let l = g (zero-lt-suc k) in omega arith
        go binary64 (suc k) q h g = let l = g (zero-lt-suc k) in omega arith

    -- each value is apart from y as its place says, with its own parity
    value_apart : (v : Float) → Value f v → Apart (units_of f v) (to_bits f v % 2 ≡ 1)
    value_apart nan G = absurd G.plain
    value_apart (inf true) G = absurd G.plain
    value_apart (inf false) G =
        let a = multiple (2 ^ prec f * 2 ^ (last f - k)) (units_of f (inf false)) (infinity_at f ∙ lifted (2 ^ prec f) (last f) k k_deep) in
        record { below = a.below; above = a.above; even = λ n l h. ((a.even n l h).0, absurd (no (hid f * 2 ^ (last f - k)) (subst (λ (z : ℕ). z % 2 ≡ 1) (ap (λ (z : ℕ). z * 2 ^ (last f - k)) (twice f) ∙ r (hid f) (2 ^ (last f - k))) (a.even n l h).1))) }
      where
        r : (H u : ℕ) → 2 * H * u ≡ 2 * (H * u)
        r H u = omega arith

        no : (u : ℕ) → 2 * u % 2 ≢ 1
        no u h = omega arith
    value_apart (fin s m e) G =
        let P = placed f s m e G.held in
        let b = to_bits f (fin s m e) in
        let a = finite_apart (fin s m e) (digits_of f b) (power_of f b) P in
        record { below = a.below; above = a.above; even = λ n l h. ((a.even n l h).0, P.parity ∙ (a.even n l h).1) }

    finite_nearest : T (fits f y) → Nearest f x y
    finite_nearest F = record {
      value = record { held = F; plain = units_signed false f q k };
      below = λ v G h. subst (λ (z : ℕ). Lo (units_of f v + z)) (sym y_units) ((value_apart v G).below (subst (λ (z : ℕ). units_of f v < z) y_units h));
      above = λ v G h. subst (λ (z : ℕ). Hi (units_of f v + z)) (sym y_units) ((value_apart v G).above (subst (λ (z : ℕ). z < units_of f v) y_units h));
      even = λ v G n l h.
          let t = (value_apart v G).even (λ e. n (e ∙ sym y_units)) (subst (λ (z : ℕ). Lo (units_of f v + z)) y_units l) (subst (λ (z : ℕ). Hi (units_of f v + z)) y_units h) in
          (y_parity t.0, t.1);
    }

  -- ---- y at the infinity: the exact number reaches half way from the largest value to it
  module _ (full : ones f * hid f ≤ k * hid f + q) where
    abbrev largest : ℕ
    largest = 2 ^ prec f - 1

    largest_next : 2 ^ prec f ≡ suc largest
    largest_next = go (2 ^ prec f) (pow_pos (prec f))
      where
        go : (n : ℕ) → 0 < n → n ≡ suc (n - 1)
        go n h = omega arith

    half_way : Lo ((2 * largest + 1) * 2 ^ last f)
    half_way = go (eq-or-lt_of_le (deep f k q full most))
      where
        deep : (f : Format) (k q : ℕ) → ones f * hid f ≤ k * hid f + q → q ≤ 2 ^ prec f → last f ≤ k
        deep binary32 k q h g = omega arith
        deep binary64 k q h g = omega arith

        top_digits : (f : Format) (q : ℕ) → ones f * hid f ≤ last f * hid f + q → q ≤ 2 ^ prec f → q ≡ 2 ^ prec f
        top_digits binary32 q h g = omega arith
        top_digits binary64 q h g = omega arith

        all : (f : Format) (M W : ℕ) → 2 * M ≤ W → (2 * (2 ^ prec f - 1) + 1) * M ≤ 2 * hid f * W
        all binary32 M W h = omega arith
        all binary64 M W h = omega arith

        go : (last f ≡ k) ⊎ (last f < k) → Lo ((2 * largest + 1) * 2 ^ last f)
        go (inl e) =
            let t : q ≡ 2 ^ prec f = top_digits f q (subst (λ (z : ℕ). ones f * hid f ≤ z * hid f + q) (sym e) full) most in
            subst (λ (z : ℕ). Lo ((2 * largest + 1) * 2 ^ z)) (sym e) (N.under largest (t ∙ largest_next))
        go (inr l) = at_most_down f x ((2 * largest + 1) * 2 ^ last f) (2 * hid f * 2 ^ k) (all f (2 ^ last f) (2 ^ k) (le_trans (le_of_eq (sym (pow-succ' 2 (last f)))) (pow_mono l))) (high (lt_of_le_of_lt (nought (last f)) l))
          where
            nought : (n : ℕ) → 0 ≤ n
            nought n = omega arith

    -- a finite value is at most the largest, and there its last digit is odd
    record Reach (v : Float) : Type 0 where
      within : units_of f v ≤ largest * 2 ^ last f
      odd : largest * 2 ^ last f ≤ units_of f v → to_bits f v % 2 ≡ 1

    reach : (v : Float) (d e : ℕ) → Placed f v d e → Reach v
    reach v d e P = go (eq-or-lt_of_le P.deep)
      where
        fewer : (n d : ℕ) → n ≡ suc (n - 1) → d < n → d ≤ n - 1
        fewer n d e h = omega arith

        odd_largest : (f : Format) (d : ℕ) → d < 2 ^ prec f → 2 ^ prec f - 1 ≤ d → d % 2 ≡ 1
        odd_largest binary32 d h g = omega arith
        odd_largest binary64 d h g = omega arith

        half_less : (f : Format) → hid f ≤ 2 ^ prec f - 1
        half_less binary32 = lit≤ tt
        half_less binary64 = lit≤ tt

        go : (e ≡ last f) ⊎ (e < last f) → Reach v
        go (inl g) =
            let at : units_of f v ≡ d * 2 ^ last f = P.at ∙ ap (λ (z : ℕ). d * 2 ^ z) g in
            record {
              within = le_trans (le_of_eq at) (mul-le-mul_right (2 ^ last f) (fewer (2 ^ prec f) d largest_next P.small));
              odd = λ h. P.parity ∙ odd_largest f d P.small (le_of_mul-le-mul_right (subst (λ (z : ℕ). largest * 2 ^ last f ≤ z) at h) (pow_pos (last f)));
            }
        go (inr l) =
            let u : units_of f v < hid f * 2 ^ last f = subst (λ (z : ℕ). z < hid f * 2 ^ last f) (sym P.at) (under_step (hid f) d e (last f) (subst (λ (z : ℕ). d < z) (twice f) P.small) l) in
            let w : units_of f v < largest * 2 ^ last f = lt_of_lt_of_le u (mul-le-mul_right (2 ^ last f) (half_less f)) in
            record { within = le_of_lt w; odd = λ h. absurd (not-le_of_lt w h) }

    inf_units : units_of f (inf false) ≡ suc largest * 2 ^ last f
    inf_units = infinity_at f ∙ ap (λ (z : ℕ). z * 2 ^ last f) largest_next

    infinite_below : (v : Float) → Reach v → Lo (units_of f v + units_of f (inf false))
    infinite_below v R =
        at_most_down f x (units_of f v + units_of f (inf false)) ((2 * largest + 1) * 2 ^ last f)
        (subst (λ (z : ℕ). units_of f v + z ≤ (2 * largest + 1) * 2 ^ last f) (sym inf_units) (sum (units_of f v) largest (2 ^ last f) R.within)) half_way
      where
        sum : (v r M : ℕ) → v ≤ r * M → v + suc r * M ≤ (2 * r + 1) * M
        sum v r M h = omega arith

    infinite_odd : (v : Float) → Reach v → Hi (units_of f v + units_of f (inf false)) → to_bits f v % 2 ≡ 1
    infinite_odd v R h =
        R.odd (back (units_of f v) largest (2 ^ last f) (at_most_least f x B ((2 * largest + 1) * 2 ^ last f) (units_of f v + suc largest * 2 ^ last f) half_way (subst (λ (z : ℕ). Hi (units_of f v + z)) inf_units h)))
      where
        back : (v r M : ℕ) → (2 * r + 1) * M ≤ v + suc r * M → r * M ≤ v
        back v r M h = omega arith

    not_past : (v : Float) → Reach v → units_of f (inf false) < units_of f v → ⊥
    not_past v R h = clash (units_of f v) largest (2 ^ last f) R.within (subst (λ (z : ℕ). z < units_of f v) inf_units h)
      where
        clash : (v r M : ℕ) → v ≤ r * M → suc r * M < v → ⊥
        clash v r M h g = omega arith

    reached : (v : Float) → Value f v → (v ≡ inf false) ⊎ Reach v
    reached nan G = absurd G.plain
    reached (inf true) G = absurd G.plain
    reached (inf false) G = inl refl
    reached (fin s m e) G = inr (reach (fin s m e) (digits_of f (to_bits f (fin s m e))) (power_of f (to_bits f (fin s m e))) (placed f s m e G.held))

    infinite_nearest : Nearest f x (inf false)
    infinite_nearest = record {
      value = record { held = inf-fits f false; plain = tt };
      below = λ v G h. elim (reached v G) [ inl e ↦ absurd (lt_irrefl (units_of f (inf false)) (subst (λ (z : Float). units_of f z < units_of f (inf false)) e h)) | inr R ↦ infinite_below v R ];
      above = λ v G h. elim (reached v G) [ inl e ↦ absurd (lt_irrefl (units_of f (inf false)) (subst (λ (z : Float). units_of f (inf false) < units_of f z) e h)) | inr R ↦ absurd (not_past v R h) ];
      even = λ v G n l h. elim (reached v G) [ inl e ↦ absurd (n (ap (units_of f) e)) | inr R ↦ (infinity_even f, infinite_odd v R h) ];
    }

  kept_nearest : Nearest f x y
  kept_nearest = go (nat_lt (k * hid f + q) (ones f * hid f)) (ltb→lt (k * hid f + q) (ones f * hid f)) (nltb→le (k * hid f + q) (ones f * hid f))
    where
      go : (b : Bool) → (T b → k * hid f + q < ones f * hid f) → (T (not b) → ones f * hid f ≤ k * hid f + q) → Nearest f x y
      go true h g = finite_nearest (h tt) (units_fits f false q k most)
      go false h g = subst (Nearest f x) (sym (packed_inf f false q k most least (g tt))) (infinite_nearest (g tt))

-- ---- THE THEOREMS
-- a fraction, rounded
pub round_nearest : (f : Format) (a b : ℕ) → 0 < b → Nearest f (ratio a b) (round f false a b)
round_nearest f a b B =
    let p = prec f in
    let P = two-le_pos p (two f) in
    let n = a * 2 ^ low f in
    let k = drop p n b in
    subst (Nearest f (ratio a b)) (sym (round_is f false a b))
    (kept_nearest f (ratio a b) B (kept p n b) k (kept_le p n b) (λ K. kept_ge p n b P K) (ratio_near f a b k B)
    (λ K. high (2 ^ (p - 1)) (2 ^ k) n ((le-div_iff_mul-le B).0 (le_trans (le_of_eq (sym (pow-add 2 (p - 1) k))) (size_reaches (n / b) (p - 1 + k) (all_in_use (size (n / b)) p P K))))))
  where
    high : (H u n : ℕ) → H * u * b ≤ n → 2 * H * u * b ≤ n * 2
    high H u n h = omega arith

-- and the root of one
pub root_nearest : (f : Format) (a b : ℕ) → 0 < b → Nearest f (root a b) (round_root f a b)
root_nearest f a b B =
    let p = prec f in
    let P = two-le_pos p (two f) in
    let n = a * 2 ^ (low f + low f) in
    let k = drop_r p n b in
    let R = isqrt (n / b) in
    subst (Nearest f (root a b)) (sym (round_root_is f a b))
    (kept_nearest f (root a b) B (kept_r p n b) k (kept_r_le p n b) (λ K. kept_r_ge p n b P K) (root_near f a b k B)
    (λ K.
    let r : 2 ^ (p - 1) * 2 ^ k ≤ R = le_trans (le_of_eq (sym (pow-add 2 (p - 1) k))) (size_reaches R (p - 1 + k) (all_in_use (size R) p P K)) in
    high (2 ^ (p - 1)) (2 ^ k) n ((le-div_iff_mul-le B).0 (le_trans (mul-le-mul r r) (isqrt_is (n / b)).least))))
  where
    high : (H u n : ℕ) → H * u * (H * u) * b ≤ n → 2 * H * u * (2 * H * u) * b ≤ n * 4
    high H u n h = omega arith

-- ---- a value is known by its place
no_less : (a b : ℕ) → b ≤ a → nat_lt a b ≡ false
no_less a b h = is_false (nat_lt a b) (le→nltb a b h)

own_value : (f : Format) (m : ℕ) (e : ℤ) → T (fits f (fin false m e)) → HasValue (fin false m e) false (units_of f (fin false m e)) (2 ^ low f)
own_value f m e F =
    let v = fin false m e in
    let b = to_bits f v in
    let h = float_value f v F (finite_field f v F (no_nan_fin false m e) (no_inf f false m e F)) in
    (refl, subst (λ (a : ℕ). m * up e * 2 ^ low f ≡ a * down e) (sym (units_of_value f v (nat_le (top f) b) (digits_of f b * 2 ^ power_of f b) h)) h.1)

finite_short : (f : Format) (m : ℕ) (e : ℤ) → T (fits f (fin false m e)) → units_of f (fin false m e) < units_of f (inf false)
finite_short f m e F =
    let P = placed f false m e F in
    let d = digits_of f (to_bits f (fin false m e)) in
    let g = power_of f (to_bits f (fin false m e)) in
    lt_of_le_of_lt (le_of_eq P.at) (lt_of_lt_of_le (mul-lt-mul_of_pos_right P.small (pow_pos g)) (le_trans (mul-le-mul_left (2 ^ prec f) (pow_mono P.deep)) (le_of_eq (sym (infinity_at f)))))

pub same_place : (f : Format) (v w : Float) → Value f v → Value f w → units_of f v ≡ units_of f w → v ≡ w
same_place f nan w G K e = absurd G.plain
same_place f (inf true) w G K e = absurd G.plain
same_place f (inf false) nan G K e = absurd K.plain
same_place f (inf false) (inf true) G K e = absurd K.plain
same_place f (inf false) (inf false) G K e = refl
same_place f (inf false) (fin true m d) G K e = absurd K.plain
same_place f (inf false) (fin false m d) G K e = absurd (lt_irrefl (units_of f (inf false)) (subst (λ (z : ℕ). z < units_of f (inf false)) (sym e) (finite_short f m d K.held)))
same_place f (fin true m d) w G K e = absurd G.plain
same_place f (fin false m d) nan G K e = absurd K.plain
same_place f (fin false m d) (inf true) G K e = absurd K.plain
same_place f (fin false m d) (inf false) G K e = absurd (lt_irrefl (units_of f (inf false)) (subst (λ (z : ℕ). z < units_of f (inf false)) e (finite_short f m d G.held)))
same_place f (fin false m d) (fin true n c) G K e = absurd K.plain
same_place f (fin false m d) (fin false n c) G K e =
    value_unique f (fin false m d) (fin false n c) false (units_of f (fin false n c)) G.held K.held
    (subst (λ (a : ℕ). HasValue (fin false m d) false a (2 ^ low f)) e (own_value f m d G.held)) (own_value f n c K.held)

-- ---- and the order of values is that of their places
pub place_order : (f : Format) (v w : Float) → Value f v → Value f w → lt v w ≡ nat_lt (units_of f v) (units_of f w)
unfolding lt
place_order f nan w G K = absurd G.plain
place_order f (inf true) w G K = absurd G.plain
place_order f (inf false) nan G K = absurd K.plain
place_order f (inf false) (inf true) G K = absurd K.plain
place_order f (inf false) (inf false) G K = sym (no_less (units_of f (inf false)) (units_of f (inf false)) (le_refl (units_of f (inf false))))
place_order f (inf false) (fin true m d) G K = absurd K.plain
place_order f (inf false) (fin false m d) G K = sym (no_less (units_of f (inf false)) (units_of f (fin false m d)) (le_of_lt (finite_short f m d K.held)))
place_order f (fin true m d) w G K = absurd G.plain
place_order f (fin false m d) nan G K = absurd K.plain
place_order f (fin false m d) (inf true) G K = absurd K.plain
place_order f (fin false m d) (inf false) G K = sym (is_true (nat_lt (units_of f (fin false m d)) (units_of f (inf false))) (lt→ltb (units_of f (fin false m d)) (units_of f (inf false)) (finite_short f m d G.held)))
place_order f (fin false m d) (fin true n c) G K = absurd K.plain
place_order f (fin false m d) (fin false n c) G K =
    scaled (m * up d) (down d) (n * up c) (down c) (2 ^ low f) (units_of f (fin false m d)) (units_of f (fin false n c)) (pow_pos (low f)) (down_pos d) (down_pos c) (own_value f m d G.held).1 (own_value f n c K.held).1
  where
    scaled : (a x b y p u w : ℕ) → 0 < p → 0 < x → 0 < y → a * p ≡ u * x → b * p ≡ w * y → nat_lt (a * y) (b * x) ≡ nat_lt u w
    scaled a x b y p u w P X Y e g = go (nat_lt u w) (ltb→lt u w) (nltb→le u w)
      where
        left : a * y * p ≡ u * (x * y)
        left = r a y p ∙ ap (λ (z : ℕ). z * y) e ∙ mul_assoc u x y
          where
            r : (a y p : ℕ) → a * y * p ≡ a * p * y
            r a y p = omega arith

        right : b * x * p ≡ w * (x * y)
        right = r b x p ∙ ap (λ (z : ℕ). z * x) g ∙ s w y x
          where
            r : (b x p : ℕ) → b * x * p ≡ b * p * x
            r b x p = omega arith

            s : (w y x : ℕ) → w * y * x ≡ w * (x * y)
            s w y x = omega arith

        go : (t : Bool) → (T t → u < w) → (T (not t) → w ≤ u) → nat_lt (a * y) (b * x) ≡ t
        go true h k =
            is_true (nat_lt (a * y) (b * x)) (lt→ltb (a * y) (b * x)
            (lt_of_mul-lt-mul_right p (lt_of_le_of_lt (le_of_eq left) (lt_of_lt_of_le (mul-lt-mul_of_pos_right (h tt) (mul-pos X Y)) (le_of_eq (sym right))))))
        go false h k = no_less (a * y) (b * x) (le_of_mul-le-mul_right (le_trans (le_of_eq right) (le_trans (mul-le-mul_right (x * y) (k tt)) (le_of_eq (sym left)))) P)

-- ---- being nearest determines the result
pub nearest_unique : (f : Format) (x : Exact) → Proper x → (y z : Float) → Nearest f x y → Nearest f x z → y ≡ z
nearest_unique f x B y z M N = go (compare (units_of f y) (units_of f z)) (cmp (units_of f y) (units_of f z))
  where
    swap : (a b : ℕ) → a + b ≡ b + a
    swap a b = omega arith

    both : (n : ℕ) → n ≡ 0 → n ≢ 1
    both n a b = omega arith

    differ : (a b : ℕ) → a < b → b ≢ a
    differ a b l e = omega arith

    -- of two, the lower and the higher: half way between them would be the exact number, and each would be even
    apart : (v w : Float) → Nearest f x v → Nearest f x w → units_of f v < units_of f w → ⊥
    apart v w K L l =
        let h = K.above w L.value l in
        let g = subst (λ (t : ℕ). AtMost f t x) (swap (units_of f v) (units_of f w)) (L.below v K.value l) in
        let p = K.even w L.value (differ (units_of f v) (units_of f w) l) g h in
        let q = L.even v K.value (λ e. differ (units_of f v) (units_of f w) l (sym e)) (subst (λ (t : ℕ). AtMost f t x) (swap (units_of f w) (units_of f v)) g) (subst (λ (t : ℕ). AtLeast f t x) (swap (units_of f w) (units_of f v)) h) in
        both (to_bits f w % 2) q.0 p.1

    go : (o : Ordering) → Cmp o (units_of f y) (units_of f z) → y ≡ z
    go Ordering.lt l = absurd (apart y z M N l)
    go Ordering.eq e = same_place f y z M.value N.value e
    go Ordering.gt l = absurd (apart z y N M l)

-- ---- where the exact number is a value of the format, that value is nearest
pub exact_nearest : (f : Format) (x : Exact) → Proper x → (v : Float) → Value f v → AtMost f (units_of f v + units_of f v) x → AtLeast f (units_of f v + units_of f v) x → Nearest f x v
exact_nearest f x B v G l h = record {
  value = G;
  below = λ w K g. at_most_down f x (units_of f w + units_of f v) (units_of f v + units_of f v) (grow (units_of f w) (units_of f v) (le_of_lt g)) l;
  above = λ w K g. at_least_up f x (units_of f v + units_of f v) (units_of f w + units_of f v) (grow (units_of f v) (units_of f w) (le_of_lt g)) h;
  even = λ w K n a b. absurd (n (same (units_of f w) (units_of f v) (at_most_least f x B (units_of f v + units_of f v) (units_of f w + units_of f v) l b) (at_most_least f x B (units_of f w + units_of f v) (units_of f v + units_of f v) a h)));
}
  where
    grow : (a b : ℕ) → a ≤ b → a + units_of f v ≤ b + units_of f v
    grow a b h = omega arith

    same : (w v : ℕ) → v + v ≤ w + v → w + v ≤ v + v → w ≡ v
    same w v a b = omega arith

-- ---- the helpers: narrowing and the square root
pub convert_nearest : (f : Format) (x : Float) → T (nonneg x) → Nearest f (ratio (num x) (den x)) (convert f x)
unfolding convert
convert_nearest f nan h = absurd h
convert_nearest f (inf s) h = absurd h
convert_nearest f (fin true m e) h = absurd h
convert_nearest f (fin false m e) h = round_nearest f (m * up e) (down e) (down_pos e)

-- below zero it is the same with the sign
pub convert_neg : (f : Format) (x : Float) → convert f (neg x) ≡ neg (convert f x)
unfolding convert neg
convert_neg f nan = refl
convert_neg f (inf s) = refl
convert_neg f (fin false m e) = round_neg f (m * up e) (down e)
convert_neg f (fin true m e) = sym (ap neg (round_neg f (m * up e) (down e)) ∙ neg_neg (round f false (m * up e) (down e)))

pub sqrt_nearest : (f : Format) (x : Float) → T (positive x) → Nearest f (root (num x) (den x)) (sqrt_of f x)
sqrt_nearest f x h = subst (Nearest f (root (num x) (den x))) (sym (sqrt_is f x h)) (root_nearest f (num x) (den x) (den_pos x))
