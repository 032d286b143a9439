-- To a whole number. `Rounding g` says that g sees only the value of its fraction, leaves whole numbers, and moves a fraction by less than one. Assumes nothing.
use Rattle.std.proofs.Common.{◌≡◌, ℕ, zero, suc, ◌+◌, ◌-◌, ◌*◌, ◌/◌, ◌%◌, ◌^◌, ◌<◌, ◌≤◌, min, Bool, true, false, cond, not, T, eqb, ltb, leb, ◌⊎◌, sym, refl, ap, ◌∙◌, subst, inl, inr, le_trans, lt_of_lt_of_le, lt_of_le_of_lt, add-zero, le_of_lt, lt_irrefl, mod-eq_of_lt, zero-lt-suc, mul_assoc, mul_comm, add-mul, mul-pos, div-add-mod', zero-add, zero-mul, mul-one, div-le_self, mul_right_comm, div-one, arith, lit≤, le→leb, eqb→eq, leb→le, pow_pos, pow_mono, pow-add, shl_lt}
use Prim.Native.Nat.{compare}
use native.Mathlib.Nat.{mod-one, div-eq_of_lt, eq_of_mul-eq-mul_right}
use mathlib.Core.Bool.{false≢true}
use lib.Dec.{nleb→lt}
use lib.Ieee.{Float, nan, inf, fin, Format, binary32, binary64, prec, emax, low, hid, ones, top, up, down, odd, units, size, nearest, round, neg, ne, is_nan, fits, to_bits}
use lib.Ieee.Fits.{eq→eqb, down_pos, round-fits, nearest-le}
use lib.Ieee.Exact.{HasValue, round_exact}
use lib.Ieee.Back.{whole_unique}
use lib.Ieee.Bits.{of_bits-to_bits, is_true, is_false}
use lib.Ieee.Compare.{differs_from_itself}
use lib.Ieee.Nearest.{closest, closest_same, div_same}
use Rattle.whole.specs.Whole.{whole_of, away, to_even, downward}
use Rattle.laws.specs.FloatParts.{field, digits_of, power_of}
use Rattle.laws.specs.FloatParts.{finite_field, float_value, digits_lt, bits_inf}
use lib.Arith.{lt→nleb}
use Rattle.patterns.specs.Shift.{near_lt}
use Rattle.numbers.specs.Laws.{ne_self}
use Rattle.whole.specs.Fractions.{fraction_of}
use Rattle.whole.specs.declared.Fraction.{Fraction}
use Rattle.std.specs.Prelude.{Option, None, Some}

-- ---- -x of a rounded value
neg_odd : (d : ℕ) (s : Bool) (q k l : ℕ) → neg (odd d s q k l) ≡ odd d (not s) q k l
unfolding neg odd
neg_odd d s zero k l = refl
neg_odd d s (suc q) k l = refl

neg_cond : (b s : Bool) (x y : Float) → neg x ≡ y → neg (cond b x (inf s)) ≡ cond b y (inf (not s))
unfolding neg
neg_cond true s x y h = h
neg_cond false s x y h = refl

neg_units : (f : Format) (s : Bool) (q k : ℕ) → neg (units f s q k) ≡ units f (not s) q k
unfolding units
neg_units f s q k = neg_cond (ltb (q * 2 ^ k) (2 ^ (low f + suc (emax f)))) s (odd (suc (prec f)) s q k (low f)) (odd (suc (prec f)) (not s) q k (low f)) (neg_odd (suc (prec f)) s q k (low f))

pub neg_round : (f : Format) (s : Bool) (a c : ℕ) → neg (round f s a c) ≡ round f (not s) a c
unfolding round
neg_round f s a c =
    let n = a * 2 ^ low f in
    let k = size (n / c) - prec f in
    let u = c * 2 ^ k in
    neg_units f s (nearest (n / u) (compare (n % u * 2) u)) k

-- ---- the ways to make a fraction whole
pub record Rounding (g : Bool → ℕ → ℕ → ℕ) : Type 0 where
  pub alike : (s : Bool) (a b c d : ℕ) → 0 < b → 0 < d → a * d ≡ c * b → g s a b ≡ g s c d
  pub still : (s : Bool) (n : ℕ) → g s n 1 ≡ n

away_alike : (a b c d : ℕ) → 0 < b → 0 < d → a * d ≡ c * b → (a * 2 + b) / (b * 2) ≡ (c * 2 + d) / (d * 2)
away_alike a b c d B D e = div_same (a * 2 + b) (b * 2) (c * 2 + d) (d * 2) (mul-pos B (zero-lt-suc 1)) (mul-pos D (zero-lt-suc 1)) (omega (arith, e))

away_still : (n : ℕ) → (n * 2 + 1) / 2 ≡ n
away_still n = omega arith

pub away_is : Rounding away
away_is = record { alike = λ s a b c d B D e. away_alike a b c d B D e; still = λ s n. away_still n }

even_still : (n : ℕ) → closest n 1 ≡ n
even_still n = ap (λ (x : ℕ). nearest x (compare (n % 1 * 2) 1)) (div-one n) ∙ ap (λ (x : ℕ). nearest n (compare (x * 2) 1)) (mod-one n) ∙ near_lt n 0 1 (zero-lt-suc 0)

pub even_is : Rounding to_even
even_is = record { alike = λ s a b c d B D e. closest_same a b c d B D e; still = λ s n. even_still n }

-- remainders of equal fractions
rest_same : (a b c d w : ℕ) → a / b ≡ w → c / d ≡ w → a * d ≡ c * b → a % b * d ≡ c % d * b
rest_same a b c d w e f h =
    let x : w * b * d + a % b * d ≡ a * d = sym (add-mul (w * b) (a % b) d) ∙ ap (λ (z : ℕ). z * d) (ap (λ (z : ℕ). z * b + a % b) (sym e) ∙ div-add-mod' a b) in
    let y : w * d * b + c % d * b ≡ c * b = sym (add-mul (w * d) (c % d) b) ∙ ap (λ (z : ℕ). z * b) (ap (λ (z : ℕ). z * d + c % d) (sym f) ∙ div-add-mod' c d) in
    let s : w * b * d ≡ w * d * b = mul_right_comm w b d in
    omega arith

min_one : (r d t b : ℕ) → 0 < b → 0 < d → r * d ≡ t * b → min 1 r ≡ min 1 t
min_one zero d zero b B D e = refl
min_one zero d (suc t) b B D e = absurd (lt_irrefl 0 (subst (λ (x : ℕ). 0 < x) (sym e ∙ zero-mul d) (mul-pos (zero-lt-suc t) B)))
min_one (suc r) d zero b B D e = absurd (lt_irrefl 0 (subst (λ (x : ℕ). 0 < x) (e ∙ zero-mul b) (mul-pos (zero-lt-suc r) D)))
min_one (suc r) d (suc t) b B D e = one r ∙ sym (one t)
  where
    one : (r : ℕ) → min 1 (suc r) ≡ 1
    one r = omega arith

down_alike : (s : Bool) (a b c d : ℕ) → 0 < b → 0 < d → a * d ≡ c * b → downward s a b ≡ downward s c d
down_alike false a b c d B D e = div_same a b c d B D e
down_alike true a b c d B D e =
    let q : a / b ≡ c / d = div_same a b c d B D e in
    ap (λ (x : ℕ). x + min 1 (a % b)) q ∙ ap (λ (x : ℕ). c / d + x) (min_one (a % b) d (c % d) b B D (rest_same a b c d (c / d) q refl e))

down_still : (s : Bool) (n : ℕ) → downward s n 1 ≡ n
down_still false n = div-one n
down_still true n = ap (λ (x : ℕ). n / 1 + min 1 x) (mod-one n) ∙ add-zero (n / 1) ∙ div-one n

pub down_is : Rounding downward
down_is = record { alike = down_alike; still = down_still }

pub down_le : (f : Format) (s : Bool) (d u : ℕ) → d < 2 ^ prec f → downward s d u ≤ 2 ^ prec f
down_le f false d u h = le_trans (div-le_self d u) (le_of_lt h)
down_le f true d u h = go (2 ^ prec f) (d / u) (min 1 (d % u)) (div-le_self d u) (one (d % u)) h
  where
    one : (r : ℕ) → min 1 r ≤ 1
    one r = omega arith

    go : (t q m : ℕ) → q ≤ d → m ≤ 1 → d < t → q + m ≤ t
    go t q m a b h = omega arith

-- no format has more digits than binary64
pub narrow_digits : (f : Format) (d : ℕ) → d < 2 ^ prec f → d < 2 ^ 53
narrow_digits binary32 d h = omega (arith, h)
narrow_digits binary64 d h = h

-- and to the nearest
pub even_le : (d u : ℕ) → d < 2 ^ 53 → 2 ≤ u → closest d u ≤ 2 ^ 53
even_le d u h U = le_trans (nearest-le (d / u) (compare (d % u * 2) u)) (lt_of_le_of_lt (div-le_self d u) h)

pub down_far : (s : Bool) (d sh r : ℕ) → d < 2 ^ 53 → 64 ≤ sh → (s ≡ true → r ≡ min 1 d) → (s ≡ false → r ≡ 0) → r ≡ downward s d (2 ^ sh)
down_far false d sh r h l y n = n refl ∙ sym (div-eq_of_lt (lt_of_lt_of_le h (pow_mono {i = 53} (le_trans (lit≤ tt) l))))
down_far true d sh r h l y n =
    let u : d < 2 ^ sh = lt_of_lt_of_le h (pow_mono {i = 53} (le_trans (lit≤ tt) l)) in
    y refl ∙ sym (ap (λ (x : ℕ). x + min 1 (d % 2 ^ sh)) (div-eq_of_lt u) ∙ zero-add (min 1 (d % 2 ^ sh)) ∙ ap (min 1) (mod-eq_of_lt u))

pub down_near : (s : Bool) (d u v : ℕ) → u ≡ v → s ≡ true → d / u + min 1 (d % u) ≡ downward s d v
down_near true d u v e h = ap (λ (x : ℕ). d / x + min 1 (d % x)) e
down_near false d u v e h = absurd (false≢true h)

pub down_near_2 : (s : Bool) (d u v : ℕ) → u ≡ v → s ≡ false → d / u ≡ downward s d v
down_near_2 true d u v e h = absurd (false≢true (sym h))
down_near_2 false d u v e h = ap (λ (x : ℕ). d / x) e

-- ---- `whole_of` by any fraction that the value equals
pub whole_value : (g : Bool → ℕ → ℕ → ℕ) → Rounding g → (f : Format) (x : Float) (s : Bool) (a c : ℕ) → 0 < c → HasValue x s a c → whole_of g f x ≡ round f s (g s a c) 1
unfolding whole_of
whole_value g R f nan s a c C h = absurd h
whole_value g R f (inf t) s a c C h = absurd h
whole_value g R f (fin t m e) s a c C h = ap (λ (b : Bool). round f b (g b (m * up e) (down e)) 1) h.0 ∙ ap (λ (n : ℕ). round f s n 1) (R.alike s (m * up e) (down e) a c (down_pos e) C h.1)

pub whole_nan : (g : Bool → ℕ → ℕ → ℕ) (f : Format) (x : Float) → ne x x ≡ true → x ≡ whole_of g f x
unfolding whole_of
whole_nan g f x h = rw (differs_from_itself x (subst T (sym h) tt))

-- ---- a binary64 with no digit below the point
whole_inf : (g : Bool → ℕ → ℕ → ℕ) (f : Format) (x : Float) (s : Bool) → x ≡ inf s → x ≡ whole_of g f x
unfolding whole_of
whole_inf g f x s e = rw e

less_back : (a b : ℕ) → b ≤ a → a ≡ a - b + b
less_back a b h = omega arith

-- from units of the smallest value to whole numbers
units_whole : (x : Float) (s : Bool) (d p l : ℕ) → l ≤ p → HasValue x s (d * 2 ^ p) (2 ^ l) → HasValue x s (d * 2 ^ (p - l)) 1
units_whole nan s d p l h v = v
units_whole (inf t) s d p l h v = v
units_whole (fin t m e) s d p l h v = (
  v.0,
  mul-one (m * up e) ∙ eq_of_mul-eq-mul_right (2 ^ l) (pow_pos l) (m * up e) (d * 2 ^ (p - l) * down e)
      (v.1 ∙ ap (λ (y : ℕ). y * down e) (ap (λ (y : ℕ). d * 2 ^ y) (less_back p l h) ∙ ap (λ (y : ℕ). d * y) (pow-add 2 (p - l) l) ∙ sym (mul_assoc d (2 ^ (p - l)) (2 ^ l))) ∙ mul_right_comm (d * 2 ^ (p - l)) (2 ^ l) (down e)),
)

top_power : (f : Format) (x : ℕ) → x < ones f → prec f + (x - 1) ≤ low f + suc (emax f)
top_power binary32 x h = omega arith
top_power binary64 x h = omega arith

whole_finite : (g : Bool → ℕ → ℕ → ℕ) → Rounding g → (f : Format) (x : Float) → T (fits f x) → field f (to_bits f x) < ones f → low f ≤ power_of f (to_bits f x) → x ≡ whole_of g f x
whole_finite g R f x F h l =
    let b = to_bits f x in
    let s = leb (top f) b in
    let d = digits_of f b in
    let p = power_of f b in
    let N = d * 2 ^ (p - low f) in
    let v : HasValue x s N 1 = units_whole x s d p (low f) l (float_value f x F h) in
    let w : HasValue (round f s N 1) s N 1 =
    round_exact f s N 1 d p (zero-lt-suc 0) (digits_lt f b)
    (lt_of_lt_of_le (shl_lt (prec f) p (digits_lt f b)) (pow_mono (top_power f (field f b) h)))
    (mul_assoc d (2 ^ (p - low f)) (2 ^ low f) ∙ ap (λ (y : ℕ). d * y) (sym (pow-add 2 (p - low f) (low f)) ∙ ap (λ (y : ℕ). 2 ^ y) (sym (less_back p (low f) l))) ∙ sym (mul-one (d * 2 ^ p))) in
    whole_unique f x (round f s N 1) s N F (round-fits f s N 1) v w
    ∙ sym (whole_value g R f x s N 1 (zero-lt-suc 0) v ∙ ap (λ (y : ℕ). round f s y 1) (R.still s N))

pub whole_big : (g : Bool → ℕ → ℕ → ℕ) → Rounding g → (f : Format) (x : Float) → T (fits f x) → T (not (is_nan x)) → low f ≤ power_of f (to_bits f x) → x ≡ whole_of g f x
whole_big g R f x F n l = elim (same_or_not (to_bits f x % top f) (ones f * hid f)) [
  | inl e ↦ whole_inf g f x (leb (top f) (to_bits f x)) (sym (of_bits-to_bits f x F) ∙ bits_inf f (to_bits f x) e)
  | inr e ↦ whole_finite g R f x F (finite_field f x F n e) l
]
  where
    same_or_not : (a b : ℕ) → (a ≡ b) ⊎ (a ≡ b → ⊥)
    same_or_not a b = go (eqb a b) (eqb→eq a b) (λ (e : a ≡ b). eq→eqb e)
      where
        go : (t : Bool) → (T t → a ≡ b) → (a ≡ b → T t) → (a ≡ b) ⊎ (a ≡ b → ⊥)
        go true h k = inl (h tt)
        go false h k = inr (λ e. k e)

-- ---- the shift
pub whole_small : (g : Bool → ℕ → ℕ → ℕ) → Rounding g → (f : Format) (x : Float) → T (fits f x) → field f (to_bits f x) < ones f → power_of f (to_bits f x) < low f
    → round f (leb (top f) (to_bits f x)) (g (leb (top f) (to_bits f x)) (digits_of f (to_bits f x)) (2 ^ (low f - power_of f (to_bits f x)))) 1 ≡ whole_of g f x
whole_small g R f x F h l =
    let b = to_bits f x in
    let s = leb (top f) b in
    let d = digits_of f b in
    let p = power_of f b in
    sym (whole_value g R f x s (d * 2 ^ p) (2 ^ low f) (pow_pos (low f)) (float_value f x F h)
    ∙ ap (λ (y : ℕ). round f s y 1) (R.alike s (d * 2 ^ p) (2 ^ low f) d (2 ^ (low f - p)) (pow_pos (low f)) (pow_pos (low f - p))
    (mul_assoc d (2 ^ p) (2 ^ (low f - p)) ∙ ap (λ (y : ℕ). d * y) (mul_comm (2 ^ p) (2 ^ (low f - p)) ∙ sym (pow-add 2 (low f - p) p) ∙ ap (λ (y : ℕ). 2 ^ y) (sym (less_back (low f) p (le_of_lt l)))))))

-- a power below the point's is no infinity's
pub small_field : (f : Format) (b : ℕ) → power_of f b < low f → field f b < ones f
small_field binary32 b h = omega arith
small_field binary64 b h = omega arith

-- ---- by the digits below the point
module _ (f : Format) (x : Float) where
  abbrev bits : ℕ
  bits = to_bits f x

  abbrev parts : Option Fraction
  parts = Some (record { negative = leb (top f) bits; digits = digits_of f bits; shift = low f - power_of f bits })

  -- the three ways to come by it
  data Way : Option Fraction → Type 0 where
    none : T (is_nan x) → Way None
    big : T (not (is_nan x)) → low f ≤ power_of f bits → Way None
    small : T (not (is_nan x)) → power_of f bits < low f → Way parts

  way : Way (fraction_of f x)
  unfolding fraction_of
  way = go (is_nan x) (leb (low f) (power_of f bits)) none big small (leb→le (low f) (power_of f bits)) (nleb→lt (low f) (power_of f bits))
    where
      go : (t u : Bool) → (T t → Way None) → (T (not t) → low f ≤ power_of f bits → Way None) → (T (not t) → power_of f bits < low f → Way parts)
          → (T u → low f ≤ power_of f bits) → (T (not u) → power_of f bits < low f)
          → Way (cond t None (cond u None parts))
      go true u a b c h k = a tt
      go false true a b c h k = b tt (h tt)
      go false false a b c h k = c tt (k tt)

  -- what the digits make, and that it is `whole_of`
  abbrev pub made : (Bool → ℕ → ℕ → ℕ) → Option Fraction → Float
  made g None = x
  made g (Some r) = round f r.negative (g r.negative r.digits (2 ^ r.shift)) 1

  pub made_whole : (g : Bool → ℕ → ℕ → ℕ) → Rounding g → T (fits f x) → made g (fraction_of f x) ≡ whole_of g f x
  made_whole g R F = go (fraction_of f x) way
    where
      go : (r : Option Fraction) → Way r → made g r ≡ whole_of g f x
      go r (none n) = whole_nan g f x (ne_self x ∙ is_true (is_nan x) n)
      go r (big n l) = whole_big g R f x F n l
      go r (small n l) = whole_small g R f x F (small_field f bits l) l

  -- the digits fit the format, and some are below the point
  abbrev pub Bounded : Option Fraction → Type 0
  Bounded None = Unit
  Bounded (Some r) = (r.digits < 2 ^ prec f) × (0 < r.shift)

  pub bounded : Bounded (fraction_of f x)
  bounded = go (fraction_of f x) way
    where
      more : (a b : ℕ) → b < a → 0 < a - b
      more a b h = omega arith

      go : (r : Option Fraction) → Way r → Bounded r
      go r (none n) = tt
      go r (big n l) = tt
      go r (small n l) = (digits_lt f bits, more (low f) (power_of f bits) l)

  -- the same, from what a match learns
  pub made_nothing : (g : Bool → ℕ → ℕ → ℕ) → Rounding g → T (fits f x) → fraction_of f x ≡ None → x ≡ whole_of g f x
  made_nothing g R F h = sym (ap (made g) h) ∙ made_whole g R F

  pub made_parts : (g : Bool → ℕ → ℕ → ℕ) → Rounding g → T (fits f x) → (r : Fraction) → fraction_of f x ≡ Some r → round f r.negative (g r.negative r.digits (2 ^ r.shift)) 1 ≡ whole_of g f x
  made_parts g R F r h = sym (ap (made g) h) ∙ made_whole g R F

  pub parts_bounded : (r : Fraction) → fraction_of f x ≡ Some r → (r.digits < 2 ^ prec f) × (0 < r.shift)
  parts_bounded r h = subst Bounded h bounded
