-- What a float's bit pattern says of its value, by its fields. Assumes nothing.
use Rattle.std.specs.Prelude.{◌≡◌, refl, ℕ, zero, suc, ◌+◌, ◌-◌, ◌*◌, ◌/◌, ◌%◌, ◌^◌, ◌≤◌, ◌<◌, Bool, true, false, not, cond, T, leb, eqb, Float}
use Rattle.std.proofs.Common.{sym, ap, ◌∙◌, subst, lt_irrefl, add_comm, arith, eqb→eq, nltb→le}
use Rattle.std.proofs.Math.Dec.{eqb-suc-zero, not_T}
use Rattle.std.specs.Float.{nan, inf, Format, binary32, binary64}
use Rattle.std.specs.Float.Ieee.{prec, low, hid, ones, top, odd, is_nan, fits, of_fields, of_bits, to_bits}
use Rattle.std.specs.Float.Ieee.Bits.{of_bits-to_bits, cond_no, nan_bits_is, nan_bits_above}
use Rattle.std.specs.Float.Ieee.Exact.{HasValue, odd_sign}

-- a finite value's size is digitsOf * 2 ^ powerOf of the smallest values
abbrev pub field : Format → ℕ → ℕ
field f b = b % top f / hid f

-- a field of 0 has no leading digit, and counts as a field of 1
abbrev pub digits_of : Format → ℕ → ℕ
digits_of f b = cond (eqb (field f b) 0) (b % hid f) (b % hid f + hid f)

abbrev pub power_of : Format → ℕ → ℕ
power_of f b = field f b - 1

pred : (x : ℕ) → suc x - 1 ≡ x
pred x = omega arith

not_that : (x o : ℕ) → x < o → T (not (eqb x o))
not_that x o h = not_T (eqb x o) (λ t. lt_irrefl o (subst (λ (y : ℕ). y < o) (eqb→eq x o t) h))

fields_value : (f : Format) (s : Bool) (x t : ℕ) → x < ones f → HasValue (of_fields f s x t) s (cond (eqb x 0) t (t + hid f) * 2 ^ (x - 1)) (2 ^ low f)
unfolding of_fields
fields_value f s zero t h = odd_sign (prec f) s t 0 (low f)
fields_value f s (suc x) t h =
    subst (λ (v : Float). HasValue v s (cond (eqb (suc x) 0) t (t + hid f) * 2 ^ (suc x - 1)) (2 ^ low f)) (sym (cond_no (eqb (suc x) (ones f)) (cond (eqb t 0) (inf s) nan) (odd (prec f) s (hid f + t) x (low f)) (not_that (suc x) (ones f) h)))
    (subst (λ (b : Bool). HasValue (odd (prec f) s (hid f + t) x (low f)) s (cond b t (t + hid f) * 2 ^ (suc x - 1)) (2 ^ low f)) (sym (eqb-suc-zero x))
    (subst (λ (y : ℕ). HasValue (odd (prec f) s (hid f + t) x (low f)) s ((t + hid f) * 2 ^ y) (2 ^ low f)) (sym (pred x))
    (subst (λ (y : ℕ). HasValue (odd (prec f) s (hid f + t) x (low f)) s (y * 2 ^ x) (2 ^ low f)) (add_comm (hid f) t) (odd_sign (prec f) s (hid f + t) x (low f)))))

-- below the infinity's pattern
pub bits_value : (f : Format) (b : ℕ) → field f b < ones f → HasValue (of_bits f b) (leb (top f) b) (digits_of f b * 2 ^ power_of f b) (2 ^ low f)
unfolding of_bits
bits_value f b h = fields_value f (leb (top f) b) (field f b) (b % hid f) h

pub float_value : (f : Format) (x : Float) → T (fits f x) → field f (to_bits f x) < ones f → HasValue x (leb (top f) (to_bits f x)) (digits_of f (to_bits f x) * 2 ^ power_of f (to_bits f x)) (2 ^ low f)
float_value f x p h = subst (λ (v : Float). HasValue v (leb (top f) (to_bits f x)) (digits_of f (to_bits f x) * 2 ^ power_of f (to_bits f x)) (2 ^ low f)) (of_bits-to_bits f x p) (bits_value f (to_bits f x) h)

-- at the infinity's pattern
fields_inf : (f : Format) (s : Bool) → of_fields f s (ones f) 0 ≡ inf s
unfolding of_fields
fields_inf binary32 s = refl
fields_inf binary64 s = refl

top_field : (f : Format) (b : ℕ) → b % top f ≡ ones f * hid f → (field f b ≡ ones f) × (b % hid f ≡ 0)
top_field binary32 b h = omega arith
top_field binary64 b h = omega arith

pub bits_inf : (f : Format) (b : ℕ) → b % top f ≡ ones f * hid f → of_bits f b ≡ inf (leb (top f) b)
unfolding of_bits
bits_inf f b h = let k = top_field f b h in ap (λ (x : ℕ). of_fields f (leb (top f) b) x (b % hid f)) k.0 ∙ ap (λ (x : ℕ). of_fields f (leb (top f) b) (ones f) x) k.1 ∙ fields_inf f (leb (top f) b)

-- a pattern of no NaN, and not the infinity's
not_above : (f : Format) (b : ℕ) → T (not (is_nan (of_bits f b))) → b % top f ≤ ones f * hid f
not_above f b n = nltb→le (ones f * hid f) (b % top f) (subst (λ (t : Bool). T (not t)) (sym (nan_bits_is f b) ∙ nan_bits_above f b) n)

small_field : (f : Format) (b : ℕ) → b % top f ≤ ones f * hid f → (b % top f ≡ ones f * hid f → ⊥) → field f b < ones f
small_field binary32 b h n = omega arith
small_field binary64 b h n = omega arith

pub finite_field : (f : Format) (x : Float) → T (fits f x) → T (not (is_nan x)) → (to_bits f x % top f ≡ ones f * hid f → ⊥) → field f (to_bits f x) < ones f
finite_field f x p n e = small_field f (to_bits f x) (not_above f (to_bits f x) (subst (λ (v : Float). T (not (is_nan v))) (sym (of_bits-to_bits f x p)) n)) e

-- the bounds of the digits and the power
pub digits_lt : (f : Format) (b : ℕ) → digits_of f b < 2 ^ prec f
digits_lt f b = go f (eqb (field f b) 0)
  where
    go : (f : Format) (t : Bool) → cond t (b % hid f) (b % hid f + hid f) < 2 ^ prec f
    go binary32 true = omega arith
    go binary32 false = omega arith
    go binary64 true = omega arith
    go binary64 false = omega arith

pub digits_ge : (f : Format) (b : ℕ) → 0 < power_of f b → hid f ≤ digits_of f b
digits_ge f b h = go (eqb (field f b) 0) (eqb→eq (field f b) 0)
  where
    no : (x : ℕ) → 0 < x - 1 → x ≡ 0 → ⊥
    no x h e = omega arith

    more : (t k : ℕ) → k ≤ t + k
    more t k = omega arith

    go : (t : Bool) → (T t → field f b ≡ 0) → hid f ≤ cond t (b % hid f) (b % hid f + hid f)
    go true e = absurd (no (field f b) h (e tt))
    go false e = more (b % hid f) (hid f)

pub digits_none : (f : Format) (b : ℕ) → field f b ≡ 0 → b % hid f ≡ digits_of f b
digits_none f b h = sym (ap (λ (x : ℕ). cond (eqb x 0) (b % hid f) (b % hid f + hid f)) h)

pub digits_some : (f : Format) (b : ℕ) → (field f b ≡ 0 → ⊥) → b % hid f + hid f ≡ digits_of f b
digits_some f b h = sym (cond_no (eqb (field f b) 0) (b % hid f) (b % hid f + hid f) (not_T (eqb (field f b) 0) (λ t. h (eqb→eq (field f b) 0 t))))
