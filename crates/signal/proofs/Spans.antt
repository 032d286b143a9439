-- A part whose span is not under that of 2 ^ -60 is zero or not under 2 ^ -60 in size. Assumes nothing.
use Rattle.std.specs.Prelude.{◌≡◌, ℕ, ◌+◌, ◌-◌, ◌*◌, ◌%◌, ◌^◌, ◌<◌, ◌≤◌, min, Bool, true, false, cond, ◌&&◌, ◌||◌, T, ◌⊎◌, ℤ, to_bits, Float}
use Rattle.std.proofs.Common.{sym, ap, ◌∙◌, inl, inr, ⊎_elim, le_trans, le_of_eq, eq-zero-or-pos, mod-lt, mod-eq_of_lt, mul_comm, mul_assoc, mul-le-mul, mul-le-mul_right, le_of_mul-le-mul_right, zero-mul, arith, pow_pos, pow_mono}
use Rattle.std.specs.Bool.{beq}
use Rattle.std.proofs.Math.Nat.{add-mod_left}
use Rattle.std.specs.Float.{nan, inf, fin, binary64}
use Rattle.std.specs.Float.Ieee.{binary32, up, down, neg, mul, le, eq, is_nan, fits, of_bits}
use Rattle.std.specs.Float.Ieee.Fits.{and_i, up_pos}
use Rattle.std.specs.Float.Ieee.Bits.{is_true}
use Rattle.laws.specs.FloatOrder.{or_l, or_r, →le}
use Rattle.laws.specs.FloatValues.{no_inf, no_nan_fin}
use Rattle.laws.specs.FloatParts.{digits_of, power_of, finite_field, float_value, digits_ge, digits_none}
use Rattle.signal.specs.Plain.{is_sized, is_plain}
use Rattle.signal.specs.Powers.{no_nan_of, span_of, least_span}
use Rattle.signal.proofs.Quotients.{low60, high60, high100, no_digits, within_fin}

pub both_least : (a b : ℕ) → least_span ≤ min a b → (least_span ≤ a) × (least_span ≤ b)
both_least a b h = (omega arith, omega arith)

-- ---- a size of at least 2 ^ -60, and zero, by the order
sized_fin : (s : Bool) (m : ℕ) (e : ℤ) → down e ≤ m * up e * 1152921504606846976 → T (is_sized (fin s m e))
unfolding of_bits neg
sized_fin true m e h = or_r (le low60 (fin true m e)) (le (fin true m e) (neg low60)) (→le (fin true m e) (neg low60) tt tt (go (m * up e) (down e) h))
  where
    go : (M E : ℕ) → E ≤ M * 1152921504606846976 → 0 * 1152921504606846976 + 1 * E ≤ 0 * E + M * 1152921504606846976
    go M E h = omega arith
sized_fin false m e h = or_l (le low60 (fin false m e)) (le (fin false m e) (neg low60)) (→le low60 (fin false m e) tt tt (go (m * up e) (down e) h))
  where
    go : (M E : ℕ) → E ≤ M * 1152921504606846976 → 1 * E + 0 * 1152921504606846976 ≤ M * 1152921504606846976 + 0 * E
    go M E h = omega arith

zero_fin : (s : Bool) (m : ℕ) (e : ℤ) → m ≡ 0 → T (eq (of_bits binary32 0) (fin s m e))
unfolding of_bits eq
zero_fin s m e z = rw (z, zero-mul (down e), zero-mul (up e)) (go s)
  where
    go : (s : Bool) → T (beq false s || true)
    go true = tt
    go false = tt

-- ---- what a span says of the value
module _ (s : Bool) (m : ℕ) (e : ℤ) (F : T (fits binary32 (fin s m e))) where
  abbrev bits : ℕ
  bits = to_bits binary32 (fin s m e)

  value_is : m * up e * 2 ^ 149 ≡ digits_of binary32 bits * 2 ^ power_of binary32 bits * down e
  value_is = (float_value binary32 (fin s m e) F (finite_field binary32 (fin s m e) F (no_nan_fin s m e) (no_inf binary32 s m e F))).1

  none : bits % 2147483648 ≡ 0 → m ≡ 0
  none h =
      let d : digits_of binary32 bits ≡ 0 = sym (digits_none binary32 bits (omega arith)) ∙ omega arith in
      no_digits m (up e) (up_pos e) (no_digits (m * up e) (2 ^ 149) (pow_pos 149) (value_is ∙ ap (λ (x : ℕ). x * 2 ^ power_of binary32 bits * down e) d ∙ ap (λ (x : ℕ). x * down e) (zero-mul (2 ^ power_of binary32 bits)) ∙ zero-mul (down e)))

  some : 562036736 ≤ bits % 2147483648 → down e ≤ m * up e * 1152921504606846976
  some h =
      let p : 66 ≤ power_of binary32 bits = omega arith in
      let d : 2 ^ 89 ≤ digits_of binary32 bits * 2 ^ power_of binary32 bits = mul-le-mul (digits_ge binary32 bits (omega arith)) (pow_mono {i = 66} {j = power_of binary32 bits} p) in
      le_of_mul-le-mul_right {k = 2 ^ 89}
      (le_trans (le_of_eq (mul_comm (down e) (2 ^ 89))) (le_trans (mul-le-mul_right (down e) d) (le_of_eq (sym value_is ∙ sym (mul_assoc (m * up e) 1152921504606846976 (2 ^ 89))))))
      (pow_pos 89)

  abbrev inside : Bool
  inside = le (fin s m e) high60 && le (neg high60) (fin s m e)

  plain_fin : T inside → (bits % 2147483648 ≡ 0) ⊎ (562036736 ≤ bits % 2147483648) → T (is_plain (fin s m e))
  unfolding of_bits
  plain_fin i (inl h) = or_r (is_sized (fin s m e) && inside) (eq (of_bits binary32 0) (fin s m e)) (zero_fin s m e (none h))
  plain_fin i (inr h) = or_l (is_sized (fin s m e) && inside) (eq (of_bits binary32 0) (fin s m e)) (and_i (is_sized (fin s m e)) inside (sized_fin s m e (some h)) i)

span_held : (b : Bool) (k : ℕ) → least_span ≤ cond b k 0 → T b × (least_span ≤ k)
span_held true k h = (tt, h)
span_held false k h = absurd (omega arith)

span_bits : (k : ℕ) → k < 2147483648 → least_span ≤ (k * 2 + 4294967295) % 4294967296 → (k ≡ 0) ⊎ (562036736 ≤ k)
span_bits k l h =
    ⊎_elim
    (λ e. inl e)
    (λ p.
    let e : k * 2 + 4294967295 ≡ 4294967296 + (k * 2 - 1) = omega arith in
    let r : (k * 2 + 4294967295) % 4294967296 ≡ k * 2 - 1 = ap (λ (n : ℕ). n % 4294967296) e ∙ add-mod_left 4294967296 (k * 2 - 1) ∙ mod-eq_of_lt (omega arith) in
    inr (omega (arith, r, h)))
    (eq-zero-or-pos k)

-- so a part is plain whose span is not too small, and whose square is not too large
pub plain_where : (x : Float) → least_span ≤ span_of (no_nan_of x) → T (le (mul binary64 (no_nan_of x) (no_nan_of x)) high100) → is_plain x ≡ true
unfolding is_nan
plain_where nan h k = absurd (unfold mul le in k)
plain_where (inf true) h k = absurd (unfold mul le in k)
plain_where (inf false) h k = absurd (unfold mul le in k)
plain_where (fin s m e) h k =
    let b = to_bits binary32 (fin s m e) % 2147483648 in
    let g = span_held (fits binary32 (fin s m e)) ((b * 2 + 4294967295) % 4294967296) h in
    is_true (is_plain (fin s m e)) (plain_fin s m e g.0 (within_fin s m e k) (span_bits b (mod-lt (to_bits binary32 (fin s m e)) (omega arith)) g.1))
