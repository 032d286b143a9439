-- A plain part over a plain amplitude is a usual number, and a usual number is narrowed by rounding its bits in place. Assumes nothing.
use Rattle.std.specs.Prelude.{◌≡◌, ℕ, ◌+◌, ◌-◌, ◌*◌, ◌/◌, ◌%◌, ◌^◌, ◌<◌, ◌≤◌, Bool, true, false, cond, not, ◌&&◌, ◌||◌, T, leb, ◌⊎◌, ℤ, pos, negsuc, ◌==◌, nat_le, Float}
use Rattle.std.proofs.Math.Path.{refl, ap}
use Rattle.std.proofs.Common.{sym, ◌∙◌, subst, true≢false, le_trans, le_of_eq, lt_of_lt_of_le, lt_of_le_of_lt, lt_of_not-le, not-le_of_lt, eq-zero-or-pos, mul-pos, mul_comm, mul_assoc, mul_right_comm, mul-le-mul, mul-le-mul_right, mul-lt-mul_of_pos_right, le_of_mul-le-mul_right, zero-mul, eqb→eq, leb→le, pow-add, pow_pos, pow_mono, shl_lt, le-leb}
use Rattle.std.proofs.Math.Logic.{inl, inr, ⊎_elim}
use Rattle.std.specs.Bool.{beq}
use Rattle.std.proofs.Math.Nat.{lt_irrefl}
use native.Mathlib.Omega.{arith}
use Rattle.std.proofs.Math.Dec.{nleb→lt, not_T}
use Rattle.std.proofs.Math.Pow.{pow-lt}
use Rattle.std.proofs.lemmas.Bool.{lt-leb}
use Rattle.std.specs.Float.{nan, inf, fin}
use Rattle.std.specs.Float.Ieee.{binary32, binary64, up, down, unlike, round, neg, mul, div, le, eq, is_nan, fits, of_bits, to_bits, nan_bits}
use Rattle.std.specs.Float.Ieee.Fits.{and_i, and_l, and_r, up_pos, down_pos, round-fits, inf-fits, nan-fits, fits_widens}
use Rattle.std.specs.Float.Ieee.Bits.{of_bits-to_bits, of_bits-fits, to_bits-lt, nan_bits_is, cond_no}
use Rattle.std.specs.Float.Ieee.Exact.{HasValue}
use Rattle.std.specs.Float.Ieee.Positive.{first_pos}
use Rattle.laws.specs.FloatOrder.{or_split, le→, →le, le_trans', between_finite, le→cross}
use Rattle.laws.specs.Ring.{lt_or_ge}
use Rattle.laws.specs.FloatRounding.{round_neg, signed, round_signed, round_zero}
use Rattle.laws.specs.FloatValues.{no_inf, no_nan_fin, round_least, round_most}
use Rattle.laws.specs.FloatParts.{field, digits_of, power_of, finite_field, float_value, bits_value, digits_lt, digits_ge, digits_some}
use Rattle.laws.specs.FloatPack.{value_unique}
use Rattle.numbers.specs.Numbers.{abs_of, convert}
use Rattle.numbers.specs.Laws.{abs_pattern, convert_value}
use Rattle.numbers.proofs.Narrowing.{Everyday, kept, kept_lt, everyday_is}
use Rattle.signal.specs.Plain.{is_plain, PlainAmplitude, Usual}
use Rattle.signal.specs.InPlace.{in_place}

-- ---- sizes from 2 ^ -60 to 2 ^ 60

pub record OrdinarySize (m : ℕ) (e : ℤ) : Type 0 where
  pub lower : down e ≤ m * up e * 1152921504606846976
  pub upper : m * up e ≤ 1152921504606846976 * down e

abbrev pub PlainSize : Float → Type 0
PlainSize nan = ⊥
PlainSize (inf s) = ⊥
PlainSize (fin s m e) = (m ≡ 0) ⊎ OrdinarySize m e

-- m * 2 ^ e, with its sign, at least 2 ^ -60, or at most its negative
least_over : (s : Bool) (M E : ℕ) → 0 < E → 1 * E + cond s M 0 * 1152921504606846976 ≤ cond s 0 M * 1152921504606846976 + 0 * E → E ≤ M * 1152921504606846976
least_over true M E p h = omega arith
least_over false M E p h = omega arith

least_under : (s : Bool) (M E : ℕ) → 0 < E → cond s 0 M * 1152921504606846976 + 1 * E ≤ 0 * E + cond s M 0 * 1152921504606846976 → E ≤ M * 1152921504606846976
least_under true M E p h = omega arith
least_under false M E p h = omega arith

most_both : (s : Bool) (M E : ℕ) → cond s 0 M * 1 + 0 * E ≤ 1152921504606846976 * E + cond s M 0 * 1 → 0 * E + cond s M 0 * 1 ≤ cond s 0 M * 1 + 1152921504606846976 * E → M ≤ 1152921504606846976 * E
most_both true M E h k = omega arith
most_both false M E h k = omega arith

pub no_digits : (m u : ℕ) → 0 < u → m * u ≡ 0 → m ≡ 0
no_digits m u U h = ⊎_elim (λ e. e) (λ p. absurd (lt_irrefl 0 (subst (λ (x : ℕ). 0 < x) h (mul-pos p U)))) (eq-zero-or-pos m)

abbrev pub low60 : Float
low60 = fin false 1 (negsuc 59)

abbrev pub high60 : Float
high60 = fin false 1 (pos 60)

module _ (s : Bool) (m : ℕ) (e : ℤ) where
  abbrev it : Float
  it = fin s m e

  lower_of : T (le low60 it) ⊎ T (le it (neg low60)) → down e ≤ m * up e * 1152921504606846976
  unfolding neg
  lower_of (inl t) = least_over s (m * up e) (down e) (down_pos e) (le→ low60 it tt tt t)
  lower_of (inr t) = least_under s (m * up e) (down e) (down_pos e) (le→ it (neg low60) tt tt t)

  upper_of : T (le it high60) → T (le (neg high60) it) → m * up e ≤ 1152921504606846976 * down e
  unfolding neg
  upper_of t u = most_both s (m * up e) (down e) (le→ it high60 tt tt t) (le→ (neg high60) it tt tt u)

  zero_of : T (eq (fin false 0 (pos 0)) it) → m ≡ 0
  unfolding eq
  zero_of t = no_digits m (up e) (up_pos e) (go (m * up e) (down e) (eqb→eq (0 * 1 * down e) (m * up e * 1) (and_l (0 * 1 * down e == m * up e * 1) (beq false s || 0 * 1 * down e == 0) t)))
    where
      go : (M E : ℕ) → 0 * 1 * E ≡ M * 1 → M ≡ 0
      go M E h = omega arith

  abbrev near : Bool
  near = le low60 it || le it (neg low60)

  abbrev inside : Bool
  inside = le it high60 && le (neg high60) it

  ordinary_of : T (near && inside) → OrdinarySize m e
  ordinary_of t =
      let u = and_r near inside t in
      record {
        lower = lower_of (or_split (le low60 it) (le it (neg low60)) (and_l near inside t));
        upper = upper_of (and_l (le it high60) (le (neg high60) it) u) (and_r (le it high60) (le (neg high60) it) u);
      }

  plain_fin : T (is_plain it) → PlainSize it
  unfolding of_bits
  plain_fin h = ⊎_elim (λ t. inr (ordinary_of t)) (λ t. inl (zero_of t)) (or_split (near && inside) (eq (fin false 0 (pos 0)) it) h)

pub plain_size : (x : Float) → T (is_plain x) → PlainSize x
unfolding of_bits neg le eq
plain_size nan h = h
plain_size (inf true) h = h
plain_size (inf false) h = h
plain_size (fin s m e) h = plain_fin s m e h

pub plain_number : (x : Float) → T (is_plain x) → T (not (is_nan x))
plain_number x h = go x (plain_size x h)
  where
    go : (x : Float) → PlainSize x → T (not (is_nan x))
    go nan h = absurd h
    go (inf s) h = absurd h
    go (fin s m e) h = no_nan_fin s m e

-- ---- a square of at most 2 ^ 100 is that of a size of at most 2 ^ 60
abbrev pub high100 : Float
high100 = fin false 1 (pos 100)

fits120 : T (fits binary64 (fin false 1 (pos 120)))
fits120 = unfold fits in tt

wide_square : (M E : ℕ) → 1152921504606846976 * E ≤ M → 2 ^ 120 * (E * E) ≤ M * M * 1
wide_square M E h = le_trans (le_of_eq (swap M E)) (le_trans (mul-le-mul h h) (le_of_eq (one (M * M))))
  where
    swap : (M E : ℕ) → 2 ^ 120 * (E * E) ≡ 1152921504606846976 * E * (1152921504606846976 * E)
    swap M E =
        mul_assoc 1152921504606846976 1152921504606846976 (E * E)
        ∙ ap (λ (x : ℕ). 1152921504606846976 * x) (sym (mul_assoc 1152921504606846976 E E) ∙ mul_comm (1152921504606846976 * E) E)
        ∙ sym (mul_assoc 1152921504606846976 E (1152921504606846976 * E))

    one : (n : ℕ) → n ≡ n * 1
    one n = omega arith

alike : (s : Bool) → unlike s s ≡ false
alike true = refl
alike false = refl

below_most : (s : Bool) (M E : ℕ) → M ≤ 1152921504606846976 * E → cond s 0 M * 1 + 0 * E ≤ 1152921504606846976 * E + cond s M 0 * 1
below_most true M E h = omega arith
below_most false M E h = omega arith

above_most : (s : Bool) (M E : ℕ) → M ≤ 1152921504606846976 * E → 0 * E + cond s M 0 * 1 ≤ cond s 0 M * 1 + 1152921504606846976 * E
above_most true M E h = omega arith
above_most false M E h = omega arith

module _ (s : Bool) (m : ℕ) (e : ℤ) where
  pub square_is : mul binary64 (fin s m e) (fin s m e) ≡ round binary64 false (m * up e * (m * up e)) (down e * down e)
  unfolding mul
  square_is = ap (λ (t : Bool). round binary64 t (m * up e * (m * up e)) (down e * down e)) (alike s)

  not_wide : 1152921504606846976 * down e < m * up e → T (le (mul binary64 (fin s m e) (fin s m e)) high100) → ⊥
  not_wide g h =
      let r = round binary64 false (m * up e * (m * up e)) (down e * down e) in
      let v = fin false 1 (pos 120) in
      let lo = round_least binary64 (m * up e * (m * up e)) (down e * down e) v (mul-pos (down_pos e) (down_pos e)) tt fits120 (wide_square (m * up e) (down e) (omega arith)) in
      let hi = subst (λ (x : Float). T (le x high100)) square_is h in
      false_order (le_trans' v r high100 tt (between_finite v r high100 tt tt lo hi) tt lo hi)
    where
      false_order : T (le (fin false 1 (pos 120)) (fin false 1 (pos 100))) → ⊥
      false_order t = unfold le in t

  pub within_fin : T (le (mul binary64 (fin s m e) (fin s m e)) high100) → T (le (fin s m e) high60 && le (neg high60) (fin s m e))
  unfolding neg
  within_fin h =
      let M = ⊎_elim (λ g. absurd (not_wide g h)) (λ g. g) (lt_or_ge (1152921504606846976 * down e) (m * up e)) in
      and_i (le (fin s m e) high60) (le (neg high60) (fin s m e))
      (→le (fin s m e) high60 tt tt (below_most s (m * up e) (down e) M))
      (→le (neg high60) (fin s m e) tt tt (above_most s (m * up e) (down e) M))

-- ---- an amplitude is above zero too
pub record Amplitude (s : Bool) (m : ℕ) (e : ℤ) : Type 0 where
  pub clear : s ≡ false
  pub ordinary : OrdinarySize m e

abbrev pub AmplitudeSize : Float → Type 0
AmplitudeSize nan = ⊥
AmplitudeSize (inf s) = ⊥
AmplitudeSize (fin s m e) = Amplitude s m e

amplitude_fin : (s : Bool) (m : ℕ) (e : ℤ) → T (le low60 (fin s m e)) → T (le (fin s m e) high60) → Amplitude s m e
amplitude_fin true m e h k = absurd (go (m * up e) (down e) (down_pos e) (le→ low60 (fin true m e) tt tt h))
  where
    go : (M E : ℕ) → 0 < E → 1 * E + M * 1152921504606846976 ≤ 0 * 1152921504606846976 + 0 * E → ⊥
    go M E p q = omega arith
amplitude_fin false m e h k = record {
  clear = refl;
  ordinary = record { lower = lower_of false m e (inl h); upper = go (m * up e) (down e) (le→ (fin false m e) high60 tt tt k) };
}
  where
    go : (M E : ℕ) → M * 1 + 0 * E ≤ 1152921504606846976 * E + 0 * 1 → M ≤ 1152921504606846976 * E
    go M E p = omega arith

pub amplitude_size : (a : Float) → PlainAmplitude a → AmplitudeSize a
unfolding of_bits
amplitude_size nan h = unfold le in h.lower
amplitude_size (inf true) h = unfold le in h.lower
amplitude_size (inf false) h = unfold le in h.upper
amplitude_size (fin s m e) h = amplitude_fin s m e h.lower h.upper

-- ---- a size from 2 ^ -120 to 2 ^ 120 has an everyday pattern
abbrev low120 : Float
low120 = fin false 1 (negsuc 119)

abbrev high120 : Float
high120 = fin false 1 (pos 120)

-- from a fraction M / E to the same one over P
over_least : (M E W P Q : ℕ) → 0 < E → M * P ≡ W * E → 1 * E ≤ M * Q → P ≤ W * Q
over_least M E W P Q p e h =
    le_of_mul-le-mul_right {k = E}
    (le_trans (le_trans (le_of_eq (mul_comm P E ∙ ap (λ (x : ℕ). x * P) (sym (one E)))) (mul-le-mul_right P h))
    (le_of_eq (mul_right_comm M Q P ∙ ap (λ (x : ℕ). x * Q) e ∙ mul_right_comm W E Q))) p
  where
    one : (E : ℕ) → 1 * E ≡ E
    one E = omega arith

over_most : (M E W P Q : ℕ) → 0 < E → M * P ≡ W * E → M * 1 ≤ Q * E → W ≤ Q * P
over_most M E W P Q p e h =
    le_of_mul-le-mul_right {k = E}
    (le_trans (le_of_eq (sym e)) (le_trans (mul-le-mul_right P (le_trans (le_of_eq (one M)) h)) (le_of_eq (mul_right_comm Q E P)))) p
  where
    one : (M : ℕ) → M ≡ M * 1
    one M = omega arith

power_least : (d p : ℕ) → d < 2 ^ 53 → 2 ^ 1074 ≤ d * 2 ^ p * 2 ^ 120 → 902 ≤ p
power_least d p D h = lt_of_not-le (λ (g : p ≤ 901).
    not-le_of_lt
    (lt_of_lt_of_le (mul-lt-mul_of_pos_right (lt_of_lt_of_le (shl_lt 53 p D) (pow_mono {i = 53 + p} {j = 954} (omega arith))) (pow_pos 120)) (le_of_eq (sym (pow-add 2 954 120))))
    h)

power_most : (d p : ℕ) → (0 < p → 2 ^ 52 ≤ d) → d * 2 ^ p ≤ 2 ^ 120 * 2 ^ 1074 → p < 1143
power_most d p D h = lt_of_not-le (λ (g : 1143 ≤ p).
    not-le_of_lt
    (lt_of_le_of_lt h (lt_of_lt_of_le (lt_of_le_of_lt (le_of_eq (sym (pow-add 2 120 1074))) (pow-lt {i = 1194} {j = 1195} (omega arith)))
    (le_trans (pow_mono {i = 1195} {j = 52 + p} (omega arith)) (le_trans (le_of_eq (pow-add 2 52 p)) (mul-le-mul_right (2 ^ p) (D (omega arith)))))))
    (le_of_eq refl))

pattern_range : (b : ℕ) → b < 9223372036854775808 → 902 ≤ power_of binary64 b → power_of binary64 b < 1143 → (0x3810000000000000 ≤ b) × (b < 0x47effffff0000000)
pattern_range b l h k = (omega arith, omega arith)

bits_fin : (m : ℕ) (e : ℤ) → T (fits binary64 (fin false m e)) → T (le low120 (fin false m e)) → T (le (fin false m e) high120) → (0x3810000000000000 ≤ to_bits binary64 (fin false m e)) × (to_bits binary64 (fin false m e) < 0x47effffff0000000)
bits_fin m e F h k =
    let x = fin false m e in
    let b = to_bits binary64 x in
    let d = digits_of binary64 b in
    let p = power_of binary64 b in
    let l = finite_field binary64 x F (no_nan_fin false m e) (no_inf binary64 false m e F) in
    let v = float_value binary64 x F l in
    let u : b < 9223372036854775808 = nleb→lt 9223372036854775808 b (subst (λ (t : Bool). T (not t)) v.0 tt) in
    let lo = over_least (m * up e) (down e) (d * 2 ^ p) (2 ^ 1074) (2 ^ 120) (down_pos e) v.1 (le→cross low120 x tt tt h) in
    let hi = over_most (m * up e) (down e) (d * 2 ^ p) (2 ^ 1074) (2 ^ 120) (down_pos e) v.1 (le→cross x high120 tt tt k) in
    pattern_range b u (power_least d p (digits_lt binary64 b) lo) (power_most d p (digits_ge binary64 b) hi)

bits_range : (r : Float) → T (fits binary64 r) → T (signed false r) → T (le low120 r) → T (le r high120) → (0x3810000000000000 ≤ to_bits binary64 r) × (to_bits binary64 r < 0x47effffff0000000)
bits_range nan F p h k = absurd p
bits_range (inf s) F p h k = absurd (between_finite low120 (inf s) high120 tt tt h k)
bits_range (fin true m e) F p h k = absurd p
bits_range (fin false m e) F p h k = bits_fin m e F h k

-- ---- what is rounded has the size of what is rounded without a sign, and is a number
abs_neg : (r : Float) → T (signed false r) → abs_of (neg r) ≡ r
unfolding abs_of neg
abs_neg nan p = refl
abs_neg (inf true) p = absurd p
abs_neg (inf false) p = refl
abs_neg (fin true m e) p = absurd p
abs_neg (fin false m e) p = refl

abs_self : (r : Float) → T (signed false r) → abs_of r ≡ r
unfolding abs_of
abs_self nan p = refl
abs_self (inf true) p = absurd p
abs_self (inf false) p = refl
abs_self (fin true m e) p = absurd p
abs_self (fin false m e) p = refl

abs_round : (s : Bool) (a c : ℕ) → abs_of (round binary64 s a c) ≡ round binary64 false a c
abs_round true a c = ap abs_of (round_neg binary64 a c) ∙ abs_neg (round binary64 false a c) (round_signed false binary64 a c)
abs_round false a c = abs_self (round binary64 false a c) (round_signed false binary64 a c)

pub signed_number : (s : Bool) (x : Float) → T (signed s x) → T (not (is_nan x))
unfolding is_nan
signed_number s nan p = absurd p
signed_number s (inf t) p = tt
signed_number s (fin t m e) p = tt

-- ---- a fraction from 2 ^ -120 to 2 ^ 120, or 0, rounds to a usual number
usual_zero : (s : Bool) → Usual (fin s 0 (pos 0))
unfolding fits is_nan to_bits
usual_zero true = record { held = tt; number = tt; range = inl refl }
usual_zero false = record { held = tt; number = tt; range = inl refl }

module _ (s : Bool) (a c : ℕ) (C : 0 < c) where
  usual_some : c ≤ a * 2 ^ 120 → a ≤ 2 ^ 120 * c → Usual (round binary64 s a c)
  usual_some h k =
      let x = round binary64 s a c in
      let r = round binary64 false a c in
      let n = signed_number s x (round_signed s binary64 a c) in
      let F = round-fits binary64 s a c in
      let e : to_bits binary64 x % 9223372036854775808 ≡ to_bits binary64 r = abs_pattern binary64 x F n ∙ ap (to_bits binary64) (abs_round s a c) in
      let w = bits_range r (round-fits binary64 false a c) (round_signed false binary64 a c) (round_least binary64 a c low120 C tt lit (one c h)) (round_most binary64 a c high120 C tt lit2 (one' a k)) in
      record {
        held = F;
        number = n;
        range = inr (subst (λ (b : ℕ). 0x3810000000000000 ≤ b) (sym e) w.0, subst (λ (b : ℕ). b < 0x47effffff0000000) (sym e) w.1);
      }
    where
      lit : T (fits binary64 low120)
      lit = unfold fits in tt

      lit2 : T (fits binary64 high120)
      lit2 = unfold fits in tt

      one : (c : ℕ) → c ≤ a * 2 ^ 120 → 1 * c ≤ a * 2 ^ 120
      one c h = omega arith

      one' : (a : ℕ) → a ≤ 2 ^ 120 * c → a * 1 ≤ 2 ^ 120 * c
      one' a h = omega arith

  usual_none : a ≡ 0 → Usual (round binary64 s a c)
  usual_none e = subst Usual (sym (ap (λ (n : ℕ). round binary64 s n c) e ∙ round_zero binary64 s c C)) (usual_zero s)

-- ---- a quotient
swap : (C D M : ℕ) → C * D * (M * C) ≡ M * D * (C * C)
swap C D M =
    mul_comm (C * D) (M * C)
    ∙ mul_assoc M C (C * D)
    ∙ ap (λ (x : ℕ). M * x) (sym (mul_assoc C C D) ∙ mul_comm (C * C) D)
    ∙ sym (mul_assoc M D (C * C))

swap' : (C E N : ℕ) → C * E * (N * C) ≡ C * C * (N * E)
swap' C E N = swap C E N ∙ mul_comm (N * E) (C * C)

module _ (s : Bool) (m : ℕ) (e : ℤ) (n : ℕ) (d : ℤ) (S : OrdinarySize n d) where
  above : 0 < n
  above = first_pos n (up d) (go (n * up d) (down d) (down_pos d) S.lower)
    where
      go : (N D : ℕ) → 0 < D → D ≤ N * 1152921504606846976 → 0 < N
      go N D p h = omega arith

  quotient_is : div binary64 (fin s m e) (fin false n d) ≡ round binary64 (unlike s false) (m * up e * down d) (n * up d * down e)
  unfolding div
  quotient_is = cond_no (n == 0) _ _ (not_T (n == 0) (λ t. lt_irrefl 0 (subst (λ (x : ℕ). 0 < x) (eqb→eq n 0 t) above)))

  over_pos : 0 < n * up d * down e
  over_pos = mul-pos (mul-pos above (up_pos d)) (down_pos e)

  usual_fin : (m ≡ 0) ⊎ OrdinarySize m e → Usual (div binary64 (fin s m e) (fin false n d))
  usual_fin (inl z) = subst Usual (sym quotient_is) (usual_none (unlike s false) (m * up e * down d) (n * up d * down e) over_pos (ap (λ (k : ℕ). k * up e * down d) z ∙ ap (λ (k : ℕ). k * down d) (zero-mul (up e)) ∙ zero-mul (down d)))
  usual_fin (inr z) =
      subst Usual (sym quotient_is)
      (usual_some (unlike s false) (m * up e * down d) (n * up d * down e) over_pos
      (le_trans (mul-le-mul S.upper z.lower) (le_of_eq (swap 1152921504606846976 (down d) (m * up e))))
      (le_trans (mul-le-mul z.upper S.lower) (le_of_eq (swap' 1152921504606846976 (down e) (n * up d)))))

-- a part widens as it is
pub number_exact : (x : Float) → T (fits binary32 x) → T (not (is_nan x)) → T (fits binary64 x && not (is_nan x))
number_exact x F n = and_i (fits binary64 x) (not (is_nan x)) (fits_widens x F) n

pub plain_exact : (x : Float) → T (fits binary32 x) → T (is_plain x) → T (fits binary64 x && not (is_nan x))
plain_exact x F h = number_exact x F (plain_number x h)

pub usual_quotient : (x a : Float) → T (is_plain x) → PlainAmplitude a → Usual (div binary64 x a)
usual_quotient x a h k = go x a (plain_size x h) (amplitude_size a k)
  where
    go : (x a : Float) → PlainSize x → AmplitudeSize a → Usual (div binary64 x a)
    go nan a h k = absurd h
    go (inf s) a h k = absurd h
    go (fin s m e) nan h k = absurd k
    go (fin s m e) (inf t) h k = absurd k
    go (fin s m e) (fin true n d) h k = absurd (true≢false k.clear)
    go (fin s m e) (fin false n d) h k = usual_fin s m e n d k.ordinary h

-- ---- narrowing in place: the last 29 digits rounded off

-- the pattern of a normal f32, and the f64 pattern of the same number
scaled_value : (x : Float) (s : Bool) (a c k : ℕ) → HasValue x s a c → HasValue x s (a * k) (c * k)
scaled_value nan s a c k h = h
scaled_value (inf t) s a c k h = h
scaled_value (fin t m e) s a c k h = (h.0, sym (mul_assoc (m * up e) c k) ∙ ap (λ (x : ℕ). x * k) h.1 ∙ mul_right_comm a (down e) k)

module _ (p z : ℕ) (t : Bool) (small : leb 2147483648 p ≡ t) (large : leb 9223372036854775808 z ≡ t)
    (least : 1 ≤ field binary32 p) (most : field binary32 p < 255) (far : field binary64 z ≡ field binary32 p + 896) (digits : z % 4503599627370496 ≡ p % 8388608 * 536870912) where
  some32 : field binary32 p ≡ 0 → ⊥
  some32 e = let l = least in omega arith

  some64 : field binary64 z ≡ 0 → ⊥
  some64 e = let l = far in omega arith

  digits_same : digits_of binary64 z ≡ digits_of binary32 p * 2 ^ 29
  digits_same = sym (digits_some binary64 z some64) ∙ ap (λ (x : ℕ). x + 4503599627370496) digits ∙ go (p % 8388608) ∙ ap (λ (x : ℕ). x * 2 ^ 29) (digits_some binary32 p some32)
    where
      go : (d : ℕ) → d * 536870912 + 4503599627370496 ≡ (d + 8388608) * 536870912
      go d = omega arith

  power_same : 29 + power_of binary64 z ≡ power_of binary32 p + 925
  power_same = let l = least in let h = far in omega arith

  value_same : digits_of binary64 z * 2 ^ power_of binary64 z ≡ digits_of binary32 p * 2 ^ power_of binary32 p * 2 ^ 925
  value_same =
      ap (λ (x : ℕ). x * 2 ^ power_of binary64 z) digits_same
      ∙ mul_assoc (digits_of binary32 p) (2 ^ 29) (2 ^ power_of binary64 z)
      ∙ ap (λ (x : ℕ). digits_of binary32 p * x) (sym (pow-add 2 29 (power_of binary64 z)) ∙ ap (λ (x : ℕ). 2 ^ x) power_same ∙ pow-add 2 (power_of binary32 p) 925)
      ∙ sym (mul_assoc (digits_of binary32 p) (2 ^ power_of binary32 p) (2 ^ 925))

  widened : of_bits binary64 z ≡ of_bits binary32 p
  widened =
      let D = digits_of binary32 p * 2 ^ power_of binary32 p in
      let v32 = scaled_value (of_bits binary32 p) (nat_le 2147483648 p) D (2 ^ 149) (2 ^ 925) (bits_value binary32 p most) in
      let v64 = bits_value binary64 z (subst (λ (x : ℕ). x < 2047) (sym far) (omega (arith, most))) in
      value_unique binary64 (of_bits binary64 z) (of_bits binary32 p) t (D * 2 ^ 925) (of_bits-fits binary64 z) (fits_widens (of_bits binary32 p) (of_bits-fits binary32 p))
      (subst (λ (x : ℕ). HasValue (of_bits binary64 z) t x (2 ^ 1074)) value_same (subst (λ (b : Bool). HasValue (of_bits binary64 z) b (digits_of binary64 z * 2 ^ power_of binary64 z) (2 ^ 1074)) large v64))
      (subst (λ (b : Bool). HasValue (of_bits binary32 p) b (D * 2 ^ 925) (2 ^ 1074)) small v32)

-- what the two patterns of one number have to do with each other
record Pair (t : Bool) (p z : ℕ) : Type 0 where
  small : leb 2147483648 p ≡ t
  large : leb 9223372036854775808 z ≡ t
  least : 1 ≤ field binary32 p
  most : field binary32 p < 255
  far : field binary64 z ≡ field binary32 p + 896
  digits : z % 4503599627370496 ≡ p % 8388608 * 536870912

pair_of : (t : Bool) (k : ℕ) → 8388608 ≤ k → k < 2139095040 → Pair t (cond t 2147483648 0 + k) (cond t 9223372036854775808 0 + (k + 7516192768) * 536870912)
pair_of true k l h = record {
  small = le-leb 2147483648 (2147483648 + k) (omega arith);
  large = le-leb 9223372036854775808 (9223372036854775808 + (k + 7516192768) * 536870912) (omega arith);
  least = omega arith;
  most = omega arith;
  far = omega arith;
  digits = omega arith;
}
pair_of false k l h = record {
  small = lt-leb 2147483648 (0 + k) (omega arith);
  large = lt-leb 9223372036854775808 (0 + (k + 7516192768) * 536870912) (omega arith);
  least = omega arith;
  most = omega arith;
  far = omega arith;
  digits = omega arith;
}

-- an even number of 2 ^ 29 more
moved_on : (a n : ℕ) → in_place (a * 1073741824 + n) ≡ (a * 2 + (n + 268435455 + n / 536870912 % 2) / 536870912) * 536870912
moved_on a n =
    let q : (a * 1073741824 + n) / 536870912 ≡ a * 2 + n / 536870912 = omega arith in
    let r : (a * 1073741824 + n) / 536870912 % 2 ≡ n / 536870912 % 2 = rw q (even a (n / 536870912)) in
    ap (λ (x : ℕ). (a * 1073741824 + n + 268435455 + x) / 536870912 * 536870912) r
    ∙ ap (λ (x : ℕ). x * 536870912) (over a n (n / 536870912 % 2))
  where
    even : (a q : ℕ) → (a * 2 + q) % 2 ≡ q % 2
    even a q = omega arith

    over : (a n c : ℕ) → (a * 1073741824 + n + 268435455 + c) / 536870912 ≡ a * 2 + (n + 268435455 + c) / 536870912
    over a n c = omega arith

-- b less its sign's bit and the bias, in both signs
split_off : (b : ℕ) → 0x3810000000000000 ≤ b % 9223372036854775808 → b < 9223372036854775808 → b ≡ 3758096384 * 1073741824 + (b % 9223372036854775808 - 4035225266123964416)
split_off b l h = omega arith

split_off_sign : (b : ℕ) → 0x3810000000000000 ≤ b % 9223372036854775808 → 9223372036854775808 ≤ b → b < 18446744073709551616 → b ≡ 12348030976 * 1073741824 + (b % 9223372036854775808 - 4035225266123964416)
split_off_sign b l h k = omega arith

module _ (b : ℕ) (E : Everyday b) (B : b < 18446744073709551616) where
  kept_ge : 8388608 ≤ kept b E
  kept_ge = let l = E.least in omega arith

  in_place_is : in_place b ≡ cond (nat_le 9223372036854775808 b) 9223372036854775808 0 + (kept b E + 7516192768) * 536870912
  in_place_is = go (nat_le 9223372036854775808 b) (leb→le 9223372036854775808 b) (nleb→lt 9223372036854775808 b)
    where
      go : (t : Bool) → (T t → 9223372036854775808 ≤ b) → (T (not t) → b < 9223372036854775808) → in_place b ≡ cond t 9223372036854775808 0 + (kept b E + 7516192768) * 536870912
      go true y n = ap in_place (split_off_sign b E.least (y tt) B) ∙ moved_on 12348030976 _ ∙ sign (kept b E)
        where
          sign : (k : ℕ) → (12348030976 * 2 + k) * 536870912 ≡ 9223372036854775808 + (k + 7516192768) * 536870912
          sign k = omega arith
      go false y n = ap in_place (split_off b E.least (n tt)) ∙ moved_on 3758096384 _ ∙ none (kept b E)
        where
          none : (k : ℕ) → (3758096384 * 2 + k) * 536870912 ≡ 0 + (k + 7516192768) * 536870912
          none k = omega arith

  everyday_in_place : of_bits binary64 (in_place b) ≡ round binary32 (nat_le 9223372036854775808 b) (digits_of binary64 b * 2 ^ power_of binary64 b) (2 ^ 1074)
  everyday_in_place =
      let t = leb 9223372036854775808 b in
      let k = kept b E in
      let P = pair_of t k kept_ge (kept_lt b E) in
      ap (of_bits binary64) in_place_is
      ∙ widened (cond t 2147483648 0 + k) (cond t 9223372036854775808 0 + (k + 7516192768) * 536870912) t P.small P.large P.least P.most P.far P.digits
      ∙ everyday_is b E t

-- a zero stays as it is
zero_in_place : (b : ℕ) → b < 18446744073709551616 → b % 9223372036854775808 ≡ 0 → of_bits binary64 (in_place b) ≡ convert binary32 (of_bits binary64 b)
zero_in_place b B h = ⊎_elim (λ e. subst (λ (x : ℕ). of_bits binary64 (in_place x) ≡ convert binary32 (of_bits binary64 x)) (sym e) plus_zero) (λ e. subst (λ (x : ℕ). of_bits binary64 (in_place x) ≡ convert binary32 (of_bits binary64 x)) (sym e) minus_zero) two
  where
    plus_zero : of_bits binary64 (in_place 0) ≡ convert binary32 (of_bits binary64 0)
    plus_zero = unfold of_bits convert in refl

    minus_zero : of_bits binary64 (in_place 9223372036854775808) ≡ convert binary32 (of_bits binary64 9223372036854775808)
    minus_zero = unfold of_bits convert in refl

    two : (b ≡ 0) ⊎ (b ≡ 9223372036854775808)
    two = ⊎_elim (λ e. inl e) (λ p. inr (omega arith)) (eq-zero-or-pos b)

module _ (x : Float) (U : Usual x) where
  abbrev bits : ℕ
  bits = to_bits binary64 x

  bits_lt : bits < 18446744073709551616
  bits_lt = to_bits-lt binary64 x U.held

  pub in_place_lem : of_bits binary64 (in_place bits) ≡ convert binary32 x
  in_place_lem = ⊎_elim zero some U.range
    where
      zero : bits % 9223372036854775808 ≡ 0 → of_bits binary64 (in_place bits) ≡ convert binary32 x
      zero h = zero_in_place bits bits_lt h ∙ ap (convert binary32) (of_bits-to_bits binary64 x U.held)

      some : (0x3810000000000000 ≤ bits % 9223372036854775808) × (bits % 9223372036854775808 < 0x47effffff0000000) → of_bits binary64 (in_place bits) ≡ convert binary32 x
      some h =
          let E : Everyday bits = record { least = h.0; most = h.1 } in
          let l : field binary64 bits < 2047 = let m = h.1 in omega arith in
          everyday_in_place bits E bits_lt
          ∙ sym (convert_value binary32 x (nat_le 9223372036854775808 bits) (digits_of binary64 bits * 2 ^ power_of binary64 bits) (2 ^ 1074) (pow_pos 1074) (float_value binary64 x U.held l))

  in_place_fits : T (fits binary32 (of_bits binary64 (in_place bits)))
  in_place_fits = subst (λ (v : Float). T (fits binary32 v)) (sym in_place_lem) (go x)
    where
      go : (x : Float) → T (fits binary32 (convert binary32 x))
      go nan = unfold convert in nan-fits binary32
      go (inf s) = unfold convert in inf-fits binary32 s
      go (fin s m e) = unfold convert in round-fits binary32 s (m * up e) (down e)

  in_place_float : T (not (is_nan (of_bits binary64 (in_place bits))))
  in_place_float = subst (λ (v : Float). T (not (is_nan v))) (sym in_place_lem) (go x U.number)
    where
      go : (x : Float) → T (not (is_nan x)) → T (not (is_nan (convert binary32 x)))
      go nan n = absurd (unfold is_nan in n)
      go (inf s) n = unfold convert is_nan in tt
      go (fin s m e) n = signed_number s (convert binary32 (fin s m e)) (unfold convert in round_signed s binary32 (m * up e) (down e))

  pub in_place_number : T (not (nan_bits binary64 (in_place bits)))
  in_place_number = subst (λ (b : Bool). T (not b)) (sym (nan_bits_is binary64 (in_place bits))) in_place_float

  pub in_place_exact : T (fits binary32 (of_bits binary64 (in_place bits)) && not (is_nan (of_bits binary64 (in_place bits))))
  in_place_exact = and_i (fits binary32 (of_bits binary64 (in_place bits))) (not (is_nan (of_bits binary64 (in_place bits)))) in_place_fits in_place_float

  -- room for the sum
  pub in_place_room : bits + 268435456 < 18446744073709551616
  in_place_room = ⊎_elim zero some U.range
    where
      zero : bits % 9223372036854775808 ≡ 0 → bits + 268435456 < 18446744073709551616
      zero h = let l = bits_lt in omega arith

      some : (0x3810000000000000 ≤ bits % 9223372036854775808) × (bits % 9223372036854775808 < 0x47effffff0000000) → bits + 268435456 < 18446744073709551616
      some h = let l = bits_lt in let m = h.1 in omega arith
