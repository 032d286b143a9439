-- The sum of powers is the definition's but for a NaN, and no square in it is above it. Assumes nothing.
use Rattle.std.specs.Prelude.{◌≡◌, ℕ, zero, suc, ◌+◌, ◌*◌, ◌%◌, ◌<◌, ◌≤◌, true, false, ◌&&◌, T, List, nat_le, slice_index_or, refl, Float}
use Rattle.std.proofs.Common.{sym, ap, ap₂, ◌∙◌, le_trans, le_of_eq, mul_assoc, mul_comm, mul-pos, mul-le-mul_right, arith, leb→le}
use Rattle.std.proofs.Math.Path.{subst}
use Rattle.std.proofs.Math.Logic.{⊎_elim}
use Rattle.std.specs.Float.{nan, inf, fin}
use Rattle.std.specs.Float.Ieee.{binary64, up, down, sum, add, mul, le, is_nan, fits, of_bits}
use Rattle.std.specs.Float.Ieee.Fits.{and_l, and_r, down_pos, add-fits, mul-fits}
use Rattle.std.specs.Float.Ieee.Bits.{of_bits-fits, cond_no}
use Rattle.std.specs.Float.Ieee.Scale.{finite}
use denote.Floats.{passes}
use Rattle.laws.specs.Turns.{turns}
use Rattle.laws.specs.Places.{le_or}
use Rattle.laws.specs.FloatOrder.{le_trans'}
use Rattle.laws.specs.FloatRounding.{signed, round_signed}
use Rattle.laws.specs.FloatValues.{round_least}
use Rattle.signal.specs.Signal.{power64}
use Rattle.signal.specs.declared.plain.Power.{Power}
use Rattle.signal.specs.Plain.{is_plain, round_of}
use Rattle.signal.specs.Powers.{no_nan_of, span_of, no_power, power_step, least_span, plain_of}
use Rattle.signal.proofs.Loops.{next_point, sum_turn}
use Rattle.signal.proofs.Quotients.{high100, square_is, signed_number}
use Rattle.signal.proofs.Spans.{both_least, plain_where}

-- ---- sums of what has no sign
signed_add : (a b : Float) → T (signed false a) → T (signed false b) → T (signed false (add binary64 a b))
signed_add nan b p q = absurd p
signed_add (inf true) b p q = absurd p
signed_add (inf false) nan p q = absurd q
signed_add (inf false) (inf true) p q = absurd q
signed_add (inf false) (inf false) p q = unfold add in tt
signed_add (inf false) (fin t n d) p q = unfold add in tt
signed_add (fin true m e) b p q = absurd p
signed_add (fin false m e) nan p q = absurd q
signed_add (fin false m e) (inf true) p q = absurd q
signed_add (fin false m e) (inf false) p q = unfold add in tt
signed_add (fin false m e) (fin true n d) p q = absurd q
signed_add (fin false m e) (fin false n d) p q = unfold add sum in round_signed false binary64 (m * up e * down d + n * up d * down e) (down e * down d)

-- ---- neither of two is above their sum
pub record Parts (a b c : Float) : Type 0 where
  pub left_finite : T (finite a)
  pub right_finite : T (finite b)
  pub left : T (le a c)
  pub right : T (le b c)

left_part : (M D N E : ℕ) → M * (E * D) ≤ (M * D + N * E) * E
left_part M D N E = le_trans (le_of_eq (ap (λ (x : ℕ). M * x) (mul_comm E D) ∙ sym (mul_assoc M D E))) (mul-le-mul_right E (more (M * D) (N * E)))
  where
    more : (a b : ℕ) → a ≤ a + b
    more a b = omega arith

right_part : (M D N E : ℕ) → N * (E * D) ≤ (M * D + N * E) * D
right_part M D N E = le_trans (le_of_eq (sym (mul_assoc N E D))) (mul-le-mul_right D (more (M * D) (N * E)))
  where
    more : (a b : ℕ) → b ≤ a + b
    more a b = omega arith

parts : (a b : Float) → T (signed false a) → T (signed false b) → T (fits binary64 a) → T (fits binary64 b) → T (finite (add binary64 a b)) → Parts a b (add binary64 a b)
parts nan b p q F G h = absurd p
parts (inf true) b p q F G h = absurd p
parts (inf false) nan p q F G h = absurd q
parts (inf false) (inf true) p q F G h = absurd q
parts (inf false) (inf false) p q F G h = absurd (unfold add in h)
parts (inf false) (fin t n d) p q F G h = absurd (unfold add in h)
parts (fin true m e) b p q F G h = absurd p
parts (fin false m e) nan p q F G h = absurd q
parts (fin false m e) (inf true) p q F G h = absurd q
parts (fin false m e) (inf false) p q F G h = absurd (unfold add in h)
parts (fin false m e) (fin true n d) p q F G h = absurd q
parts (fin false m e) (fin false n d) p q F G h = record {
  left_finite = tt;
  right_finite = tt;
  left = unfold add sum in round_least binary64 (m * up e * down d + n * up d * down e) (down e * down d) (fin false m e) (mul-pos (down_pos e) (down_pos d)) tt F (left_part (m * up e) (down d) (n * up d) (down e));
  right = unfold add sum in round_least binary64 (m * up e * down d + n * up d * down e) (down e * down d) (fin false n d) (mul-pos (down_pos e) (down_pos d)) tt G (right_part (m * up e) (down d) (n * up d) (down e));
}

bounded_finite : (z : Float) → T (signed false z) → T (le z high100) → T (finite z)
bounded_finite nan p h = absurd p
bounded_finite (inf true) p h = absurd p
bounded_finite (inf false) p h = absurd (unfold le in h)
bounded_finite (fin s m e) p h = tt

pub both_bounded : (a b : Float) → T (signed false a) → T (signed false b) → T (fits binary64 a) → T (fits binary64 b) → T (le (add binary64 a b) high100) → T (le a high100) × T (le b high100)
both_bounded a b p q F G h =
    let c = add binary64 a b in
    let f = bounded_finite c (signed_add a b p q) h in
    let P = parts a b p q F G f in
    (le_trans' a c high100 P.left_finite f tt P.left h, le_trans' b c high100 P.right_finite f tt P.right h)

-- ---- a NaN taken for infinity: the answer is infinity where it would be a NaN, and else it is the same
pub record NoNan (h a : Float) : Type 0 where
  pub same : h ≡ no_nan_of a
  pub signless : T (signed false h)

number_same : (a : Float) → T (signed false a) → a ≡ no_nan_of a
number_same a p = sym (cond_no (is_nan a) (inf false) a (signed_number false a p))

no_nan_square : (x : Float) → NoNan (mul binary64 (no_nan_of x) (no_nan_of x)) (mul binary64 x x)
unfolding is_nan mul
no_nan_square nan = record { same = refl; signless = tt }
no_nan_square (inf true) = record { same = refl; signless = tt }
no_nan_square (inf false) = record { same = refl; signless = tt }
no_nan_square (fin s m e) =
    let p = subst (λ (v : Float). T (signed false v)) (sym (square_is s m e)) (round_signed false binary64 (m * up e * (m * up e)) (down e * down e)) in
    record { same = number_same (mul binary64 (fin s m e) (fin s m e)) p; signless = p }

infinite_add : (b : Float) → T (signed false b) → add binary64 (inf false) b ≡ inf false
unfolding add
infinite_add nan q = absurd q
infinite_add (inf true) q = absurd q
infinite_add (inf false) q = refl
infinite_add (fin s m e) q = refl

add_infinite : (a : Float) → T (signed false a) → add binary64 a (inf false) ≡ inf false
unfolding add
add_infinite nan p = absurd p
add_infinite (inf true) p = absurd p
add_infinite (inf false) p = refl
add_infinite (fin s m e) p = refl

add_same : (a b : Float) → T (signed false (no_nan_of a)) → T (signed false (no_nan_of b)) → add binary64 (no_nan_of a) (no_nan_of b) ≡ no_nan_of (add binary64 a b)
unfolding is_nan add
add_same nan b p q = infinite_add (no_nan_of b) q
add_same (inf s) nan p q = add_infinite (inf s) p
add_same (fin s m e) nan p q = add_infinite (fin s m e) p
add_same (inf s) (inf t) p q = number_same (add binary64 (inf s) (inf t)) (signed_add (inf s) (inf t) p q)
add_same (inf s) (fin t n d) p q = number_same (add binary64 (inf s) (fin t n d)) (signed_add (inf s) (fin t n d) p q)
add_same (fin s m e) (inf t) p q = number_same (add binary64 (fin s m e) (inf t)) (signed_add (fin s m e) (inf t) p q)
add_same (fin s m e) (fin t n d) p q = number_same (add binary64 (fin s m e) (fin t n d)) (signed_add (fin s m e) (fin t n d) p q)

no_nan_add : (g h a b : Float) → NoNan g a → NoNan h b → NoNan (add binary64 g h) (add binary64 a b)
no_nan_add g h a b G H = record {
  same = ap₂ (add binary64) G.same H.same ∙ add_same a b (subst (λ (v : Float). T (signed false v)) G.same G.signless) (subst (λ (v : Float). T (signed false v)) H.same H.signless);
  signless = signed_add g h G.signless H.signless;
}

-- ---- the test of the powers
pub record Told (w : Power) : Type 0 where
  pub across : least_span ≤ w.across
  pub up : least_span ≤ w.up
  pub sum : T (le w.sum high100)

pub told : (w : Power) → plain_of w ≡ true → Told w
unfolding of_bits
told w h =
    let t = passes _ h in
    let spans = and_l (nat_le least_span w.across && nat_le least_span w.up) (le w.sum high100) t in
    record {
      across = leb→le least_span w.across (and_l (nat_le least_span w.across) (nat_le least_span w.up) spans);
      up = leb→le least_span w.up (and_r (nat_le least_span w.across) (nat_le least_span w.up) spans);
      sum = and_r (nat_le least_span w.across && nat_le least_span w.up) (le w.sum high100) t;
    }

-- ---- the sum of powers
module _ (re im : List Float) (start : ℕ) where
  abbrev pub powers_to : ℕ → Power
  powers_to n = turns (round_of (power_step re im) start) n no_power

  abbrev x_at : ℕ → Float
  x_at k = slice_index_or re ((start + k) % 1024) nan

  abbrev y_at : ℕ → Float
  y_at k = slice_index_or im ((start + k) % 1024) nan

  abbrev square_of : Float → Float
  square_of x = mul binary64 (no_nan_of x) (no_nan_of x)

  abbrev power_at : ℕ → Float
  power_at k = add binary64 (square_of (x_at k)) (square_of (y_at k))

  no_nan_power : (k : ℕ) → NoNan (power_at k) (power64 (next_point re im start k))
  no_nan_power k = no_nan_add (square_of (x_at k)) (square_of (y_at k)) (mul binary64 (x_at k) (x_at k)) (mul binary64 (y_at k) (y_at k)) (no_nan_square (x_at k)) (no_nan_square (y_at k))

  pub no_nan_sum : (n : ℕ) → NoNan (powers_to n).sum (turns (sum_turn re im start power64) n (of_bits binary64 0))
  unfolding turns
  no_nan_sum zero = record { same = unfold of_bits is_nan in refl; signless = unfold of_bits in tt }
  no_nan_sum (suc n) = no_nan_add (powers_to n).sum (power_at n) (turns (sum_turn re im start power64) n (of_bits binary64 0)) (power64 (next_point re im start n)) (no_nan_sum n) (no_nan_power n)

  total_fits : (n : ℕ) → T (fits binary64 (powers_to n).sum)
  unfolding turns
  total_fits zero = of_bits-fits binary64 0
  total_fits (suc n) = add-fits binary64 (powers_to n).sum (power_at n)

  abbrev Plain : ℕ → Type 0
  Plain k = (is_plain (x_at k) ≡ true) × (is_plain (y_at k) ≡ true)

  -- the parts are plain where no span is too small and the sum is not too large
  pub all_plain : (n : ℕ) → Told (powers_to n) → (k : ℕ) → k < n → Plain k
  unfolding turns
  all_plain zero t k l = absurd (omega arith)
  all_plain (suc n) t k l =
      let w = both_bounded (powers_to n).sum (power_at n) (no_nan_sum n).signless (no_nan_power n).signless (total_fits n) (add-fits binary64 _ _) t.sum in
      let v = both_bounded (square_of (x_at n)) (square_of (y_at n)) (no_nan_square (x_at n)).signless (no_nan_square (y_at n)).signless (mul-fits binary64 _ _) (mul-fits binary64 _ _) w.1 in
      let a = both_least (powers_to n).across (span_of (no_nan_of (x_at n))) t.across in
      let u = both_least (powers_to n).up (span_of (no_nan_of (y_at n))) t.up in
      ⊎_elim
      (λ g. all_plain n (record { across = a.0; up = u.0; sum = w.0 }) k g)
      (λ g. subst Plain (sym g) (plain_where (x_at n) a.1 v.0, plain_where (y_at n) u.1 v.1))
      (le_or k n (omega arith))
