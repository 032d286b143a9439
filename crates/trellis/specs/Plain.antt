-- The costs that a step makes before the best state's is taken off: none is a NaN, whatever the costs before, and none is -0 where those are values of an f32.
-- So `<` and the Rust's total order find the same best state, from every state that can be handed in. Assumes nothing.
use Rattle.std.specs.Prelude.{◌≡◌, refl, ℕ, zero, suc, ◌+◌, ◌-◌, ◌*◌, ◌/◌, ◌%◌, ◌^◌, ◌≤◌, ◌<◌, Bool, true, false, cond, List, get_or, ℤ, negsuc, T, ltb, Float}
use Rattle.std.proofs.Common.{sym, ap, ap₂, ◌∙◌, subst, mul_comm, mul_assoc, mul-pos, mul_left_comm, lt_of_mul-lt-mul_right, mul-le-mul_right, suc-mul, one-mul, zero-mul, le_trans, le_of_eq, arith, true≢false, ltb→lt, pow_pos}
use Rattle.std.proofs.Math.Nat.{mul-lt-mul_of_pos_left, mul-sub}
use Rattle.std.specs.Float.{nan, inf, fin, binary32}
use Rattle.std.specs.Float.Ieee.{of_bits, up, down, round, sum, neg, add, div, le, lt, fits, is_nan, to_bits}
use Rattle.std.specs.Float.Ieee.Fits.{down_pos}
use Rattle.laws.specs.FloatOrder.{le→cross}
use Rattle.laws.specs.FloatRounding.{signed, round_signed, round_neg}
use Rattle.laws.specs.FloatParts.{float_value, finite_field, digits_of, power_of}
use Rattle.laws.specs.FloatValues.{no_inf, no_nan_fin, round_least}
use Rattle.laws.specs.Places.{upto_at}
use Rattle.complex.specs.declared.Complex32.{Complex32}
use Rattle.complex.specs.Planes.{Planes}
use Rattle.arrivals.specs.declared.choice.Branch.{Branch}
use Rattle.arrivals.specs.Arrivals.{better, no_branch, branch_of, chosen_of, arrival_of}
use Rattle.trellis.specs.Trellis.{arrived_of}
use Rattle.trellis.specs.Layout.{minus_zero, Plain, Values}
use Rattle.trellis.specs.Metric.{free, metric_free, metric_fits}

-- ---- no arrival is a NaN
below_number : (a b : Float) → lt a b ≡ true → is_nan a ≡ false
unfolding lt is_nan
below_number nan b e = absurd (true≢false (sym e))
below_number (inf s) b e = refl
below_number (fin s m d) b e = refl

better_number : (x y : Branch) → is_nan x.cost ≡ false → is_nan (better x y).cost ≡ false
unfolding better
better_number x y h = go (lt y.cost x.cost) refl
  where
    go : (t : Bool) → lt y.cost x.cost ≡ t → is_nan (cond t y x).cost ≡ false
    go true e = below_number y.cost x.cost e
    go false e = h

none_number : is_nan no_branch.cost ≡ false
unfolding of_bits div is_nan
none_number = refl

pub arrival_number : (c : Planes) (costs : List Float) (input : Complex32) (reliable : Bool) (s : ℕ) → is_nan (arrival_of c costs input reliable s).cost ≡ false
unfolding chosen_of
arrival_number c costs input reliable s = better_number _ _ (better_number _ _ (better_number _ _ (better_number _ _ none_number)))

-- ---- a sum of two values of a format, one without a sign, is not -0: where it is negative it is at least the format's smallest value in size
plain_sign : (x : Float) → T (signed false x) → minus_zero x ≡ false
unfolding minus_zero
plain_sign nan h = absurd h
plain_sign (inf s) h = refl
plain_sign (fin true m e) h = absurd h
plain_sign (fin false zero e) h = refl
plain_sign (fin false (suc m) e) h = refl

round_plain : (a c : ℕ) → minus_zero (round binary32 false a c) ≡ false
round_plain a c = plain_sign (round binary32 false a c) (round_signed false binary32 a c)

abbrev least : Float
least = fin false 1 (negsuc 148)

far_zero : (x : Float) → T (le least x) → minus_zero (neg x) ≡ false
unfolding minus_zero neg le lt
far_zero nan h = refl
far_zero (inf s) h = refl
far_zero (fin true zero e) h = refl
far_zero (fin false zero e) h = absurd (none e h)
  where
    none : (e : ℤ) → T (le least (fin false zero e)) → ⊥
    none e h =
        let c : 1 * down e ≤ 0 * up e * 2 ^ 149 = le→cross least (fin false zero e) tt tt h in
        let d : 1 * down e ≤ 0 = rw (zero-mul, zero-mul) at c in
        omega (arith, down_pos e)
far_zero (fin s (suc m) e) h = refl

-- two multiples of 1 / k, the one more than the other, lie at least 1 / k apart
apart : (x y p q k a b : ℕ) → 0 < k → x * k ≡ a * p → y * k ≡ b * q → y * p < x * q → p * q ≤ (x * q - y * p) * k
apart x y p q k a b K e f h =
    let u : k * (x * q) ≡ a * (p * q) = simp (mul_assoc, mul_comm, mul_left_comm) (simp (mul_assoc, mul_comm, mul_left_comm) at (ap (λ (z : ℕ). z * q) e)) in
    let v : k * (y * p) ≡ b * (p * q) = simp (mul_assoc, mul_comm, mul_left_comm) (simp (mul_assoc, mul_comm, mul_left_comm) at (ap (λ (z : ℕ). z * p) f)) in
    let l : b * (p * q) < a * (p * q) = subst (λ (z : ℕ). z < a * (p * q)) v (subst (λ (z : ℕ). k * (y * p) < z) u (mul-lt-mul_of_pos_left h K)) in
    let m : suc b * (p * q) ≤ a * (p * q) = mul-le-mul_right (p * q) (lt_of_mul-lt-mul_right (p * q) l) in
    let n = suc-mul b (p * q) in
    let w : (x * q - y * p) * k ≡ a * (p * q) - b * (p * q) = mul_comm (x * q - y * p) k ∙ mul-sub k (x * q) (y * p) ∙ ap₂ ◌-◌ u v in
    omega arith

-- in units of the smallest value, a finite value of the format is a whole number
units_of : (s : Bool) (m : ℕ) (e : ℤ) → T (fits binary32 (fin s m e)) → m * up e * 2 ^ 149 ≡ digits_of binary32 (to_bits binary32 (fin s m e)) * 2 ^ power_of binary32 (to_bits binary32 (fin s m e)) * down e
units_of s m e F = (float_value binary32 (fin s m e) F (finite_field binary32 (fin s m e) F (no_nan_fin s m e) (no_inf binary32 s m e F))).1

negative_plain : (m : ℕ) (e : ℤ) (n : ℕ) (d : ℤ) → T (fits binary32 (fin true m e)) → T (fits binary32 (fin false n d)) → n * up d * down e < m * up e * down d
    → minus_zero (round binary32 true (m * up e * down d - n * up d * down e) (down e * down d)) ≡ false
negative_plain m e n d F G h =
    let k = m * up e * down d - n * up d * down e in
    let c = down e * down d in
    let g : c ≤ k * 2 ^ 149 = apart (m * up e) (n * up d) (down e) (down d) (2 ^ 149) _ _ (pow_pos 149) (units_of true m e F) (units_of false n d G) h in
    ap minus_zero (round_neg binary32 k c) ∙ far_zero (round binary32 false k c) (round_least binary32 k c least (mul-pos (down_pos e) (down_pos d)) tt (unfold fits in tt) (le_trans (le_of_eq (one-mul c)) g))

by_size : (a b c : ℕ) (p q : Bool) → (T q → minus_zero (round binary32 true (a - b) c) ≡ false) → minus_zero (cond p (round binary32 false (b - a) c) (round binary32 q (a - b) c)) ≡ false
by_size a b c true q k = round_plain (b - a) c
by_size a b c false true k = k tt
by_size a b c false false k = round_plain (a - b) c

pub sum_plain : (x y : Float) → T (fits binary32 x) → T (fits binary32 y) → T (free y) → minus_zero (add binary32 x y) ≡ false
unfolding add sum minus_zero
sum_plain nan y F G h = refl
sum_plain (inf s) nan F G h = refl
sum_plain (inf true) (inf true) F G h = refl
sum_plain (inf true) (inf false) F G h = refl
sum_plain (inf false) (inf true) F G h = refl
sum_plain (inf false) (inf false) F G h = refl
sum_plain (inf s) (fin t n d) F G h = refl
sum_plain (fin s m e) nan F G h = refl
sum_plain (fin s m e) (inf t) F G h = refl
sum_plain (fin s m e) (fin true n d) F G h = absurd h
sum_plain (fin false m e) (fin false n d) F G h = round_plain (m * up e * down d + n * up d * down e) (down e * down d)
sum_plain (fin true m e) (fin false n d) F G h = by_size (m * up e * down d) (n * up d * down e) (down e * down d) (ltb (m * up e * down d) (n * up d * down e)) (ltb (n * up d * down e) (m * up e * down d)) (λ u. negative_plain m e n d F G (ltb→lt (n * up d * down e) (m * up e * down d) u))

-- ---- no arrival is -0
better_plain : (x y : Branch) → minus_zero x.cost ≡ false → minus_zero y.cost ≡ false → minus_zero (better x y).cost ≡ false
unfolding better
better_plain x y p q = go (lt y.cost x.cost)
  where
    go : (t : Bool) → minus_zero (cond t y x).cost ≡ false
    go true = q
    go false = p

none_plain : minus_zero no_branch.cost ≡ false
unfolding of_bits div minus_zero
none_plain = refl

module _ (c : Planes) (costs : List Float) (input : Complex32) (reliable : Bool) (values : Values costs) where
  branch_plain : (k p : ℕ) → minus_zero (branch_of c costs input reliable k p).cost ≡ false
  branch_plain k p = sum_plain (get_or costs p nan) _ (values.value p) (metric_fits input _ reliable) (metric_free input _ reliable)

  arrival_plain : (s : ℕ) → minus_zero (arrival_of c costs input reliable s).cost ≡ false
  unfolding chosen_of
  arrival_plain s = better_plain _ _ (better_plain _ _ (better_plain _ _ (better_plain _ _ none_plain (branch_plain (s % 4) (s / 4))) (branch_plain (s % 4) (s / 4 + 16))) (branch_plain (s % 4) (s / 4 + 32))) (branch_plain (s % 4) (s / 4 + 48))

  pub arrived_plain : Plain (arrived_of c costs input reliable)
  arrived_plain = record {
    number = λ s h. ap is_nan (upto_at (λ s. (arrival_of c costs input reliable s).cost) 64 s nan h) ∙ arrival_number c costs input reliable s;
    unsigned = λ s h. ap minus_zero (upto_at (λ s. (arrival_of c costs input reliable s).cost) 64 s nan h) ∙ arrival_plain s;
  }

-- ---- where no sum is below infinity: cost infinity, parent 0, prediction zero
better_keeps : (x y : Branch) → lt y.cost x.cost ≡ false → better x y ≡ x
unfolding better
better_keeps x y e = rw e

pub none_below : (c : Planes) (costs : List Float) (input : Complex32) (reliable : Bool) (s : ℕ) → s < 64
    → ((p : ℕ) → p % 16 ≡ s / 4 → lt (branch_of c costs input reliable (s % 4) p).cost no_branch.cost ≡ false) → arrival_of c costs input reliable s ≡ no_branch
unfolding chosen_of
none_below c costs input reliable s b h =
    rw (
      better_keeps no_branch (branch_of c costs input reliable (s % 4) (s / 4)) (h (s / 4) (omega arith)),
      better_keeps no_branch (branch_of c costs input reliable (s % 4) (s / 4 + 16)) (h (s / 4 + 16) (omega arith)),
      better_keeps no_branch (branch_of c costs input reliable (s % 4) (s / 4 + 32)) (h (s / 4 + 32) (omega arith)),
      better_keeps no_branch (branch_of c costs input reliable (s % 4) (s / 4 + 48)) (h (s / 4 + 48) (omega arith)),
    )
