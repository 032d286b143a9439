-- A quotient by a divisor above zero grows with the dividend, whatever its sign. Assumes nothing.
use Rattle.std.specs.Prelude.{◌≡◌, ℕ, zero, suc, ◌+◌, ◌-◌, ◌*◌, ◌≤◌, ◌<◌, Bool, true, false, cond, T, eqb, Float}
use Rattle.std.proofs.Common.{sym, ap, ◌∙◌, inl, inr, zero-le, le_trans, le_of_eq, mul_comm, mul_assoc, mul_left_comm, add-mul, mul-le-mul_right, mul-pos, zero-mul, ltb→lt}
use Rattle.std.proofs.Math.Nat.{sub-zero}
use Rattle.std.proofs.Math.Dec.{eqb-suc-zero}
use Rattle.std.specs.Float.{nan, inf, fin, Format}
use Rattle.std.specs.Float.Ieee.{up, down, round, div, le}
use Rattle.std.specs.Float.Ieee.Fits.{and_l, and_r, up_pos}
use Rattle.std.specs.Float.Ieee.Scale.{finite}
use Rattle.std.specs.Float.Ieee.Positive.{num, den, den_pos, positive}
use Rattle.laws.specs.FloatOrder.{plus, minus, le→}
use Rattle.laws.specs.FloatRounding.{Rounds, rounds_mono}
use Rattle.laws.specs.FloatSums.{In, in_finite, ends}

num_pos : (k : Float) → T (positive k) → 0 < num k
num_pos nan p = absurd p
num_pos (inf s) p = absurd p
num_pos (fin true m e) p = absurd p
num_pos (fin false m e) p = mul-pos (ltb→lt 0 m p) (up_pos e)

div_rounds : (f : Format) (x k : Float) → T (finite x) → T (positive k) → Rounds f (div f x k) (plus x * den k) (minus x * den k) (num k * den x)
unfolding div
div_rounds f nan k p q = absurd p
div_rounds f (inf s) k p q = absurd p
div_rounds f (fin s m e) nan p q = absurd q
div_rounds f (fin s m e) (inf t) p q = absurd q
div_rounds f (fin s m e) (fin true n d) p q = absurd q
div_rounds f (fin s m e) (fin false zero d) p q = absurd q
div_rounds f (fin true m e) (fin false (suc n) d) p q =
    let R = round f true (m * up e * down d) (suc n * up d * down e) in
    inr (record {
      no_more = le_trans (le_of_eq (zero-mul (down d))) zero-le;
      is = ap (λ (b : Bool). cond b (cond (eqb m 0) nan (inf true)) R) (eqb-suc-zero n) ∙ ap (λ (z : ℕ). round f true z (suc n * up d * down e)) (go (m * up e) (down d));
    })
  where
    go : (a D : ℕ) → a * D ≡ a * D - 0 * D
    go a D = sym (ap (λ (z : ℕ). a * D - z) (zero-mul D) ∙ sub-zero (a * D))
div_rounds f (fin false m e) (fin false (suc n) d) p q =
    let R = round f false (m * up e * down d) (suc n * up d * down e) in
    inl (record {
      no_less = le_trans (le_of_eq (zero-mul (down d))) zero-le;
      is = ap (λ (b : Bool). cond b (cond (eqb m 0) nan (inf false)) R) (eqb-suc-zero n) ∙ ap (λ (z : ℕ). round f false z (suc n * up d * down e)) (go (m * up e) (down d));
    })
  where
    go : (a D : ℕ) → a * D ≡ a * D - 0 * D
    go a D = sym (ap (λ (z : ℕ). a * D - z) (zero-mul D) ∙ sub-zero (a * D))

scales : (a c p n d p' n' d' : ℕ) → p * d' + n' * d ≤ p' * d + n * d' → p * a * (c * d') + n' * a * (c * d) ≤ p' * a * (c * d) + n * a * (c * d')
scales a c p n d p' n' d' h =
    le_trans (le_of_eq (regroup a c p d' n' d)) (le_trans (mul-le-mul_right (a * c) h) (le_of_eq (sym (regroup a c p' d n d'))))
  where
    regroup : (a c p d n g : ℕ) → p * a * (c * d) + n * a * (c * g) ≡ (p * d + n * g) * (a * c)
    regroup a c p d n g = simp (add-mul, mul_assoc, mul_comm, mul_left_comm)

pub div_mono : (f : Format) (x x' k : Float) → T (finite x) → T (finite x') → T (positive k) → T (le x x') → T (le (div f x k) (div f x' k))
div_mono f x x' k X X' K h =
    rounds_mono f (div f x k) (div f x' k) (plus x * den k) (minus x * den k) (num k * den x) (plus x' * den k) (minus x' * den k) (num k * den x')
    (mul-pos (num_pos k K) (den_pos x)) (mul-pos (num_pos k K) (den_pos x')) (div_rounds f x k X K) (div_rounds f x' k X' K)
    (scales (den k) (num k) (plus x) (minus x) (den x) (plus x') (minus x') (den x') (le→ x x' X X' h))

pub div_in : (f : Format) (a b k : Float) {x : Float} → T (positive k) → T (ends a b) → In a b x → In (div f a k) (div f b k) (div f x k)
div_in f a b k {x} K p i =
    let A = and_l (finite a) (finite b) p in
    let B = and_r (finite a) (finite b) p in
    let X = in_finite a b x A B i in
    record { lower = div_mono f a x k A X K i.lower; upper = div_mono f x b k X B K i.upper }
