-- A product with a factor that is not negative grows with the other factor, whatever that one's sign. Assumes nothing.
use Rattle.std.specs.Prelude.{◌≡◌, ℕ, ◌+◌, ◌-◌, ◌*◌, ◌≤◌, true, false, T, Float}
use Rattle.std.proofs.Common.{sym, ap, ◌∙◌, inl, inr, zero-le, le_trans, le_of_eq, mul_comm, mul_assoc, mul_left_comm, add-mul, mul-le-mul_right, mul-pos, mul-zero}
use Rattle.std.proofs.Math.Nat.{sub-zero}
use Rattle.std.specs.Float.{nan, inf, fin, Format}
use Rattle.std.specs.Float.Ieee.{up, down, round, mul, le}
use Rattle.std.specs.Float.Ieee.Fits.{and_l, and_r}
use Rattle.std.specs.Float.Ieee.Scale.{finite}
use Rattle.std.specs.Float.Ieee.Positive.{den, den_pos}
use Rattle.laws.specs.FloatOrder.{plus, minus, le→, nonneg}
use Rattle.laws.specs.FloatRounding.{Rounds, rounds_mono}
use Rattle.laws.specs.FloatSums.{In, in_finite, ends}

mul_rounds : (f : Format) (k x : Float) → T (nonneg k) → T (finite x) → Rounds f (mul f k x) (plus k * plus x) (plus k * minus x) (den k * den x)
unfolding mul
mul_rounds f nan x p q = absurd p
mul_rounds f (inf s) x p q = absurd p
mul_rounds f (fin true m e) x p q = absurd p
mul_rounds f (fin false m e) nan p q = absurd q
mul_rounds f (fin false m e) (inf t) p q = absurd q
mul_rounds f (fin false m e) (fin true n d) p q = inr (record { no_more = le_trans (le_of_eq (mul-zero (m * up e))) zero-le; is = ap (λ (z : ℕ). round f true z (down e * down d)) (go (m * up e) (n * up d)) })
  where
    go : (a b : ℕ) → a * b ≡ a * b - a * 0
    go a b = sym (ap (λ (z : ℕ). a * b - z) (mul-zero a) ∙ sub-zero (a * b))
mul_rounds f (fin false m e) (fin false n d) p q = inl (record { no_less = le_trans (le_of_eq (mul-zero (m * up e))) zero-le; is = ap (λ (z : ℕ). round f false z (down e * down d)) (go (m * up e) (n * up d)) })
  where
    go : (a b : ℕ) → a * b ≡ a * b - a * 0
    go a b = sym (ap (λ (z : ℕ). a * b - z) (mul-zero a) ∙ sub-zero (a * b))

-- (a p) / (c d) - (a n) / (c d), and the same with p' n' d'
scales : (a c p n d p' n' d' : ℕ) → p * d' + n' * d ≤ p' * d + n * d' → a * p * (c * d') + a * n' * (c * d) ≤ a * p' * (c * d) + a * n * (c * d')
scales a c p n d p' n' d' h =
    le_trans (le_of_eq (regroup a c p d' n' d)) (le_trans (mul-le-mul_right (a * c) h) (le_of_eq (sym (regroup a c p' d n d'))))
  where
    regroup : (a c p d n g : ℕ) → a * p * (c * d) + a * n * (c * g) ≡ (p * d + n * g) * (a * c)
    regroup a c p d n g = simp (add-mul, mul_assoc, mul_comm, mul_left_comm)

pub mul_mono : (f : Format) (k x x' : Float) → T (nonneg k) → T (finite x) → T (finite x') → T (le x x') → T (le (mul f k x) (mul f k x'))
mul_mono f k x x' K X X' h =
    rounds_mono f (mul f k x) (mul f k x') (plus k * plus x) (plus k * minus x) (den k * den x) (plus k * plus x') (plus k * minus x') (den k * den x')
    (mul-pos (den_pos k) (den_pos x)) (mul-pos (den_pos k) (den_pos x')) (mul_rounds f k x K X) (mul_rounds f k x' K X')
    (scales (plus k) (den k) (plus x) (minus x) (den x) (plus x') (minus x') (den x') (le→ x x' X X' h))

pub mul_in : (f : Format) (k a b : Float) {x : Float} → T (nonneg k) → T (ends a b) → In a b x → In (mul f k a) (mul f k b) (mul f k x)
mul_in f k a b {x} K p i =
    let A = and_l (finite a) (finite b) p in
    let B = and_r (finite a) (finite b) p in
    let X = in_finite a b x A B i in
    record { lower = mul_mono f k a x K A X i.lower; upper = mul_mono f k x b K X B i.upper }
