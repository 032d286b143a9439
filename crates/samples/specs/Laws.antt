-- What the checks of the samples say of each: where all are finite, each part is. A count of samples, over every test and every kind of part: its step where the tests' outcomes are known; at most all samples; none where no part passes. Assumes nothing.
use Rattle.std.specs.Prelude.{◌≡◌, refl, Bool, true, false, cond, ◌&&◌, ◌||◌, List, ℕ, zero, suc, ◌+◌, ◌*◌, ◌/◌, ◌≤◌, ◌<◌, length, get_or, Float}
use Rattle.std.proofs.Common.{sym, add-zero, arith}
use Rattle.laws.specs.Turns.{turns}
use Rattle.laws.specs.Places.{true_all}
use Rattle.laws.specs.Branches.{and_true}
use Rattle.numbers.specs.Numbers.{is_finite}
use Rattle.samples.specs.Samples.{count_of, real_of, imaginary_of, finite_of, tallied, samples_with}

-- ---- all parts
pub finite_parts : (xs : List Float) → finite_of xs ≡ true → (k : ℕ) → k < count_of xs → (is_finite (real_of xs k) ≡ true) × (is_finite (imaginary_of xs k) ≡ true)
unfolding finite_of
finite_parts xs h k l = and_true (is_finite (real_of xs k)) (is_finite (imaginary_of xs k)) (true_all (λ (k : ℕ). is_finite (real_of xs k) && is_finite (imaginary_of xs k)) (count_of xs) h k l)

-- ---- a count's step
module _ {A : Type 0} (test : A → Bool) (n : ℕ) (real imaginary : A) (a b : Bool) (p : a ≡ test real) (q : b ≡ test imaginary) where
  pub tally_more : (a || b) ≡ true → n + 1 ≡ tallied test n real imaginary
  tally_more h = rw (← p, ← q, h)

  pub tally_same : (a || b) ≡ false → n ≡ tallied test n real imaginary
  tally_same h = rw (← p, ← q, h) (sym (add-zero n))

-- ---- the places that pass
abbrev passing : (ℕ → Bool) → ℕ → ℕ
passing g n = turns (λ (k s : ℕ). s + cond (g k) 1 0) n 0

flag_most : (b : Bool) → cond b 1 0 ≤ 1
flag_most true = omega arith
flag_most false = omega arith

passing_most : (g : ℕ → Bool) (n : ℕ) → passing g n ≤ n
unfolding turns
passing_most g zero = omega arith
passing_most g (suc n) = let h = passing_most g n in let k = flag_most (g n) in omega arith

passing_none : (g : ℕ → Bool) (n : ℕ) → ((k : ℕ) → k < n → g k ≡ false) → passing g n ≡ 0
unfolding turns
passing_none g zero h = refl
passing_none g (suc n) h = rw (passing_none g n (λ k l. h k (omega arith)), h n (omega arith))

-- ---- the samples with a part that passes
module _ {A : Type 0} (test : A → Bool) (outside : A) (xs : List A) where
  abbrev either : ℕ → Bool
  either k = test (get_or xs (2 * k) outside) || test (get_or xs (2 * k + 1) outside)

  pub samples_most : samples_with test outside xs ≤ length xs / 2
  unfolding samples_with
  samples_most = passing_most either (length xs / 2)

  pub samples_none : ((k : ℕ) → k < length xs → test (get_or xs k outside) ≡ false) → samples_with test outside xs ≡ 0
  unfolding samples_with
  samples_none h = passing_none either (length xs / 2) (λ k l. rw (h (2 * k) (omega arith), h (2 * k + 1) (omega arith)))
