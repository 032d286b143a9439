-- A row's history, newest first, and where its samples stand in the row. Assumes nothing.
use Rattle.std.specs.Prelude.{◌≡◌, ℕ, zero, suc, ◌-◌, ◌<◌, ◌≤◌, List, [], ◌∷◌, length, get_or, slice_index_or}
use native.Mathlib.Omega.{arith}
use Rattle.std.proofs.Math.Path.{ap}
use Rattle.std.proofs.Common.{◌∙◌}
use Rattle.std.proofs.Math.Logic.{⊎_elim}
use Rattle.laws.specs.Places.{le_or}

module _ {A : Type 0} where
  -- what the history h has become once the n-th sample (from 0) of the row is in
  unfoldable pub past : List A → List A → ℕ → List A
  past h [] n = h
  past h (x ∷ xs) zero = x ∷ h
  past h (x ∷ xs) (suc n) = past (x ∷ h) xs n

  -- of age a: before the row's first sample the history is h
  pub past_before : (d : A) (h xs : List A) (n a : ℕ) → n < length xs → n < a → slice_index_or (past h xs n) a d ≡ slice_index_or h (a - suc n) d
  unfolding past
  past_before d h [] n a l k = absurd (omega arith)
  past_before d h (x ∷ xs) zero zero l k = absurd (omega arith)
  past_before d h (x ∷ xs) zero (suc a) l k = let e : suc a - 1 ≡ a = omega arith in rw e
  past_before d h (x ∷ xs) (suc n) a l k =
      let e : a - suc n ≡ suc (a - suc (suc n)) = omega arith in
      past_before d (x ∷ h) xs n a (omega arith) (omega arith) ∙ ap (λ (i : ℕ). get_or (x ∷ h) i d) e

  pub past_at : (d : A) (h xs : List A) (n a : ℕ) → n < length xs → a ≤ n → slice_index_or (past h xs n) a d ≡ slice_index_or xs (n - a) d
  unfolding past
  past_at d h [] n a l k = absurd (omega arith)
  past_at d h (x ∷ xs) zero a l k = let e : a ≡ 0 = omega arith in rw e
  past_at d h (x ∷ xs) (suc n) a l k =
      ⊎_elim
      (λ m. let e : suc n - a ≡ suc (n - a) = omega arith in past_at d (x ∷ h) xs n a (omega arith) (omega arith) ∙ ap (λ (i : ℕ). get_or (x ∷ xs) i d) (let f : suc (n - a) ≡ suc n - a = omega arith in f))
      (λ m. let e : a - suc n ≡ 0 = omega arith in let f : suc n - a ≡ 0 = omega arith in past_before d (x ∷ h) xs n a (omega arith) (omega arith) ∙ ap (λ (i : ℕ). get_or (x ∷ h) i d) e ∙ rw f)
      (le_or a (suc n) k)
