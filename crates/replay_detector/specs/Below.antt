-- Parents stored one after the other are states. Assumes nothing.
use Rattle.std.proofs.Common.{sym, subst, ⊎_elim, arith, get_or-set_same, get_or-set_other}
use Rattle.std.specs.Prelude.{ℕ, ◌+◌, ◌<◌, List, length, slice_index, slice_set}
use Rattle.laws.specs.Places.{le_or}

-- so are the first n
pub record Below (n : ℕ) (l : List ℕ) : Type 0 where
  pub below : (i : ℕ) → i < n → slice_index l i < 64

pub below_none : (l : List ℕ) → Below 0 l
below_none l = record { below = λ i h. absurd (omega arith) }

pub below_more : (n : ℕ) (l : List ℕ) (a : ℕ) → n < length l → a < 64 → Below n l → Below (n + 1) (slice_set l n a)
below_more n l a h k b = record {
  below = λ i m.
      ⊎_elim
      (λ p. rw (get_or-set_other l n i a 0 (λ e. omega arith)) (b.below i p))
      (λ e. subst (λ (j : ℕ). slice_index (slice_set l n a) j < 64) (sym e) (rw (get_or-set_same l n a 0 h) k))
      (le_or i n (omega arith));
}
