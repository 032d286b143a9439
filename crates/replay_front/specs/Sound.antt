-- Samples stored one after the other are no NaN. Assumes nothing.
use Rattle.std.specs.Prelude.{◌≡◌, not, List, ℕ, ◌+◌, ◌<◌, T, Float, length, get_or, set}
use Rattle.std.proofs.Common.{sym, subst, ⊎_elim, arith, get_or-set_same, get_or-set_other}
use Rattle.std.specs.Float.{nan}
use Rattle.std.specs.Float.Ieee.{is_nan}
use Rattle.laws.specs.Places.{le_or}
use Rattle.front.specs.Admitted.{Numbers}

-- so are the first n
pub record Sound (n : ℕ) (l : List Float) : Type 0 where
  pub each : (k : ℕ) → k < n → T (not (is_nan (get_or l k nan)))

pub sound_none : (l : List Float) → Sound 0 l
sound_none l = record { each = λ k h. absurd (omega arith) }

pub sound_more : (n : ℕ) (l : List Float) (a : Float) → n < length l → T (not (is_nan a)) → Sound n l → Sound (n + 1) (set l n a)
sound_more n l a h t s = record {
  each = λ k m.
      ⊎_elim
      (λ p. subst (λ (x : Float). T (not (is_nan x))) (sym (get_or-set_other l n k a nan (λ e. omega arith))) (s.each k p))
      (λ e. subst (λ (j : ℕ). T (not (is_nan (get_or (set l n a) j nan)))) (sym e) (subst (λ (x : Float). T (not (is_nan x))) (sym (get_or-set_same l n a nan h)) t))
      (le_or k n (omega arith));
}

pub sound_all : (l : List Float) (n : ℕ) → Sound n l → length l ≡ n → Numbers l
sound_all l n s e = record { each = λ k h. s.each k (subst (λ (m : ℕ). k < m) e h) }
