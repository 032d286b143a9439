-- A label's ways out, and how far a count goes. Assumes nothing.
use Rattle.std.specs.Prelude.{ℕ, suc, zero, ◌+◌, ◌≤◌, min, ◌≡◌, refl, Bool, true, false, ℤ, pos, negsuc, Option, None, Some}
use Rattle.std.proofs.Common.{arith, ap, SFits, of_z, to_z-of_z, ne_eqb}
use Rattle.std.specs.Int.{w32}
use Rattle.labels.specs.Labels.{rearranges, relabelled_of, labelled_of, counted_of}
use Rattle.answers.specs.declared.walk.Dibit.{Dibit}

-- ---- the profile's number, by its bits
pub profile_one : (p : ℤ) → SFits w32 p → of_z w32 p ≡ 1 → true ≡ rearranges p
profile_one p f e = rw (← to_z-of_z f, e)

other : (p : ℤ) → (p ≡ pos 1 → ⊥) → false ≡ rearranges p
other (pos n) h = rw (ne_eqb n 1 (λ e. h (ap pos e)))
other (negsuc n) h = refl

pub profile_other : (p : ℤ) → (of_z w32 p ≡ 1 → ⊥) → false ≡ rearranges p
profile_other p h = other p (λ e. h (ap (of_z w32) e))

-- ---- a label's three ways
pub label_silent : (b : Bool) (a : Option Dibit) → a ≡ None → a ≡ labelled_of b a
label_silent b a e = rw e

module _ (b : Bool) (a : Option Dibit) (d : Dibit) (is : a ≡ Some d) where
  pub label_rearranged : (e m : ℕ) → b ≡ true → e ≡ relabelled_of d.value → m ≡ min d.high d.low
      → ◌≡◌ {A = Option Dibit} (Some (record { value = e; high = d.low; low = m })) (labelled_of b a)
  label_rearranged e m t p q = rw (is, t, p, q)

  pub label_kept : b ≡ false → Some d ≡ labelled_of b a
  label_kept t = rw (is, t)

-- ---- the dibit's label
pub relabel_other : (d : ℕ) → (d ≡ 0 → ⊥) → (d ≡ 1 → ⊥) → (d ≡ 2 → ⊥) → 2 ≡ relabelled_of d
relabel_other zero a b c = absurd (a refl)
relabel_other (suc zero) a b c = absurd (b refl)
relabel_other (suc (suc zero)) a b c = absurd (c refl)
relabel_other (suc (suc (suc zero))) a b c = refl
relabel_other (suc (suc (suc (suc n)))) a b c = refl

-- ---- a count
pub count_silent : (n : ℕ) (a : Option Dibit) (b : Bool) → a ≡ None → n ≡ counted_of n a b
count_silent n a b e = rw e

pub count_dibit : (n : ℕ) (a : Option Dibit) (b : Bool) (d : Dibit) → a ≡ Some d → b ≡ true → n + 1 ≡ counted_of n a b
count_dibit n a b d e t = rw (e, t)

pub count_kept : (n : ℕ) (a : Option Dibit) (b : Bool) (d : Dibit) → a ≡ Some d → b ≡ false → n ≡ counted_of n a b
count_kept n a b d e t = rw (e, t)

-- at most one more, and what counts under a condition stays within what always counts
pub count_most : (n : ℕ) (a : Option Dibit) (b : Bool) → counted_of n a b ≤ n + 1
count_most n None b = omega arith
count_most n (Some d) true = omega arith
count_most n (Some d) false = omega arith

pub count_least : (n : ℕ) (a : Option Dibit) (b : Bool) → n ≤ counted_of n a b
count_least n None b = omega arith
count_least n (Some d) true = omega arith
count_least n (Some d) false = omega arith

pub count_within : (m n : ℕ) (a : Option Dibit) (b : Bool) → m ≤ n → counted_of m a b ≤ counted_of n a true
count_within m n None b h = h
count_within m n (Some d) true h = omega arith
count_within m n (Some d) false h = omega arith
