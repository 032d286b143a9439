-- What the decimator's raw outputs are to be: the latest 3d - 2 samples, weighted by their age. Definitions only.
use Rattle.std.specs.Prelude.{ℕ, zero, suc, ◌+◌, ◌-◌, ◌*◌, ◌%◌, ◌^◌, Bool, cond, List, length, ℤ, pos, ◌+ℤ◌, ◌*ℤ◌, ◌==◌, nat_le, slice_index_or, Option, Some, None}
use Rattle.laws.specs.Places.{upto}
use Rattle.laws.specs.Modulo.{modulo}
use Rattle.decimator.specs.declared.Counts.{Counts}
use Rattle.numbers.specs.Bits.{signed_of}

-- f 0 + f 1 + .. + f (n - 1)
unfoldable pub sum_n : ℕ → (ℕ → ℕ) → ℕ
sum_n zero f = 0
sum_n (suc n) f = sum_n n f + f n

unfoldable pub sum_z : ℕ → (ℕ → ℤ) → ℤ
sum_z zero f = pos 0
sum_z (suc n) f = sum_z n f +ℤ f n

abbrev pub one_if : Bool → ℕ
one_if b = cond b 1 0

-- the number of ordered triples of numbers from 0 to d - 1 whose sum is a
unfoldable pub weight : ℕ → ℕ → ℕ
unfolding sum_n
weight d a = sum_n d (λ i. sum_n d (λ j. sum_n d (λ k. one_if (i + j + k == a))))

-- the sum of the latest 3d - 2 samples, each weighted by its age; `sample a` is the one that came a samples ago
unfoldable pub weighted : ℕ → (ℕ → ℤ) → ℤ
unfolding sum_z weight
weighted d sample = sum_z (3 * d - 2) (λ a. pos (weight d a) *ℤ sample a)

-- z modulo 2 ^ 64, read as a signed number
unfoldable pub wrapped : ℤ → ℤ
unfolding modulo
wrapped z = signed_of (modulo (2 ^ 64) z)

abbrev pub no_counts : Counts
no_counts = record { real = pos 0; imaginary = pos 0 }

-- the sample that came a samples before the n-th (counted from 0) of a row; before the first there are zeros
abbrev pub ago : List Counts → ℕ → ℕ → Counts
ago xs n a = cond (nat_le a n) (slice_index_or xs (n - a) no_counts) no_counts

-- both weighted sums at the n-th sample of a row
abbrev pub sums_at : ℕ → List Counts → ℕ → Counts
sums_at d xs n = record { real = weighted d (λ a. (ago xs n a).real); imaginary = weighted d (λ a. (ago xs n a).imaginary) }

-- the raw output there: silent but at every d-th sample
unfoldable pub demanded : ℕ → List Counts → ℕ → Option Counts
unfolding weighted wrapped
demanded d xs n =
    let s = sums_at d xs n in
    cond ((n + 1) % d == 0) (Some (record { real = wrapped s.real; imaginary = wrapped s.imaginary })) None

-- the raw outputs of a row
unfoldable pub demanded_row : ℕ → List Counts → List (Option Counts)
unfolding demanded upto
demanded_row d xs = upto (demanded d xs) (length xs)
