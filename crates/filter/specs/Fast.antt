-- The form in which the windows are computed: samples at even and at odd places apart, four windows side by side. Definitions only.
use Rattle.std.specs.Prelude.{ℕ, ◌+◌, ◌*◌, ◌/◌, ◌%◌, ◌<◌, ◌≡◌, cond, List, eqb, ltb, length, get_or, set, Float}
use Rattle.std.specs.Float.{nan, binary32}
use Rattle.std.specs.Float.Ieee.{add, mul}
use Rattle.laws.specs.Places.{upto}
use Rattle.complex.specs.declared.Complex32.{Complex32}
use Rattle.complex.specs.Complex.{zero_pair}
use Rattle.filter.specs.Filter.{part_of}
use Rattle.filter.specs.declared.sums.Sums.{Sums}
use Rattle.filter.specs.declared.sums.Four.{Four}

-- every second sample from `from` on, and the samples again of those at even and at odd places
abbrev pub second_at : List Float → ℕ → ℕ → Float
second_at ring from j = get_or ring ((from + 2 * j) % 256) nan

unfoldable pub every_second_of : List Float → ℕ → List Float
every_second_of ring from = upto (second_at ring from) 37

unfoldable pub woven : List Float → List Float → ℕ → Float
woven evens odds i = cond (eqb (i % 2) 0) (get_or evens (i / 2) nan) (get_or odds (i / 2) nan)

-- a tap more
abbrev pub summed_of : Complex32 → Float → Float → Float → Complex32
summed_of sum re im tap = record { real = add binary32 sum.real (mul binary32 re tap); imaginary = add binary32 sum.imaginary (mul binary32 im tap) }

abbrev pub tapped_of : Sums → Float → Float → Float → Float → Sums
tapped_of s re im tap derivative = record { value = summed_of s.value re im tap; derivative = summed_of s.derivative re im derivative }

abbrev pub tapped_four : Four → List Float → List Float → ℕ → Float → Float → Four
tapped_four s re im at tap derivative = record {
  first = tapped_of s.first (get_or re at nan) (get_or im at nan) tap derivative;
  second = tapped_of s.second (get_or re (at + 1) nan) (get_or im (at + 1) nan) tap derivative;
  third = tapped_of s.third (get_or re (at + 2) nan) (get_or im (at + 2) nan) tap derivative;
  fourth = tapped_of s.fourth (get_or re (at + 3) nan) (get_or im (at + 3) nan) tap derivative;
}

abbrev pub no_four : Four
no_four = let none : Sums = record { value = zero_pair; derivative = zero_pair } in record { first = none; second = none; third = none; fourth = none }

-- the sums of window k over the first n taps, and those of k, k + 1, k + 2, k + 3
unfoldable pub sums_of : (ℕ → Float) → (ℕ → Float) → List Float → List Float → ℕ → ℕ → Sums
sums_of re im taps derivatives k n = record {
  value = record { real = part_of re taps k n; imaginary = part_of im taps k n };
  derivative = record { real = part_of re derivatives k n; imaginary = part_of im derivatives k n };
}

unfoldable pub four_of : (ℕ → Float) → (ℕ → Float) → List Float → List Float → ℕ → ℕ → Four
four_of re im taps derivatives k n = record {
  first = sums_of re im taps derivatives k n;
  second = sums_of re im taps derivatives (k + 1) n;
  third = sums_of re im taps derivatives (k + 2) n;
  fourth = sums_of re im taps derivatives (k + 3) n;
}

-- four stores, the groups' first windows, and how many windows are made before group g
abbrev pub put_of : List Float → ℕ → Float → Float → Float → Float → List Float
put_of l k a b c d = set (set (set (set l k a) (k + 1) b) (k + 2) c) (k + 3) d

unfoldable pub group_of : ℕ → ℕ
group_of g = cond (ltb g 5) (4 * g) 17

unfoldable pub made_of : ℕ → ℕ
made_of g = cond (ltb g 6) (4 * g) 21

-- the first n of 21 places are f's
pub record Filled (f : ℕ → Float) (n : ℕ) (l : List Float) : Type 0 where
  pub size : length l ≡ 21
  pub holds : (j : ℕ) → j < n → get_or l j nan ≡ f j
