-- The least-squares step of one state of the second tracker: four taps, their drift with each symbol, and the inverse of 8 x 8 numbers that weighs both
-- (docs/SPECIFICATION.md). Every operation is f32, in the Rust's order. Definitions only.
use Rattle.std.specs.Prelude.{ℕ, ◌+◌, ◌*◌, ◌/◌, ◌%◌, Bool, cond, ◌&&◌, List, ltb, eqb, get_or, Float}
use Rattle.std.specs.Float.{binary32}
use Rattle.std.specs.Float.Ieee.{of_bits, neg, add, sub, mul, div, lt}
use Rattle.laws.specs.Places.{upto}
use Rattle.numbers.specs.Numbers.{is_finite}
use Rattle.complex.specs.declared.Complex32.{Complex32}
use Rattle.complex.specs.Complex.{zero_pair, sum_of, difference_of, product_of, conjugate_product_of}

-- how much a symbol's weight is of the next one's: a memory of some five symbols
abbrev pub memory : Float
memory = of_bits binary32 0x3f4ccccd  -- 0.8

-- ---- rows, and inverses row after row

abbrev pub number_of : List Complex32 → ℕ → Complex32
number_of row k = get_or row k zero_pair

abbrev pub entry_of : List Complex32 → ℕ → ℕ → Complex32
entry_of p i j = number_of p (8 * i + j)

unfoldable pub table_of : (ℕ → ℕ → Complex32) → List Complex32
table_of f = upto (λ e. f (e / 8) (e % 8)) 64

abbrev pub over_of : Complex32 → Float → Complex32
over_of z d = record { real = div binary32 z.real d; imaginary = div binary32 z.imaginary d }

abbrev pub conjugate_of : Complex32 → Complex32
conjugate_of z = record { real = z.real; imaginary = neg z.imaginary }

-- four numbers added to zero in turn
abbrev pub four_sum : Complex32 → Complex32 → Complex32 → Complex32 → Complex32
four_sum a b c d = sum_of (sum_of (sum_of (sum_of zero_pair a) b) c) d

-- ---- the inverse of an unknown channel: 4 for each tap, 0.01 for each drift
abbrev pub tap_doubt : Float
tap_doubt = of_bits binary32 0x40800000  -- 4

abbrev pub drift_doubt : Float
drift_doubt = of_bits binary32 0x3c23d70a  -- 0.01

unfoldable pub prior_of : List Complex32
prior_of = table_of (λ i j. cond (eqb i j) (record { real = cond (ltb i 4) tap_doubt drift_doubt; imaginary = of_bits binary32 0 }) zero_pair)

-- ---- one symbol on: the upper rows take the lower ones, and then the left columns the right ones
unfoldable pub lower_added : List Complex32 → List Complex32
lower_added p = table_of (λ i j. cond (ltb i 4) (sum_of (entry_of p i j) (entry_of p (i + 4) j)) (entry_of p i j))

unfoldable pub right_added : List Complex32 → List Complex32
right_added p = table_of (λ i j. cond (ltb j 4) (sum_of (entry_of p i j) (entry_of p i (j + 4))) (entry_of p i j))

unfoldable pub foretold_of : List Complex32 → List Complex32
foretold_of p = right_added (lower_added p)

-- ---- what the four symbols u say of the inverse p

-- the first four columns times the symbols' conjugates
unfoldable pub projected_of : List Complex32 → List Complex32 → List Complex32
projected_of p u = upto (λ i.
    four_sum
    (conjugate_product_of (entry_of p i 0) (number_of u 0)) (conjugate_product_of (entry_of p i 1) (number_of u 1))
    (conjugate_product_of (entry_of p i 2) (number_of u 2)) (conjugate_product_of (entry_of p i 3) (number_of u 3))) 8

-- the symbols times the first four rows
unfoldable pub crossed_of : List Complex32 → List Complex32 → List Complex32
crossed_of p u = upto (λ j.
    four_sum
    (product_of (number_of u 0) (entry_of p 0 j)) (product_of (number_of u 1) (entry_of p 1 j))
    (product_of (number_of u 2) (entry_of p 2 j)) (product_of (number_of u 3) (entry_of p 3 j))) 8

-- 0.8 and the real part of the symbols times what they project
unfoldable pub denominator_of : List Complex32 → List Complex32 → Float
denominator_of u v =
    add binary32 (add binary32 (add binary32 (add binary32 memory
    (product_of (number_of u 0) (number_of v 0)).real) (product_of (number_of u 1) (number_of v 1)).real)
    (product_of (number_of u 2) (number_of v 2)).real) (product_of (number_of u 3) (number_of v 3)).real

unfoldable pub gain_of : List Complex32 → Float → List Complex32
gain_of v d = upto (λ i. over_of (number_of v i) d) 8

-- the denominator and the gain of a step, from the inverse and the symbols alone
unfoldable pub weight_of : List Complex32 → List Complex32 → Float
weight_of p u = denominator_of u (projected_of p u)

unfoldable pub gain_for : List Complex32 → List Complex32 → List Complex32
gain_for p u = gain_of (projected_of p u) (weight_of p u)

-- ---- the step

-- a denominator that can be divided by: above 1e-6 and finite
abbrev pub least_denominator : Float
least_denominator = of_bits binary32 0x358637bd  -- 1e-6

abbrev pub is_usable : Float → Bool
is_usable d = lt least_denominator d && is_finite d

-- a tap, or its drift, moved by gain times error
unfoldable pub moved_tap : Complex32 → Complex32 → Complex32 → Bool → Complex32
moved_tap h gain error usable = cond usable (sum_of h (product_of gain error)) h

unfoldable pub moved_of : List Complex32 → List Complex32 → ℕ → Complex32 → Bool → List Complex32
moved_of h gain from error usable = upto (λ t. moved_tap (number_of h t) (number_of gain (t + from)) error usable) 4

-- the inverse less gain times row, over 0.8
abbrev pub reduced_at : List Complex32 → List Complex32 → List Complex32 → ℕ → ℕ → Complex32
reduced_at p gain row i j = over_of (difference_of (entry_of p i j) (product_of (number_of gain i) (number_of row j))) memory

abbrev half : Float
half = of_bits binary32 0x3f000000  -- 0.5

-- the mean of a number and of the conjugate of the one across the diagonal
abbrev pub mean_of : Complex32 → Complex32 → Complex32
mean_of a b = record { real = mul binary32 half (add binary32 a.real b.real); imaginary = mul binary32 half (sub binary32 a.imaginary b.imaginary) }

-- made alike across the diagonal: below it, and on it, stands the conjugate of what stands across
unfoldable pub settled_of : List Complex32 → List Complex32 → List Complex32 → List Complex32
settled_of p gain row = table_of (λ i j.
    cond (ltb i j)
    (mean_of (reduced_at p gain row i j) (reduced_at p gain row j i))
    (conjugate_of (mean_of (reduced_at p gain row j i) (reduced_at p gain row i j))))

-- the sum of the diagonal's real parts
unfoldable pub trace_of : List Complex32 → Float
trace_of p =
    add binary32 (add binary32 (add binary32 (add binary32 (add binary32 (add binary32 (add binary32
    (entry_of p 0 0).real (entry_of p 1 1).real) (entry_of p 2 2).real) (entry_of p 3 3).real)
    (entry_of p 4 4).real) (entry_of p 5 5).real) (entry_of p 6 6).real) (entry_of p 7 7).real

-- finite and below 1e4
abbrev pub most_trace : Float
most_trace = of_bits binary32 0x461c4000  -- 10000

abbrev pub is_bounded : Float → Bool
is_bounded t = is_finite t && lt t most_trace

-- where the denominator or the trace is of no use the inverse begins anew
unfoldable pub renewed_of : Float → List Complex32 → List Complex32
renewed_of d p = cond (is_usable d && is_bounded (trace_of p)) p prior_of

-- ---- a state: its taps, their drift with each symbol, and the inverse
pub record Model : Type 0 where
  pub taps : List Complex32
  pub drift : List Complex32
  pub inverse : List Complex32

-- the step with the four symbols u and the error of the state's prediction, from taps that have gone on by their drift
unfoldable pub learnt_of : Model → List Complex32 → Complex32 → Model
learnt_of m u error =
    let p = foretold_of m.inverse in
    let gain = gain_for p u in
    record {
      taps = moved_of m.taps gain 0 error (is_usable (weight_of p u));
      drift = moved_of m.drift gain 4 error (is_usable (weight_of p u));
      inverse = renewed_of (weight_of p u) (settled_of p gain (crossed_of p u));
    }
