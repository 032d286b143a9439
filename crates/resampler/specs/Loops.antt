-- What the code's loops leave: those that write the table of taps, and the sum over a straight run of the ring. Definitions only.
use Rattle.std.specs.Prelude.{ℕ, ◌+◌, ◌-◌, ◌*◌, ◌/◌, ◌%◌, List, slice_index_or, slice_set, Float}
use Rattle.std.specs.Float.{nan, binary32}
use Rattle.std.specs.Float.Ieee.{add, mul}
use Rattle.numbers.specs.Constants.{zero64}
use Rattle.laws.specs.Turns.{turns}
use Rattle.complex.specs.declared.Complex32.{Complex32}
use Rattle.resampler.specs.Design.{raw_tap_of, tap_sum_turn, tap_sum, over_sum}

-- ---- the table of taps

-- where tap i stands: in arm i % 32, from its end
abbrev pub tap_place_of : ℕ → ℕ → ℕ
tap_place_of c i = i % 32 * c + (c - 1 - i / 32)

-- the taps before the division
abbrev pub raw_turn : Float → ℕ → ℕ → List Float → List Float
raw_turn ω c i l = slice_set l (tap_place_of c i) (raw_tap_of ω (32 * c) i)

unfoldable pub raw_of : Float → ℕ → List Float → List Float
raw_of ω c table = turns (raw_turn ω c) (32 * c) table

-- and after it
abbrev pub divide_turn : Float → ℕ → List Float → List Float
divide_turn sum k m = slice_set m k (over_sum sum (slice_index_or m k nan))

unfoldable pub divided_of : Float → ℕ → List Float → List Float
divided_of sum n table = turns (divide_turn sum) n table

-- the code's first loop: the taps and their sum at once
pub record Raw : Type 0 where
  pub sum : Float
  pub table : List Float

abbrev pub both_turn : Float → ℕ → ℕ → Raw → Raw
both_turn ω c i r = record { sum = tap_sum_turn ω (32 * c) i r.sum; table = raw_turn ω c i r.table }

abbrev pub start_raw : List Float → Raw
start_raw table = record { sum = zero64; table = table }

-- all 32 c + 1 in the sum, and all but the last in the table
unfoldable pub raw_from : Float → ℕ → List Float → Raw
raw_from ω c table = record { sum = tap_sum ω (32 * c) (32 * c + 1); table = raw_of ω c table }

-- ---- one straight run: `count` places of the planes and taps of the table, from a place of each
abbrev pub run_turn : List Float → List Float → ℕ → List Float → ℕ → ℕ → Complex32 → Complex32
run_turn real imaginary from table base i s = record {
  real = add binary32 s.real (mul binary32 (slice_index_or real (from + i) nan) (slice_index_or table (base + i) nan));
  imaginary = add binary32 s.imaginary (mul binary32 (slice_index_or imaginary (from + i) nan) (slice_index_or table (base + i) nan));
}

unfoldable pub run_of : Complex32 → List Float → List Float → ℕ → List Float → ℕ → ℕ → Complex32
run_of s real imaginary from table base count = turns (run_turn real imaginary from table base) count s
