-- Plain parts, zero or of a size from 2 ^ -60 to 2 ^ 60: what the quick loops of a read ask for and compute. Definitions only.
use Rattle.std.specs.Prelude.{◌≡◌, ℕ, ◌+◌, ◌*◌, ◌%◌, ◌<◌, ◌≤◌, Bool, true, not, ◌&&◌, ◌||◌, T, ◌⊎◌, List, set, from_bits, is_nan, slice_index_or, slice_set, to_bits, Float}
use Rattle.std.specs.Float.{nan, binary32, binary64}
use Rattle.std.specs.Float.Ieee.{neg, add, div, le, eq, fits}
use Rattle.numbers.specs.Constants.{zero32}
use Rattle.numbers.specs.Numbers.{convert}
use Rattle.complex.specs.declared.Complex32.{Complex32}
use Rattle.signal.specs.Signal.{point_at, missed_of}

-- the least and the largest size of a plain part that is not zero, and of a plain amplitude: the same numbers in both formats
abbrev pub least_part : Float
least_part = from_bits binary32 0x21800000  -- 2 ^ -60

abbrev pub most_part : Float
most_part = from_bits binary32 0x5d800000  -- 2 ^ 60

abbrev pub least_amplitude : Float
least_amplitude = from_bits binary64 0x3c30000000000000  -- 2 ^ -60

abbrev pub most_amplitude : Float
most_amplitude = from_bits binary64 0x43b0000000000000  -- 2 ^ 60

abbrev pub is_sized : Float → Bool
is_sized x = le least_part x || le x (neg least_part)

-- of a size from 2 ^ -60 to 2 ^ 60, or zero
abbrev pub is_plain : Float → Bool
is_plain x = (is_sized x && (le x most_part && le (neg most_part) x)) || eq zero32 x

-- the parts are plain, and the amplitude too
abbrev pub common_of : Bool → Float → Bool
common_of plain amplitude = (plain && le least_amplitude amplitude) && le amplitude most_amplitude

-- an amplitude from 2 ^ -60 to 2 ^ 60
pub record PlainAmplitude (a : Float) : Type 0 where
  pub lower : T (le least_amplitude a)
  pub upper : T (le a most_amplitude)

-- a number that narrowing meets in its everyday form, or zero: its size less the sign's bit is 0 or a normal f32's
pub record Usual (x : Float) : Type 0 where
  pub held : T (fits binary64 x)
  pub number : T (not (is_nan x))
  pub range : (to_bits binary64 x % 0x8000000000000000 ≡ 0) ⊎ ((0x3810000000000000 ≤ to_bits binary64 x % 0x8000000000000000) × (to_bits binary64 x % 0x8000000000000000 < 0x47effffff0000000))

-- the parts at n places from one on
pub record PlainRun (re im : List Float) (from n : ℕ) : Type 0 where
  pub real : (k : ℕ) → k < n → is_plain (slice_index_or re (from + k) nan) ≡ true
  pub imaginary : (k : ℕ) → k < n → is_plain (slice_index_or im (from + k) nan) ≡ true

-- the parts at n places round the ring from one on
pub record PlainRound (re im : List Float) (from n : ℕ) : Type 0 where
  pub real : (k : ℕ) → k < n → is_plain (slice_index_or re ((from + k) % 1024) nan) ≡ true
  pub imaginary : (k : ℕ) → k < n → is_plain (slice_index_or im ((from + k) % 1024) nan) ≡ true

-- the error of a point whose quotients are given
abbrev pub error_from : Float → Float → Float
error_from x y = add binary64 (missed_of x) (missed_of y)

-- ---- one turn, at a place of the planes and a place among the points
module _ (re im : List Float) where
  abbrev pub sum_step : (Complex32 → Float) → ℕ → ℕ → Float → Float
  sum_step f p k sum = add binary64 sum (f (point_at re im p))

  abbrev pub write_step : Float → ℕ → ℕ → List Float → List Float
  write_step a p k l =
      set
      (slice_set l (k * 2) (convert binary32 (div binary64 (slice_index_or re p nan) a)))
      (k * 2 + 1)
      (convert binary32 (div binary64 (slice_index_or im p nan) a))

-- turns from a place on, after some points are done
abbrev pub run_of : {A : Type 0} → (ℕ → ℕ → A → A) → ℕ → ℕ → ℕ → A → A
run_of g from done k = g (from + k) (done + k)

-- turns round the ring from a place on
abbrev pub round_of : {A : Type 0} → (ℕ → ℕ → A → A) → ℕ → ℕ → A → A
round_of g from k = g ((from + k) % 1024) k
