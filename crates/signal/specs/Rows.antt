-- Rows of 32 points, divided ahead of their writing: the real parts' quotients at 0 to 31, the imaginary parts' at 32 to 63. Definitions only.
use Rattle.std.specs.Prelude.{ℕ, ◌+◌, ◌*◌, ◌<◌, List, slice_index_or, slice_set, Float}
use Rattle.std.specs.Float.{nan, binary32, binary64}
use Rattle.std.specs.Float.Ieee.{add, div}
use Rattle.numbers.specs.Numbers.{convert}
use Rattle.signal.specs.Plain.{Usual, error_from}

-- a part over the amplitude, k places from one on
abbrev pub quotient_at : List Float → Float → ℕ → ℕ → Float
quotient_at part a from k = div binary64 (slice_index_or part (from + k) nan) a

-- the point k, of two quotients, put into the floats
abbrev pub point_put : Float → Float → ℕ → List Float → List Float
point_put x y k l = slice_set (slice_set l (k * 2) (convert binary32 x)) (k * 2 + 1) (convert binary32 y)

-- narrowing meets the quotients of the first n points in their everyday form
pub record UsualRow (row : List Float) (n : ℕ) : Type 0 where
  pub real : (k : ℕ) → k < n → Usual (slice_index_or row k nan)
  pub imaginary : (k : ℕ) → k < n → Usual (slice_index_or row (32 + k) nan)

-- ---- one turn: a point divided into the row, its error added, and the point written
abbrev pub divide_turn : List Float → List Float → Float → ℕ → ℕ → List Float → List Float
divide_turn re im a from k row = slice_set (slice_set row k (quotient_at re a from k)) (32 + k) (quotient_at im a from k)

module _ (row : List Float) where
  abbrev pub error_turn : ℕ → Float → Float
  error_turn k sum = add binary64 sum (error_from (slice_index_or row k nan) (slice_index_or row (32 + k) nan))

  abbrev pub point_turn : ℕ → ℕ → List Float → List Float
  point_turn done k l = point_put (slice_index_or row k nan) (slice_index_or row (32 + k) nan) (done + k) l
