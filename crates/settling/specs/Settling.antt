-- The inverse of a state after a step, out of rooms of sixteen lanes. Definition only.
use Rattle.std.specs.Prelude.{ℕ, ◌%◌, List, get_or, Float}
use Rattle.std.specs.Float.{nan}
use Rattle.complex.specs.declared.Complex32.{Complex32}
use Rattle.least_squares.specs.Lanes.{inverse_in, row_in}
use Rattle.least_squares.specs.LeastSquares.{settled_of, renewed_of}

-- of the state s, whose lane is s % 16: of the inverse w, the gain, the row and the denominator
abbrev pub inverse_after : List Float → List Float → List Float → List Float → ℕ → List Complex32
inverse_after w gain row den s = renewed_of (get_or den (s % 16) nan) (settled_of (inverse_in w (s % 16)) (row_in gain (s % 16)) (row_in row (s % 16)))
