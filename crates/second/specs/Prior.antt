-- The inverses of a channel of which nothing is known, place by place. Definitions only.
use Rattle.std.specs.Prelude.{ℕ, ◌/◌, ◌%◌, cond, ltb, eqb, Float}
use Rattle.numbers.specs.Constants.{zero32}
use Rattle.least_squares.specs.LeastSquares.{tap_doubt, drift_doubt}

abbrev pub doubt_at : ℕ → Float
doubt_at row = cond (ltb row 4) tap_doubt drift_doubt

abbrev pub prior_at : ℕ → ℕ → Float
prior_at row column = cond (eqb row column) (doubt_at row) zero32

abbrev pub number_at : ℕ → Float
number_at place = cond (ltb place 4096) (prior_at (place / 4 % 64 / 8) (place / 4 % 64 % 8)) zero32
