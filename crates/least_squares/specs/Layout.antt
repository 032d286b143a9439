-- The numbers of an inverse before and after a step, by the places of a room. Definitions that contracts of this crate and of those above it cite.
use Rattle.std.specs.Prelude.{ℕ, ◌%◌, cond, List, ltb, Float}
use Rattle.std.specs.Float.{binary32}
use Rattle.std.specs.Float.Ieee.{of_bits}
use Rattle.complex.specs.declared.Complex32.{Complex32}
use Rattle.complex.specs.Complex.{difference_of, product_of}
use Rattle.least_squares.specs.Lanes.{pair_at}
use Rattle.least_squares.specs.LeastSquares.{memory, over_of, mean_of, tap_doubt, drift_doubt}

-- a number less gain times row, over 0.8: the one at the place a of the room, of the gain at u and the row at v
abbrev pub reduced_in : List Float → List Float → List Float → ℕ → ℕ → ℕ → Complex32
reduced_in w gain row a u v = over_of (difference_of (pair_at 1024 w a) (product_of (pair_at 128 gain u) (pair_at 128 row v))) memory

-- the mean of the one at a and of the conjugate of the one across the diagonal, at b
abbrev pub settled_at : List Float → List Float → List Float → ℕ → ℕ → ℕ → ℕ → Complex32
settled_at w gain row a b u v = mean_of (reduced_in w gain row a u v) (reduced_in w gain row b v u)

-- the real part of the number e of an inverse that begins anew
unfoldable pub prior_at : ℕ → Float
prior_at e = cond (ltb 0 (e % 9)) (of_bits binary32 0) (cond (ltb e 36) tap_doubt drift_doubt)
