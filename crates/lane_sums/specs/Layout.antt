-- The sums as the code makes them, by the places of a room. Definitions that only the crate's own contracts cite.
use Rattle.std.specs.Prelude.{ℕ, ◌+◌, List, get_or, Float}
use Rattle.std.specs.Float.{nan, binary32}
use Rattle.std.specs.Float.Ieee.{add}
use Rattle.complex.specs.declared.Complex32.{Complex32}
use Rattle.complex.specs.Complex.{product_of, conjugate_product_of}
use Rattle.least_squares.specs.Lanes.{pair_at}
use Rattle.least_squares.specs.LeastSquares.{memory, over_of, four_sum}

-- of the row of an inverse that starts at a place
abbrev pub projected_at : List Float → List Float → ℕ → ℕ → Complex32
projected_at w u at l =
    four_sum
    (conjugate_product_of (pair_at 1024 w at) (pair_at 64 u l)) (conjugate_product_of (pair_at 1024 w (at + 16)) (pair_at 64 u (l + 16)))
    (conjugate_product_of (pair_at 1024 w (at + 32)) (pair_at 64 u (l + 32))) (conjugate_product_of (pair_at 1024 w (at + 48)) (pair_at 64 u (l + 48)))

-- of the column that starts at a place
abbrev pub crossed_at : List Float → List Float → ℕ → ℕ → Complex32
crossed_at w u at l =
    four_sum
    (product_of (pair_at 64 u l) (pair_at 1024 w at)) (product_of (pair_at 64 u (l + 16)) (pair_at 1024 w (at + 128)))
    (product_of (pair_at 64 u (l + 32)) (pair_at 1024 w (at + 256))) (product_of (pair_at 64 u (l + 48)) (pair_at 1024 w (at + 384)))

abbrev pub denominator_at : List Float → List Float → ℕ → Float
denominator_at u v l =
    add binary32 (add binary32 (add binary32 (add binary32 memory
    (product_of (pair_at 64 u l) (pair_at 128 v l)).real) (product_of (pair_at 64 u (l + 16)) (pair_at 128 v (l + 16))).real)
    (product_of (pair_at 64 u (l + 32)) (pair_at 128 v (l + 32))).real) (product_of (pair_at 64 u (l + 48)) (pair_at 128 v (l + 48))).real

abbrev pub divided_at : List Float → List Float → ℕ → ℕ → Complex32
divided_at v d at l = over_of (pair_at 128 v at) (get_or d l nan)
