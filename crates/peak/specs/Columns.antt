-- The peak by columns, as the code takes it: sixteen columns of four envelopes, then four of four, then one. Definitions only.
use Rattle.std.specs.Prelude.{ℕ, ◌+◌, ◌*◌, List, get_or, Float}
use Rattle.std.specs.Float.{nan, binary32}
use Rattle.std.specs.Float.Ieee.{of_bits}
use Rattle.laws.specs.Places.{upto}
use Rattle.peak.specs.Peak.{top_of}

-- the largest of four at steps of s from k, over a start
abbrev pub four_of : Float → List Float → ℕ → ℕ → Float
four_of start es s k = top_of (top_of (top_of (top_of start (get_or es k nan)) (get_or es (s + k) nan)) (get_or es (2 * s + k) nan)) (get_or es (3 * s + k) nan)

unfoldable pub column_of : List Float → ℕ → Float
unfolding top_of of_bits
column_of es k = four_of (of_bits binary32 0) es 16 k

unfoldable pub columns_of : List Float → List Float
unfolding upto column_of
columns_of es = upto (column_of es) 16

unfoldable pub quarter_of : List Float → ℕ → Float
unfolding top_of of_bits
quarter_of ps k = four_of (of_bits binary32 0) ps 4 k

unfoldable pub highest_of : List Float → Float
unfolding columns_of quarter_of top_of
highest_of es =
    let ps = columns_of es in
    top_of (top_of (quarter_of ps 0) (quarter_of ps 1)) (top_of (quarter_of ps 2) (quarter_of ps 3))
