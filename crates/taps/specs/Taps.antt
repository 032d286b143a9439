-- The matched filter's tables as lists of f32, and the rule by which the derivatives follow from the taps. Definitions only.
use mathlib.Core.List.{List, [], ◌∷◌, ◌++◌, map, foldl}
use Rattle.std.specs.Prelude.{Float}
use Rattle.std.specs.Float.{binary32}
use Rattle.std.specs.Float.Ieee.{of_bits, add, sub, mul, div}
use Rattle.numbers.specs.Numbers.{abs_of}
use Rattle.taps.specs.TapBits.{tap_bits}
use Rattle.taps.specs.declared.Tables.{Tables}

-- a root-raised-cosine of 128 taps a symbol and roll-off 0.2, scaled to the sum 32
unfoldable pub tap_table : List Float
tap_table = map (of_bits binary32) tap_bits

-- ---- the rule: the difference across each inner tap, times 32 over the sum of the sizes of all differences
unfoldable pub differences_of : List Float → List Float
unfolding sub
differences_of [] = []
differences_of (a ∷ []) = []
differences_of (a ∷ m ∷ []) = []
differences_of (a ∷ m ∷ b ∷ l) = sub binary32 b a ∷ differences_of (m ∷ b ∷ l)

unfoldable pub sizes_of : List Float → Float
unfolding add abs_of
sizes_of = foldl (λ (sum d : Float). add binary32 sum (abs_of d)) (of_bits binary32 0)

-- what the sizes of all derivatives add up to
abbrev pub size_sum : Float
size_sum = of_bits binary32 0x42000000  -- 32

unfoldable pub factor_of : List Float → Float
unfolding div
factor_of taps = div binary32 size_sum (sizes_of (differences_of taps))

-- the first and the last tap have no difference: a zero stands there, and is scaled with the rest
unfoldable pub derivatives_of : Float → List Float → List Float
unfolding mul
derivatives_of factor taps = map (λ (d : Float). mul binary32 d factor) (of_bits binary32 0 ∷ (differences_of taps ++ (of_bits binary32 0 ∷ [])))

unfoldable pub derivative_table : List Float
derivative_table = derivatives_of (factor_of tap_table) tap_table

unfoldable pub both_tables : Tables
both_tables = record { taps = tap_table; derivatives = derivative_table }
