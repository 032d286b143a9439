-- The numbers of a recording. Definitions only.
use Rattle.std.specs.Prelude.{ℕ, ◌*◌, List, take, drop, Float}
use Rattle.std.specs.Float.{binary32}
use Rattle.std.specs.Float.Ieee.{of_bits}
use Rattle.laws.specs.Places.{upto}
use Rattle.numbers.specs.Bits.{little_endian}

-- the number of the w bytes from place i on, the lowest first
unfoldable pub word_at : ℕ → List ℕ → ℕ → ℕ
word_at w source i = little_endian (take w (drop i source))

-- float k of a row of them, four bytes each
abbrev pub float_at : List ℕ → ℕ → Float
float_at source k = of_bits binary32 (word_at 4 source (4 * k))

-- the first n floats of a row
unfoldable pub floats_of : ℕ → List ℕ → List Float
floats_of n source = upto (float_at source) n
