-- The worked examples P9 and P10 (docs/SPECIFICATION.md): one table, and one proof that the definitions give it. Assumes nothing.
use Rattle.std.specs.Prelude.{◌≡◌, ℕ, List, [], ◌∷◌, refl, Float}
use Rattle.std.specs.Float.{binary64}
use Rattle.std.specs.Float.Ieee.{of_bits, of_int, mul, div, to_unsigned}
use Rattle.whole.specs.Whole.{whole_of}
use Rattle.resampler.specs.Dimensions.{decimation_of, decimated_of, arm_length_of}

-- a rate, its d and its c
pub record Case : Type 0 where
  pub rate : Float
  pub decimation : ℕ
  pub arm : ℕ

abbrev pub Holds : Case → Type 0
Holds c = (decimation_of c.rate ≡ c.decimation) × (arm_length_of (decimated_of c.rate) ≡ c.arm)

abbrev pub All : List Case → Type 0
All [] = Unit {0}
All (c ∷ cs) = Holds c × All cs

abbrev pub p9_rate : Float
p9_rate = of_bits binary64 0x4117_7000_0000_0000  -- 384000

abbrev pub p10_rate : Float
p10_rate = of_bits binary64 0x4173_12d0_0000_0000  -- 20000000

abbrev pub table : List Case
table = record { rate = p9_rate; decimation = 2; arm = 288 } ∷ record { rate = p10_rate; decimation = 78; arm = 385 } ∷ []

pub covered : All table
unfolding decimation_of decimated_of arm_length_of whole_of mul div of_int of_bits to_unsigned
covered = ((refl, refl), ((refl, refl), tt))
