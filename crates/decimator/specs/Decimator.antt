-- The decimator: the quantiser, three integrators for each sample and three combs at every d-th, and the scale of what comes out. Definitions only.
use Rattle.std.specs.Prelude.{◌≡◌, ℕ, ◌+◌, ◌-◌, ◌%◌, ◌^◌, ◌<◌, ◌≤◌, Bool, cond, ◌&&◌, List, [], ◌∷◌, ℤ, pos, from_bits, nat_le, nat_lt, Float, Option, Some, None}
use Rattle.std.specs.Float.{binary32, binary64}
use Rattle.std.specs.Float.Ieee.{of_int, to_signed, mul, div}
use Rattle.std.specs.Option.{option_map}
use Rattle.numbers.specs.Constants.{one64}
use Rattle.laws.specs.Modulo.{modulo}
use Rattle.complex.specs.declared.Complex32.{Complex32}
use Rattle.numbers.specs.Bits.{signed_of}
use Rattle.numbers.specs.Numbers.{convert}
use Rattle.whole.specs.Whole.{whole_of, away}
use Rattle.decimator.specs.declared.Stages.{Stages}
use Rattle.decimator.specs.declared.Parts.{Parts}
use Rattle.decimator.specs.declared.Counts.{Counts}
use Rattle.decimator.specs.declared.Decimator.{Decimator}
use Rattle.decimator.specs.declared.Difference.{Difference}
use Rattle.decimator.specs.declared.Release.{Release}
use Rattle.decimator.specs.declared.Decimated.{Decimated}
use Rattle.decimator.specs.declared.Advance.{Advance}
use Rattle.decimator.specs.declared.Step.{Step}

-- so many whole numbers from 0 to a part of 1
abbrev pub unit : Float
unit = from_bits binary64 0x40e0_0000_0000_0000  -- 32768

-- ---- the quantiser: a part times 32,768, a half away from zero, saturated at 64 bits; a NaN gives 0
unfoldable pub quantised_of : Float → ℤ
quantised_of x = to_signed 63 (whole_of away binary64 (mul binary64 x unit))

-- both parts of a sample
abbrev pub counts_of : Complex32 → Counts
counts_of z = record { real = quantised_of z.real; imaginary = quantised_of z.imaginary }

-- ---- sums and differences modulo 2 ^ 64

abbrev pub wrap_add : ℕ → ℕ → ℕ
wrap_add a b = (a + b) % 2 ^ 64

abbrev pub wrap_sub : ℕ → ℕ → ℕ
wrap_sub a b = (a + (2 ^ 64 - b)) % 2 ^ 64

-- ---- one part
unfoldable pub integrated_of : Stages → ℤ → Stages
integrated_of s n =
    let a = wrap_add s.first (modulo (2 ^ 64) n) in
    let b = wrap_add s.second a in
    record { first = a; second = b; third = wrap_add s.third b }

unfoldable pub combed_of : Stages → ℕ → Difference
combed_of y sum =
    let a = wrap_sub sum y.first in
    let b = wrap_sub a y.second in
    record { delays = record { first = sum; second = a; third = b }; value = signed_of (wrap_sub b y.third) }

-- ---- both parts and their counter

-- nothing has come in
unfoldable pub fresh_of : ℕ → Decimator
fresh_of d =
    let none : Stages = record { first = 0; second = 0; third = 0 } in
    record { decimation = d; counter = 0; integrators = record { real = none; imaginary = none }; combs = record { real = none; imaginary = none } }

-- may this decimator be run: one output for 1 to 78 samples, and fewer than that since the last output
abbrev pub admitted_of : Decimator → Bool
admitted_of d = nat_le 1 d.decimation && (nat_le d.decimation 78 && nat_lt d.counter d.decimation)

-- the same as facts
pub record Admitted (d : Decimator) : Type 0 where
  pub decimation_low : 1 ≤ d.decimation
  pub decimation_high : d.decimation ≤ 78
  pub counter_in : d.counter < d.decimation

-- a decimator by n, with fewer samples than that since the last output
pub record Counting (n : ℕ) (d : Decimator) : Type 0 where
  pub by : d.decimation ≡ n
  pub early : d.counter < n

abbrev pub absorbed_of : Parts → Counts → Parts
absorbed_of s n = record { real = integrated_of s.real n.real; imaginary = integrated_of s.imaginary n.imaginary }

-- a sample that is not the d-th, and one that is: the combs' sums, and the counter at 0 again
abbrev pub silent_of : Decimator → Parts → Advance
silent_of d s = record { decimator = record { decimation = d.decimation; counter = d.counter + 1; integrators = s; combs = d.combs }; raw = None }

abbrev pub released_of : Decimator → Parts → Release
released_of d s =
    let a = combed_of d.combs.real s.real.third in
    let b = combed_of d.combs.imaginary s.imaginary.third in
    record {
      decimator = record { decimation = d.decimation; counter = 0; integrators = s; combs = record { real = a.delays; imaginary = b.delays } };
      sum = record { real = a.value; imaginary = b.value };
    }

abbrev pub sounded_of : Decimator → Parts → Advance
sounded_of d s = record { decimator = (released_of d s).decimator; raw = Some (released_of d s).sum }

unfoldable pub advanced_of : Decimator → Counts → Advance
advanced_of d n =
    let s = absorbed_of d.integrators n in
    cond (nat_lt (d.counter + 1) d.decimation) (silent_of d s) (sounded_of d s)

-- the raw outputs of a row of samples, one for each
unfoldable pub raw_outputs_of : Decimator → List Counts → List (Option Counts)
unfolding advanced_of
raw_outputs_of d [] = []
raw_outputs_of d (n ∷ ns) = (advanced_of d n).raw ∷ raw_outputs_of (advanced_of d n).decimator ns

-- ---- from floats to floats

-- 1 / (32768 d d d)
unfoldable pub scale_of : ℕ → Float
scale_of d =
    let x = of_int binary64 (pos d) in
    div binary64 one64 (mul binary64 (mul binary64 (mul binary64 unit x) x) x)

abbrev pub scaled_of : ℕ → Counts → Complex32
scaled_of d n = record {
  real = convert binary32 (mul binary64 (of_int binary64 n.real) (scale_of d));
  imaginary = convert binary32 (mul binary64 (of_int binary64 n.imaginary) (scale_of d));
}

abbrev pub decimated_of : Decimator → Parts → Decimated
decimated_of d s = record { decimator = (released_of d s).decimator; value = scaled_of d.decimation (released_of d s).sum }

unfoldable pub output_of : ℕ → Option Counts → Option Complex32
output_of d raw = option_map (scaled_of d) raw

-- d = 1 passes floats through
unfoldable pub stepped_of : Decimator → Complex32 → Step
stepped_of d z =
    let a = advanced_of d (counts_of z) in
    cond (nat_lt 1 d.decimation) (record { decimator = a.decimator; output = output_of d.decimation a.raw }) (record { decimator = d; output = Some z })

-- the outputs of a row of samples, one for each
unfoldable pub outputs_of : Decimator → List Complex32 → List (Option Complex32)
unfolding stepped_of
outputs_of d [] = []
outputs_of d (z ∷ zs) = (stepped_of d z).output ∷ outputs_of (stepped_of d z).decimator zs
