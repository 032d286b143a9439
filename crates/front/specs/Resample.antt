-- What the resampler makes of an output of the decimator, and of a row of samples through both from fresh. Definitions only.
use Rattle.std.specs.Prelude.{List, [], ◌∷◌, Float, Option, Some, None}
use Rattle.complex.specs.declared.Complex32.{Complex32}
use Rattle.decimator.specs.Decimator.{outputs_of}
use Rattle.decimator.specs.Decimator.{fresh_of as fresh_decimator}
use Rattle.resampler.specs.declared.dimensions.Dimensions.{Dimensions}
use Rattle.resampler.specs.declared.pass.Resampler.{Resampler}
use Rattle.resampler.specs.Dimensions.{fresh_of}
use Rattle.resampler.specs.Pass.{resampled_of, values_of}

-- a resampler and both planes of its ring
pub record ResamplerState : Type 0 where
  pub resampler : Resampler
  pub real : List Float
  pub imaginary : List Float

-- the resampler after an output of the decimator: a decimated value, or none
unfoldable pub resample_state : List Float → ResamplerState → Option Complex32 → ResamplerState
resample_state table h None = h
resample_state table h (Some v) =
    let s = resampled_of h.resampler v table h.real h.imaginary in
    record { resampler = s.passed.resampler; real = s.real; imaginary = s.imaginary }

-- and the values that it makes due
unfoldable pub resample_values : List Float → ResamplerState → Option Complex32 → List Complex32
resample_values table h None = []
resample_values table h (Some v) = values_of (resampled_of h.resampler v table h.real h.imaginary).passed

-- the values that each output of a row makes due
unfoldable pub resample_row : List Float → ResamplerState → List (Option Complex32) → List (List Complex32)
resample_row table h [] = []
resample_row table h (o ∷ os) = resample_values table h o ∷ resample_row table (resample_state table h o) os

-- the values that each sample of a row makes due, through both filters from fresh, with a ring as it stands
unfoldable pub filters_row : List Float → Dimensions → List Float → List Float → List Complex32 → List (List Complex32)
filters_row table s real imaginary zs = resample_row table (record { resampler = fresh_of s; real = real; imaginary = imaginary }) (outputs_of (fresh_decimator s.decimation) zs)
