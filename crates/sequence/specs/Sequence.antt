-- One step of the sequence detector with the channels that it is given: the trellis, the observation and the walk back. How the channels follow is a
-- tracker's. Definitions only.
use Rattle.std.specs.Prelude.{ℕ, ◌+◌, ◌%◌, Bool, cond, List, ltb, get_or, replicate, Float, None, Option}
use Rattle.std.specs.Float.{binary32}
use Rattle.std.specs.Float.Ieee.{of_bits}
use Rattle.laws.specs.Places.{upto}
use Rattle.numbers.specs.Constants.{zero32, one32}
use Rattle.routines.specs.Angle.{arctangent_of}
use Rattle.complex.specs.declared.Complex32.{Complex32}
use Rattle.complex.specs.Complex.{difference_of, conjugate_product_of, power_of}
use Rattle.complex.specs.Planes.{Planes, point_at}
use Rattle.channels.specs.Channels.{taps_of}
use Rattle.trellis.specs.Trellis.{Advance, advanced_of}
use Rattle.answers.specs.declared.soft.Soft.{Soft}
use Rattle.answers.specs.declared.combine.Seen.{Seen}
use Rattle.answers.specs.declared.soft.Records.{Records}
use Rattle.answers.specs.declared.walk.Walked.{Walked}
use Rattle.sequence.specs.declared.step.DetectorPlace.{DetectorPlace}
use Rattle.sequence.specs.declared.step.Detected.{Detected}
use Rattle.answers.specs.Observed.{observed_of, noise_after_of, record_of}
use Rattle.answers.specs.Walk.{stored_of, walked_of}

-- ---- a fresh detector

abbrev pub fresh_noise : Float
fresh_noise = of_bits binary32 0x3dcccccd  -- 0.1

abbrev pub fresh_place : DetectorPlace
fresh_place = record { write = 0; filled = 0; previous = None; combined = None; noise = fresh_noise }

-- the main tap of each state is 1, and all else is 0
abbrev pub fresh_tap : ℕ → Float
fresh_tap i = cond (ltb i 64) one32 zero32

unfoldable pub fresh_real : List Float
fresh_real = upto fresh_tap 256

unfoldable pub fresh_records : Records
fresh_records = record { slots = replicate 32 None }

-- ---- what the carrier is told: nothing of an unreliable input

-- the angle from the prediction to the input
unfoldable pub phase_between_of : Complex32 → Complex32 → Bool → Float
phase_between_of input prediction reliable = cond reliable (arctangent_of (conjugate_product_of input prediction).imaginary (conjugate_product_of input prediction).real) zero32

unfoldable pub power_told_of : Float → Bool → Float
power_told_of power reliable = cond reliable power one32

-- ---- the step

-- at most 32 steps are held
abbrev pub one_more_of : ℕ → ℕ
one_more_of filled = cond (ltb filled 32) (filled + 1) 32

-- from the walk back, the observation, and the residual's power and phase, with the noise after it
abbrev pub reported_with : DetectorPlace → Walked → Seen → Float → Float → Float → Detected
reported_with d walked seen noise phase power = record {
  place = record { write = (d.write + 1) % 32; filled = one_more_of d.filled; previous = walked.previous; combined = seen.combined; noise = noise };
  answer = walked.answer;
  soft = record_of seen.combined d.combined noise;
  equalized = seen.equalized;
  phase = phase;
  power = power;
}

unfoldable pub reported_of : DetectorPlace → Walked → Seen → Complex32 → Complex32 → Bool → Detected
reported_of d walked seen input prediction reliable =
    reported_with d walked seen
    (noise_after_of d.noise (power_of (difference_of input prediction)) reliable)
    (phase_between_of input prediction reliable)
    (power_told_of (power_of (difference_of input prediction)) reliable)

-- what a step leaves, with each state's parent and prediction at this step, which a tracker follows by
pub record Stepped : Type 0 where
  pub detected : Detected
  pub costs : List Float
  pub parents : List ℕ
  pub row : List ℕ
  pub predictions : Planes

-- the best state's parent: the survivor whose channel the observation is freed of
abbrev pub prior_of : Advance → ℕ
prior_of a = get_or a.parents a.best 0

-- what the trellis' step makes of the rest: the parents are stored, and the walk goes back from the best state
unfoldable pub stepped_with : DetectorPlace → Complex32 → Bool → Option Soft → Planes → List ℕ → Advance → Stepped
stepped_with d input reliable oldest channels parents a = record {
  detected =
      reported_of d
      (walked_of (stored_of parents d.write a.parents) d.write d.filled a.best d.previous oldest)
      (observed_of input reliable (taps_of channels (prior_of a)) (prior_of a))
      input (point_at a.predictions a.best) reliable;
  costs = a.costs;
  parents = stored_of parents d.write a.parents;
  row = a.parents;
  predictions = a.predictions;
}

unfoldable pub stepped_of : DetectorPlace → Complex32 → Bool → Option Soft → Planes → List Float → List ℕ → Stepped
stepped_of d input reliable oldest channels costs parents = stepped_with d input reliable oldest channels parents (advanced_of channels costs input reliable)
