-- The detector with the first tracker: a step of the skeleton with the channels as they stand, and the channels that follow. Definitions only.
use Rattle.std.specs.Prelude.{ℕ, Bool, List, replicate, Float, Option}
use Rattle.numbers.specs.Constants.{zero32}
use Rattle.complex.specs.declared.Complex32.{Complex32}
use Rattle.complex.specs.Planes.{Planes}
use Rattle.lms_tracker.specs.Tracker.{followed_of}
use Rattle.sequence.specs.declared.step.DetectorPlace.{DetectorPlace}
use Rattle.sequence.specs.declared.step.Detected.{Detected}
use Rattle.sequence.specs.Sequence.{fresh_real, Stepped, stepped_of}
use Rattle.sequence.specs.Tracked.{Tracker, Detector, fresh_with}
use Rattle.answers.specs.declared.soft.Soft.{Soft}

-- what a step leaves
pub record DetectorStep : Type 0 where
  pub detected : Detected
  pub channels : Planes
  pub costs : List Float
  pub parents : List ℕ

-- the channels follow by each state's parent and prediction
unfoldable pub detected_with : Complex32 → Bool → Planes → Stepped → DetectorStep
detected_with input reliable channels s = record {
  detected = s.detected;
  channels = followed_of channels s.row s.predictions input reliable;
  costs = s.costs;
  parents = s.parents;
}

unfoldable pub detected_of : DetectorPlace → Complex32 → Bool → Option Soft → Planes → List Float → List ℕ → DetectorStep
detected_of d input reliable oldest channels costs parents = detected_with input reliable channels (stepped_of d input reliable oldest channels costs parents)

-- ---- over many inputs

-- its memory is the channels, which a step takes as they stand
abbrev pub lms_tracker : Tracker Planes
lms_tracker = record { channels = λ c i. c; follow = λ c row predictions i. followed_of c row predictions i.value i.reliable }

unfoldable pub fresh_channels : Planes
fresh_channels = record { real = fresh_real; imaginary = replicate 256 zero32 }

abbrev pub fresh_detector : Detector Planes
fresh_detector = fresh_with fresh_channels
