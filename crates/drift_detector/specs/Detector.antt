-- The detector with the second tracker: where the input is reliable the taps go on by their drift, then a step of the skeleton with the channels as they stand,
-- and the memory that follows. Definitions only.
use Rattle.std.specs.Prelude.{ℕ, Bool, cond, List, replicate, Float, Option}
use Rattle.numbers.specs.Constants.{zero32}
use Rattle.complex.specs.declared.Complex32.{Complex32}
use Rattle.complex.specs.Planes.{Planes}
use Rattle.least_squares.specs.Lanes.{inverses_of}
use Rattle.least_squares.specs.LeastSquares.{prior_of}
use Rattle.drift_tracker.specs.Drift.{Memory, advanced_of, followed_of}
use Rattle.sequence.specs.declared.step.DetectorPlace.{DetectorPlace}
use Rattle.sequence.specs.declared.step.Detected.{Detected}
use Rattle.sequence.specs.Sequence.{fresh_real, Stepped, stepped_of}
use Rattle.sequence.specs.Tracked.{Tracker, Detector, fresh_with}
use Rattle.answers.specs.declared.soft.Soft.{Soft}

-- the channels that a step is made with
unfoldable pub channels_for : Planes → List Float → Bool → Planes
channels_for c drift reliable = cond reliable (advanced_of c drift) c

abbrev pub ready_of : Memory → Bool → Memory
ready_of m reliable = record { channels = channels_for m.channels m.drift reliable; drift = m.drift; inverse = m.inverse }

-- what a step leaves
pub record DetectorStep : Type 0 where
  pub detected : Detected
  pub memory : Memory
  pub costs : List Float
  pub parents : List ℕ

-- the memory follows by each state's parent and prediction
unfoldable pub detected_with : Complex32 → Bool → Memory → Stepped → DetectorStep
detected_with input reliable ready s = record {
  detected = s.detected;
  memory = followed_of ready s.row s.predictions input reliable;
  costs = s.costs;
  parents = s.parents;
}

unfoldable pub detected_of : DetectorPlace → Complex32 → Bool → Option Soft → Memory → List Float → List ℕ → DetectorStep
detected_of d input reliable oldest memory costs parents =
    detected_with input reliable (ready_of memory reliable) (stepped_of d input reliable oldest (ready_of memory reliable).channels costs parents)

-- ---- over many inputs
abbrev pub drift_tracker : Tracker Memory
drift_tracker = record {
  channels = λ m i. (ready_of m i.reliable).channels;
  follow = λ m row predictions i. followed_of (ready_of m i.reliable) row predictions i.value i.reliable;
}

-- channels as the first tracker's, no drift, and inverses of an unknown channel
unfoldable pub fresh_memory : Memory
fresh_memory = record { channels = record { real = fresh_real; imaginary = replicate 256 zero32 }; drift = replicate 512 zero32; inverse = inverses_of (λ s. prior_of) }

abbrev pub fresh_detector : Detector Memory
fresh_detector = fresh_with fresh_memory
