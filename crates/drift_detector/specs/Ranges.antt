-- The ranges of the skeleton and the lengths of the memory: what a step needs, and leaves. Definitions only.
use Rattle.std.specs.Prelude.{◌≡◌, ℕ, List, length, Float}
use Rattle.sequence.specs.declared.step.DetectorPlace.{DetectorPlace}
use Rattle.sequence.specs.Ranges as Sequence
use Rattle.sequence.specs.Tracked.{Detector}
use Rattle.drift_tracker.specs.Drift.{Memory}
use Rattle.drift_detector.specs.Detector.{DetectorStep}

-- the lengths of a memory
pub record Sized (m : Memory) : Type 0 where
  pub real_size : length m.channels.real ≡ 256
  pub imaginary_size : length m.channels.imaginary ≡ 256
  pub drift_size : length m.drift ≡ 512
  pub inverse_size : length m.inverse ≡ 8192

pub record Ranged (d : DetectorPlace) (m : Memory) (costs : List Float) (parents : List ℕ) : Type 0 where
  pub skeleton : Sequence.Ranged d costs parents
  pub memory : Sized m

-- what a step leaves is in range
abbrev pub RangedAfter : DetectorStep → Type 0
RangedAfter r = Ranged r.detected.place r.memory r.costs r.parents

-- a detector in range, with 32 records
pub record Sound (d : Detector Memory) : Type 0 where
  pub skeleton : Sequence.Sound d.skeleton
  pub memory : Sized d.memory
