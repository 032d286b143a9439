-- The ranges of the skeleton and the lengths of the channels: what a step needs, and leaves. Definitions only.
use Rattle.std.specs.Prelude.{◌≡◌, ℕ, List, length, Float}
use Rattle.complex.specs.Planes.{Planes}
use Rattle.sequence.specs.declared.step.DetectorPlace.{DetectorPlace}
use Rattle.sequence.specs.Ranges as Sequence
use Rattle.sequence.specs.Tracked.{Detector}
use Rattle.lms_detector.specs.Detector.{DetectorStep}

pub record Ranged (d : DetectorPlace) (real imaginary costs : List Float) (parents : List ℕ) : Type 0 where
  pub skeleton : Sequence.Ranged d costs parents
  pub real_size : length real ≡ 256
  pub imaginary_size : length imaginary ≡ 256

-- what a step leaves is in range
abbrev pub RangedAfter : DetectorStep → Type 0
RangedAfter r = Ranged r.detected.place r.channels.real r.channels.imaginary r.costs r.parents

-- a detector in range, with 32 records
pub record Sound (d : Detector Planes) : Type 0 where
  pub skeleton : Sequence.Sound d.skeleton
  pub real_size : length d.memory.real ≡ 256
  pub imaginary_size : length d.memory.imaginary ≡ 256
