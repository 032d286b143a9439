-- The ranges of a detector's places, and the lengths of its planes: what a step needs, and leaves. Definitions only.
use Rattle.std.specs.Prelude.{◌≡◌, ℕ, ◌<◌, ◌≤◌, List, length, Float}
use Rattle.channels.specs.Channels.{Parents}
use Rattle.sequence.specs.declared.step.DetectorPlace.{DetectorPlace}
use Rattle.answers.specs.Walk.{Table, Earlier}
use Rattle.sequence.specs.Sequence.{Stepped}
use Rattle.sequence.specs.Skeleton.{Skeleton}

pub record PlaceRanged (d : DetectorPlace) : Type 0 where
  pub write : d.write < 32
  pub filled : d.filled ≤ 32
  pub earlier : Earlier d.previous

pub record Ranged (d : DetectorPlace) (costs : List Float) (parents : List ℕ) : Type 0 where
  pub place : PlaceRanged d
  pub table : Table parents
  pub costs_size : length costs ≡ 64
  pub parents_size : length parents ≡ 2048

-- the room for a step's parents and predictions, one for each state
pub record Roomy (row : List ℕ) (real imaginary : List Float) : Type 0 where
  pub row_size : length row ≡ 64
  pub real_size : length real ≡ 64
  pub imaginary_size : length imaginary ≡ 64

-- what a step leaves is in range, and each parent that it found is a state
abbrev pub RangedAfter : Stepped → Type 0
RangedAfter s = Ranged s.detected.place s.costs s.parents × Parents s.row

-- a skeleton in range, with 32 records
pub record Sound (d : Skeleton) : Type 0 where
  pub ranged : Ranged d.place d.costs d.parents
  pub slots : length d.records.slots ≡ 32
