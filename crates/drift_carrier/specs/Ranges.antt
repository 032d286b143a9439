-- The ranges of a carrier's place and the lengths of its detector's planes: what a step needs, and leaves. Definitions only.
use Rattle.std.specs.Prelude.{ℕ, ◌≤◌, List, Float}
use Rattle.drift_tracker.specs.Drift.{Memory}
use Rattle.carrier.specs.declared.CarrierPlace.{CarrierPlace}
use Rattle.drift_detector.specs.Ranges as Detector
use Rattle.drift_carrier.specs.Carrier.{CarrierStep}

pub record Ranged (c : CarrierPlace) (m : Memory) (costs : List Float) (parents : List ℕ) : Type 0 where
  pub alternation : c.turn.alternation ≤ 7
  pub detector : Detector.Ranged c.detector m costs parents

-- what a step leaves is in range
abbrev pub RangedAfter : CarrierStep → Type 0
RangedAfter r = Ranged r.carried.place r.memory r.costs r.parents
