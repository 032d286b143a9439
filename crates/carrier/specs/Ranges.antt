-- The ranges of a carrier's place. Definitions only.
use Rattle.std.specs.Prelude.{◌≤◌}
use Rattle.sequence.specs.Ranges as Sequence
use Rattle.carrier.specs.declared.CarrierPlace.{CarrierPlace}

pub record PlaceRanged (c : CarrierPlace) : Type 0 where
  pub alternation : c.turn.alternation ≤ 7
  pub detector : Sequence.PlaceRanged c.detector
