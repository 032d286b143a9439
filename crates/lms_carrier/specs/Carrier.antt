-- The carrier around the detector with the first tracker: a symbol is corrected, and the detector takes its step with it. Definitions only.
use Rattle.std.specs.Prelude.{ℕ, Bool, List, Float, Option}
use Rattle.complex.specs.declared.Complex32.{Complex32}
use Rattle.complex.specs.Planes.{Planes}
use Rattle.carrier.specs.declared.CarrierPlace.{CarrierPlace}
use Rattle.carrier.specs.declared.Carried.{Carried}
use Rattle.carrier.specs.Carrier.{corrected_of, carried_with}
use Rattle.lms_detector.specs.Detector as Detector
use Rattle.answers.specs.declared.soft.Soft.{Soft}

-- what a step leaves
pub record CarrierStep : Type 0 where
  pub carried : Carried
  pub channels : Planes
  pub costs : List Float
  pub parents : List ℕ

-- the loop follows the detector's step
abbrev pub carried_from : CarrierPlace → Bool → Detector.DetectorStep → CarrierStep
carried_from c reliable d = record { carried = carried_with c.turn d.detected reliable; channels = d.channels; costs = d.costs; parents = d.parents }

-- the symbol is corrected, and the detector takes its step
unfoldable pub carried_of : CarrierPlace → Complex32 → Bool → Option Soft → Planes → List Float → List ℕ → CarrierStep
carried_of c z reliable oldest channels costs parents =
    carried_from c reliable (Detector.detected_of c.detector (corrected_of c.turn z) reliable oldest channels costs parents)
