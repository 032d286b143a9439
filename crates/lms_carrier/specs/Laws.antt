-- The step from its parts, and the ranges that it keeps. Assumes nothing.
use Rattle.std.specs.Prelude.{◌≡◌, ℕ, Bool, List, Float, Option}
use Rattle.std.proofs.Math.Path.{ap}
use Rattle.std.proofs.Common.{sym, ◌∙◌, subst}
use Rattle.complex.specs.declared.Complex32.{Complex32}
use Rattle.complex.specs.Planes.{Planes}
use Rattle.carrier.specs.declared.CarrierPlace.{CarrierPlace}
use Rattle.carrier.specs.declared.Carried.{Carried}
use Rattle.carrier.specs.Carrier.{corrected_of, carried_with}
use Rattle.carrier.specs.Laws.{alternation_below}
use Rattle.lms_detector.specs.Detector as Detector
use Rattle.lms_detector.specs.Laws.{detected_ranged}
use Rattle.lms_carrier.specs.Carrier.{CarrierStep, carried_from, carried_of}
use Rattle.lms_carrier.specs.Ranges.{Ranged, RangedAfter}
use Rattle.answers.specs.declared.soft.Soft.{Soft}

-- ADMITTED IN, ADMITTED OUT
pub carried_ranged : (c : CarrierPlace) (z : Complex32) (reliable : Bool) (oldest : Option Soft) (channels : Planes) (costs : List Float) (parents : List ℕ)
    → Ranged c channels.real channels.imaginary costs parents → RangedAfter (carried_of c z reliable oldest channels costs parents)
unfolding carried_of
carried_ranged c z reliable oldest channels costs parents h = record {
  alternation = alternation_below c.turn _ _ reliable;
  detector = detected_ranged c.detector (corrected_of c.turn z) reliable oldest channels costs parents h.detector;
}

pub step_meets : (c : CarrierPlace) (z input : Complex32) (reliable : Bool) (oldest : Option Soft) (channels : Planes) (costs : List Float) (parents : List ℕ) (d : Detector.DetectorStep) (r : Carried)
    → input ≡ corrected_of c.turn z → d ≡ Detector.detected_of c.detector input reliable oldest channels costs parents
    → r ≡ carried_with c.turn d.detected reliable
    → Ranged c channels.real channels.imaginary costs parents
    → (◌≡◌ {A = CarrierStep} (record { carried = r; channels = d.channels; costs = d.costs; parents = d.parents }) (carried_of c z reliable oldest channels costs parents))
    × Ranged r.place d.channels.real d.channels.imaginary d.costs d.parents
step_meets c z input reliable oldest channels costs parents d r is_input is_d is_r h = (same, subst RangedAfter (sym same) (carried_ranged c z reliable oldest channels costs parents h))
  where
    same : ◌≡◌ {A = CarrierStep} (record { carried = r; channels = d.channels; costs = d.costs; parents = d.parents }) (carried_of c z reliable oldest channels costs parents)
    same = unfold carried_of in rw is_r (ap (carried_from c reliable) (is_d ∙ ap (λ (x : Complex32). Detector.detected_of c.detector x reliable oldest channels costs parents) is_input))
