-- The step from its parts, and the ranges that it keeps. Assumes nothing.
use Rattle.std.specs.Prelude.{◌≡◌, ℕ, Bool, List, Float, Option}
use Rattle.std.proofs.Math.Path.{ap}
use Rattle.std.proofs.Common.{sym, ◌∙◌, subst}
use Rattle.complex.specs.declared.Complex32.{Complex32}
use Rattle.drift_tracker.specs.Drift.{Memory}
use Rattle.sequence.specs.Ranges as Sequence
use Rattle.carrier.specs.declared.CarrierPlace.{CarrierPlace}
use Rattle.carrier.specs.declared.Carried.{Carried}
use Rattle.carrier.specs.Carrier.{corrected_of, carried_with}
use Rattle.carrier.specs.Laws.{alternation_below}
use Rattle.drift_detector.specs.Detector as Detector
use Rattle.drift_detector.specs.Laws.{detected_ranged}
use Rattle.drift_carrier.specs.Carrier.{CarrierStep, carried_from, carried_of}
use Rattle.drift_carrier.specs.Ranges.{RangedAfter}
use Rattle.answers.specs.declared.soft.Soft.{Soft}

-- ADMITTED IN, ADMITTED OUT: whatever the memory was, what the step leaves is whole
pub carried_ranged : (c : CarrierPlace) (z : Complex32) (reliable : Bool) (oldest : Option Soft) (memory : Memory) (costs : List Float) (parents : List ℕ)
    → Sequence.Ranged c.detector costs parents → RangedAfter (carried_of c z reliable oldest memory costs parents)
unfolding carried_of
carried_ranged c z reliable oldest memory costs parents h = record {
  alternation = alternation_below c.turn _ _ reliable;
  detector = detected_ranged c.detector (corrected_of c.turn z) reliable oldest memory costs parents h;
}

pub step_meets : (c : CarrierPlace) (z input : Complex32) (reliable : Bool) (oldest : Option Soft) (memory : Memory) (costs : List Float) (parents : List ℕ) (d : Detector.DetectorStep) (r : Carried)
    → input ≡ corrected_of c.turn z → d ≡ Detector.detected_of c.detector input reliable oldest memory costs parents
    → r ≡ carried_with c.turn d.detected reliable
    → Sequence.Ranged c.detector costs parents
    → (◌≡◌ {A = CarrierStep} (record { carried = r; memory = d.memory; costs = d.costs; parents = d.parents }) (carried_of c z reliable oldest memory costs parents))
    × RangedAfter (record { carried = r; memory = d.memory; costs = d.costs; parents = d.parents })
step_meets c z input reliable oldest memory costs parents d r is_input is_d is_r h = (same, subst RangedAfter (sym same) (carried_ranged c z reliable oldest memory costs parents h))
  where
    same : ◌≡◌ {A = CarrierStep} (record { carried = r; memory = d.memory; costs = d.costs; parents = d.parents }) (carried_of c z reliable oldest memory costs parents)
    same = unfold carried_of in rw is_r (ap (carried_from c reliable) (is_d ∙ ap (λ (x : Complex32). Detector.detected_of c.detector x reliable oldest memory costs parents) is_input))
