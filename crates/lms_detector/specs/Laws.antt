-- The step from its parts, and the ranges that it keeps. Assumes nothing.
use Rattle.std.specs.Prelude.{◌≡◌, ℕ, Bool, List, Float, Option}
use Rattle.std.proofs.Common.{ap, sym, subst}
use Rattle.laws.specs.Places.{length_upto}
use Rattle.complex.specs.declared.Complex32.{Complex32}
use Rattle.complex.specs.Planes.{Planes}
use Rattle.channels.specs.Channels.{laid_out}
use Rattle.lms_tracker.specs.Tracker.{followed_of}
use Rattle.sequence.specs.declared.step.DetectorPlace.{DetectorPlace}
use Rattle.sequence.specs.Sequence.{Stepped, stepped_of}
use Rattle.sequence.specs.Steps.{stepped_kept}
use Rattle.lms_detector.specs.Detector.{DetectorStep, detected_with, detected_of}
use Rattle.lms_detector.specs.Ranges.{Ranged, RangedAfter}
use Rattle.answers.specs.declared.soft.Soft.{Soft}

-- ADMITTED IN, ADMITTED OUT
pub detected_ranged : (d : DetectorPlace) (input : Complex32) (reliable : Bool) (oldest : Option Soft) (c : Planes) (costs : List Float) (parents : List ℕ)
    → Ranged d c.real c.imaginary costs parents → RangedAfter (detected_of d input reliable oldest c costs parents)
unfolding detected_of detected_with followed_of laid_out
detected_ranged d input reliable oldest c costs parents h = record {
  skeleton = (stepped_kept d input reliable oldest c costs parents h.skeleton).0;
  real_size = length_upto _ 256;
  imaginary_size = length_upto _ 256;
}

pub step_meets : (d : DetectorPlace) (input : Complex32) (reliable : Bool) (oldest : Option Soft) (c : Planes) (costs : List Float) (parents : List ℕ) (s : Stepped) (next : Planes)
    → s ≡ stepped_of d input reliable oldest c costs parents
    → next ≡ followed_of c s.row s.predictions input reliable
    → Ranged d c.real c.imaginary costs parents
    → (◌≡◌ {A = DetectorStep} (record { detected = s.detected; channels = next; costs = s.costs; parents = s.parents }) (detected_of d input reliable oldest c costs parents))
    × Ranged s.detected.place next.real next.imaginary s.costs s.parents
step_meets d input reliable oldest c costs parents s next es en h = (same, subst RangedAfter (sym same) (detected_ranged d input reliable oldest c costs parents h))
  where
    same : ◌≡◌ {A = DetectorStep} (record { detected = s.detected; channels = next; costs = s.costs; parents = s.parents }) (detected_of d input reliable oldest c costs parents)
    same = unfold detected_of in unfold detected_with in rw en (ap (detected_with input reliable c) es)
