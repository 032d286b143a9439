-- The step from its parts, and the ranges that it keeps. Assumes nothing.
use Rattle.std.specs.Prelude.{◌≡◌, refl, ℕ, Bool, true, false, List, length, Float, Option}
use Rattle.std.proofs.Common.{ap, sym, ◌∙◌, subst}
use Rattle.laws.specs.Branches.{cond_then, cond_no}
use Rattle.laws.specs.Places.{length_upto}
use Rattle.complex.specs.declared.Complex32.{Complex32}
use Rattle.complex.specs.Planes.{Planes}
use Rattle.least_squares.specs.Lanes.{inverses_of}
use Rattle.lane_sums.specs.LaneLaws.{pairs_length}
use Rattle.drift_tracker.specs.Drift.{Memory, advanced_of, drifts_of, laid_out, followed_of}
use Rattle.sequence.specs.declared.step.DetectorPlace.{DetectorPlace}
use Rattle.sequence.specs.Ranges as Sequence
use Rattle.sequence.specs.Sequence.{Stepped, stepped_of}
use Rattle.sequence.specs.Steps.{stepped_kept}
use Rattle.drift_detector.specs.Detector.{channels_for, ready_of, DetectorStep, detected_with, detected_of}
use Rattle.drift_detector.specs.Ranges.{Sized, RangedAfter}
use Rattle.answers.specs.declared.soft.Soft.{Soft}

-- the channels before the step
pub ready_yes : (c : Planes) (drift : List Float) (reliable : Bool) (after : Planes) → reliable ≡ true → after ≡ advanced_of c drift → after ≡ channels_for c drift reliable
unfolding channels_for
ready_yes c drift reliable after t e = cond_then reliable (advanced_of c drift) c after t e

pub ready_no : (c : Planes) (drift : List Float) (reliable : Bool) → reliable ≡ false → c ≡ channels_for c drift reliable
unfolding channels_for
ready_no c drift reliable t = cond_no reliable (advanced_of c drift) c c t refl

ready_sizes : (c : Planes) (drift : List Float) (reliable : Bool) → length c.real ≡ 256 → length c.imaginary ≡ 256
    → (length (channels_for c drift reliable).real ≡ 256) × (length (channels_for c drift reliable).imaginary ≡ 256)
unfolding channels_for advanced_of
ready_sizes c drift true r i = (length_upto _ 256, length_upto _ 256)
ready_sizes c drift false r i = (r, i)

pub ready_real : (c : Planes) (drift : List Float) (reliable : Bool) (after : Planes) → after ≡ channels_for c drift reliable → length c.real ≡ 256 → length c.imaginary ≡ 256 → length after.real ≡ 256
ready_real c drift reliable after e r i = ap (λ (p : Planes). length p.real) e ∙ (ready_sizes c drift reliable r i).0

pub ready_imaginary : (c : Planes) (drift : List Float) (reliable : Bool) (after : Planes) → after ≡ channels_for c drift reliable → length c.real ≡ 256 → length c.imaginary ≡ 256 → length after.imaginary ≡ 256
ready_imaginary c drift reliable after e r i = ap (λ (p : Planes). length p.imaginary) e ∙ (ready_sizes c drift reliable r i).1

-- lengths
pub followed_sized : (m : Memory) (row : List ℕ) (predictions : Planes) (input : Complex32) (reliable : Bool) → Sized (followed_of m row predictions input reliable)
unfolding followed_of laid_out drifts_of inverses_of
followed_sized m row predictions input reliable = record { real_size = length_upto _ 256; imaginary_size = length_upto _ 256; drift_size = pairs_length 256 _; inverse_size = pairs_length 4096 _ }

-- ADMITTED IN, ADMITTED OUT
pub detected_ranged : (d : DetectorPlace) (input : Complex32) (reliable : Bool) (oldest : Option Soft) (m : Memory) (costs : List Float) (parents : List ℕ)
    → Sequence.Ranged d costs parents → RangedAfter (detected_of d input reliable oldest m costs parents)
unfolding detected_of detected_with
detected_ranged d input reliable oldest m costs parents h = record {
  skeleton = (stepped_kept d input reliable oldest (ready_of m reliable).channels costs parents h).0;
  memory = followed_sized (ready_of m reliable) _ _ input reliable;
}

pub step_meets : (d : DetectorPlace) (input : Complex32) (reliable : Bool) (oldest : Option Soft) (m : Memory) (costs : List Float) (parents : List ℕ) (c : Planes) (s : Stepped) (after : Memory)
    → c ≡ channels_for m.channels m.drift reliable
    → s ≡ stepped_of d input reliable oldest c costs parents
    → after ≡ followed_of (record { channels = c; drift = m.drift; inverse = m.inverse }) s.row s.predictions input reliable
    → Sequence.Ranged d costs parents
    → (◌≡◌ {A = DetectorStep} (record { detected = s.detected; memory = after; costs = s.costs; parents = s.parents }) (detected_of d input reliable oldest m costs parents))
    × RangedAfter (record { detected = s.detected; memory = after; costs = s.costs; parents = s.parents })
step_meets d input reliable oldest m costs parents c s after ec es ea h = (same, subst RangedAfter (sym same) (detected_ranged d input reliable oldest m costs parents h))
  where
    same : ◌≡◌ {A = DetectorStep} (record { detected = s.detected; memory = after; costs = s.costs; parents = s.parents }) (detected_of d input reliable oldest m costs parents)
    same = unfold detected_of in unfold detected_with in rw (ea, es, ec)
