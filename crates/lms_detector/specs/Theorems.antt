-- Theorems about the detector with the first tracker and any list of inputs, NaN included: each is the skeleton's, of the channels that the tracker makes.
-- Assumes nothing.
use Rattle.std.specs.Prelude.{◌≡◌, refl, ℕ, ◌%◌, ◌≤◌, ◌<◌, Bool, List, [], ◌∷◌, ◌++◌, length, get_or, replicate, None, Some}
use Rattle.std.proofs.lemmas.List.{length-replicate}
use Rattle.std.specs.Float.{nan}
use Rattle.laws.specs.Places.{length_upto}
use Rattle.laws.specs.FloatSums.{In}
use Rattle.numbers.specs.Constants.{zero32}
use Rattle.trellis.specs.Metric.{c0}
use Rattle.trellis.specs.Costs.{c48}
use Rattle.complex.specs.declared.Complex32.{Complex32}
use Rattle.complex.specs.Planes.{Planes}
use Rattle.channels.specs.Channels.{laid_out}
use Rattle.lms_tracker.specs.Tracker.{followed_of}
use Rattle.answers.specs.Walk.{zero_dibit, decided_of}
use Rattle.sequence.specs.Sequence.{fresh_real}
use Rattle.sequence.specs.Skeleton.{fresh_skeleton, oldest_of, put_of, made_by, made_at, history_of, traced}
use Rattle.sequence.specs.Ranges as Sequence
use Rattle.sequence.specs.History.{best_state}
use Rattle.sequence.specs.Theorems as Theorems
use Rattle.sequence.specs.Theorems.{Told}
use Rattle.sequence.specs.Tracked.{Input, Detector, step_of, answer_of, after_of, ran_of, answers_of, steps_of}
use Rattle.sequence.specs.TrackedLaws as Tracked
use Rattle.sequence.specs.TrackedLaws.{Unreliable}
use Rattle.lms_detector.specs.Detector.{DetectorStep, detected_with, detected_of, lms_tracker, fresh_channels, fresh_detector}
use Rattle.lms_detector.specs.Ranges.{Ranged, Sound}

-- ---- the code's step is the step of this detector
abbrev pub detection_of : Detector Planes → Input → DetectorStep
detection_of d i = detected_of d.skeleton.place i.value i.reliable (oldest_of d.skeleton) d.memory d.skeleton.costs d.skeleton.parents

pub step_is : (d : Detector Planes) (i : Input)
    → after_of lms_tracker d i
    ≡ record {
      skeleton = record {
        place = (detection_of d i).detected.place;
        costs = (detection_of d i).costs;
        parents = (detection_of d i).parents;
        records = put_of d.skeleton.records d.skeleton.place.write (detection_of d i).detected.soft;
      };
      memory = (detection_of d i).channels;
    }
unfolding detected_of detected_with
step_is d i = refl

pub answer_is : (d : Detector Planes) (i : Input) → answer_of lms_tracker d i ≡ (detection_of d i).detected.answer
unfolding detected_of detected_with
answer_is d i = refl

-- ---- ranges
module _ (c : Planes) (row : List ℕ) (predictions : Planes) (input : Complex32) (reliable : Bool) where
  followed_real : length (followed_of c row predictions input reliable).real ≡ 256
  unfolding followed_of laid_out
  followed_real = length_upto _ 256

  followed_imaginary : length (followed_of c row predictions input reliable).imaginary ≡ 256
  unfolding followed_of laid_out
  followed_imaginary = length_upto _ 256

-- from any state in range, every list of inputs leaves one
pub ran_sound : (d : Detector Planes) (is : List Input) → Sound d → Sound (ran_of lms_tracker d is)
ran_sound d [] h = h
ran_sound d (i ∷ is) h = ran_sound (after_of lms_tracker d i) is (record {
  skeleton = Tracked.ran_sound lms_tracker d (i ∷ []) h.skeleton;
  real_size = followed_real d.memory _ _ i.value i.reliable;
  imaginary_size = followed_imaginary d.memory _ _ i.value i.reliable;
})

pub fresh_sound : Sound fresh_detector
unfolding fresh_channels fresh_real
fresh_sound = record { skeleton = Theorems.fresh_sound; real_size = length_upto _ 256; imaginary_size = length-replicate 256 zero32 }

pub fresh_ranged : Ranged fresh_skeleton.place fresh_channels.real fresh_channels.imaginary fresh_skeleton.costs fresh_skeleton.parents
fresh_ranged = record { skeleton = (Theorems.fresh_sound).ranged; real_size = fresh_sound.real_size; imaginary_size = fresh_sound.imaginary_size }

-- ---- what holds for every list of inputs

-- once 31 steps are made the next is decided by the 31 newest steps' parents and by the record of 31 steps before
pub answered : (d : Detector Planes) (is : List Input) (i : Input) → Sequence.Sound d.skeleton → 31 ≤ length is
    → answer_of lms_tracker (ran_of lms_tracker d is) i
    ≡ Some
    (decided_of
    (traced
    (made_by (ran_of lms_tracker d is).skeleton (step_of lms_tracker (ran_of lms_tracker d is) i) ∷ history_of d.skeleton [] (steps_of lms_tracker d is)) 31
    (best_state (ran_of lms_tracker d is).skeleton (step_of lms_tracker (ran_of lms_tracker d is) i)) % 4)
    (ran_of lms_tracker d is).skeleton.place.previous
    (made_at (history_of d.skeleton [] (steps_of lms_tracker d is)) 30).soft)
answered = Tracked.answered lms_tracker

-- each cost stays within 0 to 48
pub costs_within : (is : List Input) (s : ℕ) → s < 64 → In c0 c48 (get_or (ran_of lms_tracker fresh_detector is).skeleton.costs s nan)
costs_within = Tracked.costs_within lms_tracker fresh_channels

-- steps 1 to 31 are silent, step 32 gives dibit 0 with [0, 0], and each later step one dibit
module _ (is : List Input) (i : Input) where
  pub first_silent : length is < 31 → answer_of lms_tracker (ran_of lms_tracker fresh_detector is) i ≡ None
  first_silent = Tracked.first_silent lms_tracker fresh_channels is i

  pub then_zero : length is ≡ 31 → answer_of lms_tracker (ran_of lms_tracker fresh_detector is) i ≡ Some zero_dibit
  then_zero = Tracked.then_zero lms_tracker fresh_channels is i

  pub later_told : 32 ≤ length is → Told (answer_of lms_tracker (ran_of lms_tracker fresh_detector is) i)
  later_told = Tracked.later_told lms_tracker fresh_channels is i

-- CASE 14: of 40 unreliable steps of a fresh detector 31 are silent, and then come nine of dibit 0 with [0, 0]
pub case_14 : (is : List Input) → length is ≡ 40 → Unreliable is → answers_of lms_tracker fresh_detector is ≡ replicate 31 None ++ replicate 9 (Some zero_dibit)
case_14 = Tracked.case_14 lms_tracker fresh_channels
