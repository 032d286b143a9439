-- Theorems about the detector with the second tracker and any list of inputs, NaN included: each is the skeleton's, of the channels that the tracker makes.
-- Assumes nothing.
use Rattle.std.specs.Prelude.{◌≡◌, refl, ℕ, ◌%◌, ◌≤◌, ◌<◌, List, [], ◌∷◌, ◌++◌, length, get_or, replicate, None, Some}
use Rattle.std.proofs.lemmas.List.{length-replicate}
use Rattle.std.specs.Float.{nan}
use Rattle.laws.specs.Places.{length_upto}
use Rattle.laws.specs.FloatSums.{In}
use Rattle.numbers.specs.Constants.{zero32}
use Rattle.trellis.specs.Metric.{c0}
use Rattle.trellis.specs.Costs.{c48}
use Rattle.least_squares.specs.Lanes.{inverses_of}
use Rattle.lane_sums.specs.LaneLaws.{pairs_length}
use Rattle.drift_tracker.specs.Drift.{Memory}
use Rattle.answers.specs.Walk.{zero_dibit, decided_of}
use Rattle.sequence.specs.Sequence.{fresh_real}
use Rattle.sequence.specs.Skeleton.{fresh_skeleton, oldest_of, put_of, made_by, made_at, history_of, traced}
use Rattle.sequence.specs.Ranges as Sequence
use Rattle.sequence.specs.History.{best_state}
use Rattle.sequence.specs.Theorems as Theorems
use Rattle.sequence.specs.Theorems.{Told}
use Rattle.sequence.specs.Tracked.{Input, Detector, step_of, answer_of, after_of, ran_of, answers_of, steps_of}
use Rattle.sequence.specs.TrackedLaws as Tracked
use Rattle.sequence.specs.TrackedLaws.{Unreliable}
use Rattle.drift_detector.specs.Detector.{ready_of, DetectorStep, detected_with, detected_of, drift_tracker, fresh_memory, fresh_detector}
use Rattle.drift_detector.specs.Ranges.{Ranged, Sound}
use Rattle.drift_detector.specs.Laws as Laws

-- ---- the code's step is the step of this detector
abbrev pub detection_of : Detector Memory → Input → DetectorStep
detection_of d i = detected_of d.skeleton.place i.value i.reliable (oldest_of d.skeleton) d.memory d.skeleton.costs d.skeleton.parents

pub step_is : (d : Detector Memory) (i : Input)
    → after_of drift_tracker d i
    ≡ record {
      skeleton = record {
        place = (detection_of d i).detected.place;
        costs = (detection_of d i).costs;
        parents = (detection_of d i).parents;
        records = put_of d.skeleton.records d.skeleton.place.write (detection_of d i).detected.soft;
      };
      memory = (detection_of d i).memory;
    }
unfolding detected_of detected_with
step_is d i = refl

pub answer_is : (d : Detector Memory) (i : Input) → answer_of drift_tracker d i ≡ (detection_of d i).detected.answer
unfolding detected_of detected_with
answer_is d i = refl

-- ---- ranges
-- from any state in range, every list of inputs leaves one
pub ran_sound : (d : Detector Memory) (is : List Input) → Sound d → Sound (ran_of drift_tracker d is)
ran_sound d [] h = h
ran_sound d (i ∷ is) h = ran_sound (after_of drift_tracker d i) is (record {
  skeleton = Tracked.ran_sound drift_tracker d (i ∷ []) h.skeleton;
  memory = Laws.followed_sized (ready_of d.memory i.reliable) _ _ i.value i.reliable;
})

pub fresh_sound : Sound fresh_detector
unfolding fresh_memory fresh_real inverses_of
fresh_sound = record {
  skeleton = Theorems.fresh_sound;
  memory = record { real_size = length_upto _ 256; imaginary_size = length-replicate 256 zero32; drift_size = length-replicate 512 zero32; inverse_size = pairs_length 4096 _ };
}

pub fresh_ranged : Ranged fresh_skeleton.place fresh_memory fresh_skeleton.costs fresh_skeleton.parents
fresh_ranged = record { skeleton = (Theorems.fresh_sound).ranged; memory = fresh_sound.memory }

-- ---- what holds for every list of inputs

-- once 31 steps are made the next is decided by the 31 newest steps' parents and by the record of 31 steps before
pub answered : (d : Detector Memory) (is : List Input) (i : Input) → Sequence.Sound d.skeleton → 31 ≤ length is
    → answer_of drift_tracker (ran_of drift_tracker d is) i
    ≡ Some
    (decided_of
    (traced
    (made_by (ran_of drift_tracker d is).skeleton (step_of drift_tracker (ran_of drift_tracker d is) i) ∷ history_of d.skeleton [] (steps_of drift_tracker d is)) 31
    (best_state (ran_of drift_tracker d is).skeleton (step_of drift_tracker (ran_of drift_tracker d is) i)) % 4)
    (ran_of drift_tracker d is).skeleton.place.previous
    (made_at (history_of d.skeleton [] (steps_of drift_tracker d is)) 30).soft)
answered = Tracked.answered drift_tracker

-- each cost stays within 0 to 48
pub costs_within : (is : List Input) (s : ℕ) → s < 64 → In c0 c48 (get_or (ran_of drift_tracker fresh_detector is).skeleton.costs s nan)
costs_within = Tracked.costs_within drift_tracker fresh_memory

-- steps 1 to 31 are silent, step 32 gives dibit 0 with [0, 0], and each later step one dibit
module _ (is : List Input) (i : Input) where
  pub first_silent : length is < 31 → answer_of drift_tracker (ran_of drift_tracker fresh_detector is) i ≡ None
  first_silent = Tracked.first_silent drift_tracker fresh_memory is i

  pub then_zero : length is ≡ 31 → answer_of drift_tracker (ran_of drift_tracker fresh_detector is) i ≡ Some zero_dibit
  then_zero = Tracked.then_zero drift_tracker fresh_memory is i

  pub later_told : 32 ≤ length is → Told (answer_of drift_tracker (ran_of drift_tracker fresh_detector is) i)
  later_told = Tracked.later_told drift_tracker fresh_memory is i

-- CASE 14: of 40 unreliable steps of a fresh detector 31 are silent, and then come nine of dibit 0 with [0, 0]
pub case_14 : (is : List Input) → length is ≡ 40 → Unreliable is → answers_of drift_tracker fresh_detector is ≡ replicate 31 None ++ replicate 9 (Some zero_dibit)
case_14 = Tracked.case_14 drift_tracker fresh_memory
