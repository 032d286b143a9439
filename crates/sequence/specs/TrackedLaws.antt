-- THE DETECTOR WITH A TRACKER IS THE SKELETON over the channels that the tracker makes, whichever tracker it is; so what holds of the skeleton for every
-- list of steps holds of each detector for every list of inputs, NaN included. Assumes nothing.
use Rattle.std.specs.Prelude.{◌≡◌, refl, ℕ, suc, ◌%◌, ◌≤◌, ◌<◌, false, List, [], ◌∷◌, ◌++◌, length, get_or, replicate, Option, None, Some}
use Rattle.std.proofs.Common.{ap, sym, ◌∙◌, subst}
use Rattle.std.specs.Float.{nan}
use Rattle.laws.specs.FloatSums.{In}
use Rattle.trellis.specs.Metric.{c0}
use Rattle.trellis.specs.Costs.{c48}
use Rattle.answers.specs.declared.walk.Dibit.{Dibit}
use Rattle.answers.specs.Walk.{zero_dibit, decided_of}
use Rattle.sequence.specs.Skeleton as Skeleton
use Rattle.sequence.specs.Skeleton.{made_by, made_at, history_of, traced}
use Rattle.sequence.specs.Ranges.{Sound}
use Rattle.sequence.specs.History as History
use Rattle.sequence.specs.History.{best_state}
use Rattle.sequence.specs.Theorems as Theorems
use Rattle.sequence.specs.Theorems.{Told}
use Rattle.sequence.specs.Idle as Idle
use Rattle.sequence.specs.Tracked.{Input, Tracker, Detector, fresh_with, step_of, answer_of, after_of, ran_of, answers_of, steps_of}

abbrev pub Unreliable : List Input → Type 0
Unreliable [] = Unit
Unreliable (i ∷ is) = (i.reliable ≡ false) × Unreliable is

module _ {M : Type 0} (t : Tracker M) where
  -- ---- one law
  pub ran_is : (d : Detector M) (is : List Input) → (ran_of t d is).skeleton ≡ Skeleton.ran_of d.skeleton (steps_of t d is)
  ran_is d [] = refl
  ran_is d (i ∷ is) = ran_is (after_of t d i) is

  pub answers_are : (d : Detector M) (is : List Input) → answers_of t d is ≡ Skeleton.answers_of d.skeleton (steps_of t d is)
  answers_are d [] = refl
  answers_are d (i ∷ is) = ap (λ (rest : List (Option Dibit)). answer_of t d i ∷ rest) (answers_are (after_of t d i) is)

  pub steps_length : (d : Detector M) (is : List Input) → length (steps_of t d is) ≡ length is
  steps_length d [] = refl
  steps_length d (i ∷ is) = ap suc (steps_length (after_of t d i) is)

  -- the answer after a list of inputs
  pub answer_is : (d : Detector M) (is : List Input) (i : Input)
      → answer_of t (ran_of t d is) i ≡ Skeleton.answer_of (Skeleton.ran_of d.skeleton (steps_of t d is)) (step_of t (ran_of t d is) i)
  answer_is d is i = ap (λ (k : Skeleton.Skeleton). Skeleton.answer_of k (step_of t (ran_of t d is) i)) (ran_is d is)

  -- ---- and what follows of it
  pub ran_sound : (d : Detector M) (is : List Input) → Sound d.skeleton → Sound (ran_of t d is).skeleton
  ran_sound d is h = subst Sound (sym (ran_is d is)) (History.ran_sound d.skeleton (steps_of t d is) h)

  -- from any state in range, once 31 steps are made the next is decided by the 31 newest steps' parents, from its own best state back, and by the record
  -- that the step 31 before made
  pub answered : (d : Detector M) (is : List Input) (i : Input) → Sound d.skeleton → 31 ≤ length is
      → answer_of t (ran_of t d is) i
      ≡ Some
      (decided_of
      (traced (made_by (ran_of t d is).skeleton (step_of t (ran_of t d is) i) ∷ history_of d.skeleton [] (steps_of t d is)) 31 (best_state (ran_of t d is).skeleton (step_of t (ran_of t d is) i)) % 4)
      (ran_of t d is).skeleton.place.previous
      (made_at (history_of d.skeleton [] (steps_of t d is)) 30).soft)
  answered d is i h l =
      let s = step_of t (ran_of t d is) i in
      let made = history_of d.skeleton [] (steps_of t d is) in
      subst
      (λ (k : Skeleton.Skeleton). Skeleton.answer_of k s ≡ Some (decided_of (traced (made_by k s ∷ made) 31 (best_state k s) % 4) k.place.previous (made_at made 30).soft))
      (sym (ran_is d is))
      (History.answered d.skeleton (steps_of t d is) s h (subst (λ (n : ℕ). 31 ≤ n) (sym (steps_length d is)) l))

  unreliable_steps : (d : Detector M) (is : List Input) → Unreliable is → Idle.Unreliable (steps_of t d is)
  unreliable_steps d [] u = tt
  unreliable_steps d (i ∷ is) u = (u.0, unreliable_steps (after_of t d i) is u.1)

  -- ---- from a fresh detector, whatever the tracker's memory
  module _ (m : M) (is : List Input) where
    pub costs_within : (s : ℕ) → s < 64 → In c0 c48 (get_or (ran_of t (fresh_with m) is).skeleton.costs s nan)
    costs_within s h =
        subst (λ (k : Skeleton.Skeleton). In c0 c48 (get_or k.costs s nan)) (sym (ran_is (fresh_with m) is)) (Theorems.costs_within (steps_of t (fresh_with m) is) s h)

    steps_are : (n : ℕ) → length is ≡ n → length (steps_of t (fresh_with m) is) ≡ n
    steps_are n e = steps_length (fresh_with m) is ∙ e

    pub first_silent : (i : Input) → length is < 31 → answer_of t (ran_of t (fresh_with m) is) i ≡ None
    first_silent i l =
        answer_is (fresh_with m) is i ∙ Theorems.first_silent (steps_of t (fresh_with m) is) (step_of t (ran_of t (fresh_with m) is) i) (subst (λ (n : ℕ). n < 31) (sym (steps_length (fresh_with m) is)) l)

    pub then_zero : (i : Input) → length is ≡ 31 → answer_of t (ran_of t (fresh_with m) is) i ≡ Some zero_dibit
    then_zero i e = answer_is (fresh_with m) is i ∙ Theorems.then_zero (steps_of t (fresh_with m) is) (step_of t (ran_of t (fresh_with m) is) i) (steps_are 31 e)

    pub later_told : (i : Input) → 32 ≤ length is → Told (answer_of t (ran_of t (fresh_with m) is) i)
    later_told i l =
        subst Told (sym (answer_is (fresh_with m) is i))
        (Theorems.later_told (steps_of t (fresh_with m) is) (step_of t (ran_of t (fresh_with m) is) i) (subst (λ (n : ℕ). 32 ≤ n) (sym (steps_length (fresh_with m) is)) l))

    pub case_14 : length is ≡ 40 → Unreliable is → answers_of t (fresh_with m) is ≡ replicate 31 None ++ replicate 9 (Some zero_dibit)
    case_14 e u = answers_are (fresh_with m) is ∙ Idle.case_14 (steps_of t (fresh_with m) is) (steps_are 40 e) (unreliable_steps (fresh_with m) is u)
