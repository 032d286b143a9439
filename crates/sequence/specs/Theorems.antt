-- Theorems about a fresh detector and any list of inputs, NaN included: the bound of the costs, and which steps answer. Assumes nothing.
use Rattle.std.specs.Prelude.{◌≡◌, refl, ℕ, suc, ◌+◌, ◌%◌, ◌≤◌, ◌<◌, Bool, List, [], ◌∷◌, length, get_or, Float, Option, None, Some}
use Rattle.std.proofs.Common.{ap, sym, ◌∙◌, subst, ⊎_elim, arith}
use Rattle.std.proofs.lemmas.List.{length-replicate, get_or-replicate}
use Rattle.std.specs.Float.{nan}
use Rattle.laws.specs.Ring.{lt_or_ge}
use Rattle.laws.specs.FloatSums.{In}
use Rattle.numbers.specs.Constants.{zero32}
use Rattle.trellis.specs.Metric.{c0, nought}
use Rattle.trellis.specs.Costs.{c48, Good}
use Rattle.trellis.proofs.CostsLaws.{fresh_good, good_same}
use Rattle.trellis.proofs.Bound.{good_step}
use Rattle.complex.specs.declared.Complex32.{Complex32}
use Rattle.complex.specs.Planes.{Planes}
use Rattle.sequence.specs.declared.step.DetectorPlace.{DetectorPlace}
use Rattle.answers.specs.declared.soft.Soft.{Soft}
use Rattle.answers.specs.declared.walk.Dibit.{Dibit}
use Rattle.answers.specs.Walk.{zero_dibit, decided_of}
use Rattle.sequence.specs.Sequence.{fresh_records, one_more_of, stepped_with, stepped_of}
use Rattle.sequence.specs.Ranges.{Sound}
use Rattle.sequence.specs.Steps.{below_is}
use Rattle.sequence.specs.Skeleton.{Skeleton, fresh_skeleton, Step, oldest_of, answer_of, after_of, ran_of}
use Rattle.sequence.specs.History.{filled_next, end_of, answer_short, answer_long, previous_short, previous_long}

-- ---- costs
abbrev Costs : Skeleton → Type 0
Costs d = Good (λ s. get_or d.costs s nan)

pub costs_stepped : (d : DetectorPlace) (input : Complex32) (reliable : Bool) (oldest : Option Soft) (c : Planes) (costs : List Float) (parents : List ℕ)
    → Good (λ s. get_or costs s nan) → Good (λ s. get_or (stepped_of d input reliable oldest c costs parents).costs s nan)
unfolding stepped_of stepped_with
costs_stepped d input reliable oldest c costs parents g = good_step c costs input reliable g

costs_step : (d : Skeleton) (i : Step) → Costs d → Costs (after_of d i)
costs_step d i g = costs_stepped d.place i.value i.reliable (oldest_of d) i.channels d.costs d.parents g

costs_ran : (d : Skeleton) (is : List Step) → Costs d → Costs (ran_of d is)
costs_ran d [] g = g
costs_ran d (i ∷ is) g = costs_ran (after_of d i) is (costs_step d i g)

costs_fresh : Costs fresh_skeleton
unfolding fresh_skeleton
costs_fresh = good_same (λ s. c0) _ (λ s h. sym (get_or-replicate 64 s zero32 nan h ∙ nought)) fresh_good

-- THE THEOREM: each cost stays within 0 to 48
pub costs_within : (is : List Step) (s : ℕ) → s < 64 → In c0 c48 (get_or (ran_of fresh_skeleton is).costs s nan)
costs_within is s h = (costs_ran fresh_skeleton is costs_fresh).ranged s h

-- ---- a fresh detector is in range
pub fresh_sound : Sound fresh_skeleton
unfolding fresh_skeleton fresh_records
fresh_sound = record {
  ranged = record {
    place = record { write = omega arith; filled = omega arith; earlier = tt };
    table = record { below = λ i h. rw (get_or-replicate {A = ℕ} 2048 i 0 0 h) (omega arith) };
    costs_size = length-replicate 64 zero32;
    parents_size = length-replicate {A = ℕ} 2048 0;
  };
  slots = length-replicate {A = Option Soft} 32 None;
}

-- ---- which steps answer
abbrev pub Known : Option ℕ → Type 0
Known None = ⊥
Known (Some k) = Unit

abbrev pub Told : Option Dibit → Type 0
Told None = ⊥
Told (Some dibit) = Unit

-- after n steps: n are held, up to 32, and a symbol is known from the 32nd on
pub record Counted (n : ℕ) (d : Skeleton) : Type 0 where
  pub fewer : n < 32 → d.place.filled ≡ n
  pub full : 32 ≤ n → d.place.filled ≡ 32
  pub unknown : n < 32 → d.place.previous ≡ None
  pub known : 32 ≤ n → Known d.place.previous

pub counted_fresh : Counted 0 fresh_skeleton
unfolding fresh_skeleton
counted_fresh = record { fewer = λ l. refl; full = λ l. absurd (omega arith); unknown = λ l. refl; known = λ l. absurd (omega arith) }

module _ (n : ℕ) (d : Skeleton) (i : Step) (h : Counted n d) where
  held : n < 31 → d.place.filled < 31
  held l = subst (λ (z : ℕ). z < 31) (sym (h.fewer (omega arith))) l

  full_held : 31 ≤ n → 31 ≤ d.place.filled
  full_held l =
      ⊎_elim
      (λ b. subst (λ (z : ℕ). 31 ≤ z) (sym (h.fewer b)) l)
      (λ g. subst (λ (z : ℕ). 31 ≤ z) (sym (h.full g)) (omega arith))
      (lt_or_ge n 32)

  pub counted_step : Counted (suc n) (after_of d i)
  counted_step = record {
    fewer = λ l. let e : n + 1 ≡ suc n = omega arith in filled_next d i ∙ ap one_more_of (h.fewer (omega arith)) ∙ sym (below_is n 32 (n + 1) 32 (omega arith)) ∙ e;
    full = λ l. filled_next d i ∙ ⊎_elim
        (λ b. let e : n ≡ 31 = omega arith in ap one_more_of (h.fewer b ∙ e))
        (λ g. ap one_more_of (h.full g))
        (lt_or_ge n 32);
    unknown = λ l. previous_short d i (held (omega arith)) ∙ h.unknown (omega arith);
    known = λ l. subst Known (sym (previous_long d i (full_held (omega arith)))) tt;
  }

  pub quiet : n < 31 → answer_of d i ≡ None
  quiet l = answer_short d i (held l)

  pub decided : 31 ≤ n → answer_of d i ≡ Some (decided_of (end_of d i % 4) d.place.previous (oldest_of d))
  decided l = answer_long d i (full_held l)

counted_ran : (n : ℕ) (d : Skeleton) (is : List Step) → Counted n d → Counted (n + length is) (ran_of d is)
counted_ran n d [] h = let e : n ≡ n + 0 = omega arith in subst (λ (z : ℕ). Counted z d) e h
counted_ran n d (i ∷ is) h = let e : suc n + length is ≡ n + suc (length is) = omega arith in subst (λ (z : ℕ). Counted z (ran_of (after_of d i) is)) e (counted_ran (suc n) (after_of d i) is (counted_step n d i h))

pub counted : (is : List Step) → Counted (length is) (ran_of fresh_skeleton is)
counted is = let e : 0 + length is ≡ length is = omega arith in subst (λ (z : ℕ). Counted z (ran_of fresh_skeleton is)) e (counted_ran 0 fresh_skeleton is counted_fresh)

-- THE THEOREM: steps 1 to 31 are silent, step 32 gives dibit 0 with [0, 0], and each later step one dibit
module _ (is : List Step) (i : Step) where
  pub first_silent : length is < 31 → answer_of (ran_of fresh_skeleton is) i ≡ None
  first_silent l = quiet (length is) (ran_of fresh_skeleton is) i (counted is) l

  pub then_zero : length is ≡ 31 → answer_of (ran_of fresh_skeleton is) i ≡ Some zero_dibit
  then_zero e =
      decided (length is) (ran_of fresh_skeleton is) i (counted is) (omega arith)
      ∙ ap (λ (z : Option ℕ). Some (decided_of (end_of (ran_of fresh_skeleton is) i % 4) z (oldest_of (ran_of fresh_skeleton is)))) ((counted is).unknown (omega arith))

  pub later_told : 32 ≤ length is → Told (answer_of (ran_of fresh_skeleton is) i)
  later_told l = subst Told (sym (decided (length is) (ran_of fresh_skeleton is) i (counted is) (omega arith))) tt
