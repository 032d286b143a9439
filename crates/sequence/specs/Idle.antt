-- Unreliable steps from a fresh detector, whatever the inputs' values: 31 are silent and each later one gives dibit 0 with [0, 0]. Assumes nothing.
use Rattle.std.specs.Prelude.{◌≡◌, Bool, true, false, List, [], ◌∷◌, ◌++◌, ltb, length, replicate, Float, Option, None, Some}
use Rattle.std.proofs.Math.Path.{refl, ap, ap₂}
use Rattle.std.proofs.Common.{sym, ◌∙◌, subst, arith, get_or-set_same, get_or-set_other}
use Rattle.std.proofs.Math.Logic.{⊎_elim}
use Prim.Native.Nat.{ℕ, zero, suc, ◌+◌, ◌-◌, ◌*◌, ◌/◌, ◌%◌, ◌≤◌, ◌<◌}
use Rattle.std.proofs.Math.Bool.{cond}
use Rattle.std.proofs.Math.ListN.{get_or}
use Rattle.std.proofs.lemmas.List.{get_or-replicate}
use Rattle.std.specs.Float.Ieee.{nan, binary32, of_bits, add, sub, div, lt, eq}
use Rattle.laws.specs.Turns.{turns}
use Rattle.laws.specs.Places.{upto_at}
use Rattle.laws.specs.Ring.{lt_or_ge}
use Rattle.numbers.specs.Numbers.{sign_of}
use Rattle.complex.specs.declared.Complex32.{Complex32}
use Rattle.complex.specs.Planes.{Planes}
use Rattle.channels.specs.Channels.{prediction_of}
use Rattle.arrivals.specs.declared.choice.Branch.{Branch}
use Rattle.trellis.specs.declared.best.Least.{Least}
use Rattle.arrivals.specs.Arrivals.{metric_of, branch_of, no_branch, better, chosen_of, arrival_of}
use Rattle.trellis.specs.Trellis.{arrived_of, precedes, best_turn, best_of, advanced_of}
use Rattle.channels.specs.declared.channel.Taps.{Taps}
use Rattle.answers.specs.declared.soft.Soft.{Soft}
use Rattle.answers.specs.declared.walk.Dibit.{Dibit}
use Rattle.answers.specs.Observed.{observed_with, observed_of, record_of}
use Rattle.answers.specs.Walk.{stored_of, parent_before, state_before_of, zero_dibit, decided_of}
use Rattle.sequence.specs.Sequence.{fresh_records, reported_of, stepped_with, stepped_of}
use Rattle.sequence.specs.Ranges.{Sound}
use Rattle.sequence.specs.Steps.{below_is, above_is, same_or_other, stored_row, stored_other}
use Rattle.sequence.specs.Skeleton.{Skeleton, fresh_skeleton, Step, oldest_of, left_of, answer_of, put_of, after_of, answers_of, made_by}
use Rattle.sequence.specs.History.{step_sound, next_parents, end_of, previous_short, previous_long}
use Rattle.sequence.specs.Theorems.{fresh_sound, Counted, counted_fresh, counted_step, quiet, decided}

abbrev none : Float
none = of_bits binary32 0

-- ---- an unreliable step of the trellis, where each cost is 0
nothing_added : add binary32 none none ≡ none
unfolding of_bits add
nothing_added = refl

nothing_off : sub binary32 none none ≡ none
unfolding of_bits sub
nothing_off = refl

below_infinity : lt none no_branch.cost ≡ true
unfolding of_bits div lt
below_infinity = refl

not_below : lt none none ≡ false
unfolding of_bits lt
not_below = refl

not_before : precedes none none ≡ false
unfolding of_bits lt eq sign_of precedes
not_before = refl

no_metric : (input prediction : Complex32) (reliable : Bool) → reliable ≡ false → metric_of input prediction reliable ≡ none
unfolding metric_of
no_metric input prediction reliable e = rw e

better_first : (y : Branch) → y.cost ≡ none → better no_branch y ≡ y
unfolding better
better_first y e = ap (λ (z : Bool). cond z y no_branch) (ap (λ (z : Float). lt z no_branch.cost) e ∙ below_infinity)

better_none : (x y : Branch) → x.cost ≡ none → y.cost ≡ none → better x y ≡ x
unfolding better
better_none x y e f = ap (λ (z : Bool). cond z y x) (ap₂ lt f e ∙ not_below)

module _ (c : Planes) (costs : List Float) (input : Complex32) (reliable : Bool) (off : reliable ≡ false) (zeros : (s : ℕ) → s < 64 → get_or costs s nan ≡ none) where
  branch_none : (k p : ℕ) → p < 64 → (branch_of c costs input reliable k p).cost ≡ none
  branch_none k p h = ap₂ (add binary32) (zeros p h) (no_metric input (prediction_of c k p) reliable off) ∙ nothing_added

  -- the first prior of four
  chosen_first : (k q : ℕ) → q < 16 → chosen_of c costs input reliable k q ≡ branch_of c costs input reliable k q
  unfolding chosen_of
  chosen_first k q h =
      let b = branch_of c costs input reliable k q in
      let e = branch_none k q (omega arith) in
      ap (λ (z : Branch). better (better (better z (branch_of c costs input reliable k (q + 16))) (branch_of c costs input reliable k (q + 32))) (branch_of c costs input reliable k (q + 48))) (better_first b e)
      ∙ ap (λ (z : Branch). better (better z (branch_of c costs input reliable k (q + 32))) (branch_of c costs input reliable k (q + 48))) (better_none b (branch_of c costs input reliable k (q + 16)) e (branch_none k (q + 16) (omega arith)))
      ∙ ap (λ (z : Branch). better z (branch_of c costs input reliable k (q + 48))) (better_none b (branch_of c costs input reliable k (q + 32)) e (branch_none k (q + 32) (omega arith)))
      ∙ better_none b (branch_of c costs input reliable k (q + 48)) e (branch_none k (q + 48) (omega arith))

  arrived_none : (s : ℕ) → s < 64 → get_or (arrived_of c costs input reliable) s nan ≡ none
  arrived_none s h =
      upto_at (λ s. (arrival_of c costs input reliable s).cost) 64 s nan h
      ∙ ap (λ (z : Branch). z.cost) (chosen_first (s % 4) (s / 4) (omega arith))
      ∙ branch_none (s % 4) (s / 4) (omega arith)

  -- the first state
  best_first : (n : ℕ) → n < 64 → turns (best_turn (arrived_of c costs input reliable)) n (record { state = 0; cost = get_or (arrived_of c costs input reliable) 0 nan }) ≡ record { state = 0; cost = get_or (arrived_of c costs input reliable) 0 nan }
  unfolding turns
  best_first zero h = refl
  best_first (suc n) h =
      ap (best_turn (arrived_of c costs input reliable) n) (best_first n (omega arith))
      ∙ ap (λ (z : Bool). cond z (record { state = n + 1; cost = get_or (arrived_of c costs input reliable) (n + 1) nan }) (record { state = 0; cost = get_or (arrived_of c costs input reliable) 0 nan }))
      (ap₂ precedes (arrived_none (n + 1) (omega arith)) (arrived_none 0 (omega arith)) ∙ not_before)

  best_is : best_of (arrived_of c costs input reliable) ≡ record { state = 0; cost = get_or (arrived_of c costs input reliable) 0 nan }
  unfolding best_of
  best_is = best_first 63 (omega arith)

  pub best_zero : (advanced_of c costs input reliable).best ≡ 0
  unfolding advanced_of
  best_zero = ap (λ (z : Least). z.state) best_is

  pub costs_none : (s : ℕ) → s < 64 → get_or (advanced_of c costs input reliable).costs s nan ≡ none
  unfolding advanced_of
  costs_none s h =
      upto_at (λ s. sub binary32 (get_or (arrived_of c costs input reliable) s nan) (best_of (arrived_of c costs input reliable)).cost) 64 s nan h
      ∙ ap₂ (sub binary32) (arrived_none s h) (ap (λ (z : Least). z.cost) best_is ∙ arrived_none 0 (omega arith))
      ∙ nothing_off

  pub root_zero : get_or (advanced_of c costs input reliable).parents 0 0 ≡ 0
  unfolding advanced_of
  root_zero = upto_at (λ s. (arrival_of c costs input reliable s).prior) 64 0 0 (omega arith) ∙ ap (λ (z : Branch). z.prior) (chosen_first (0 % 4) (0 / 4) (omega arith))

-- ---- an idle detector
abbrev pub AtZero : Option ℕ → Type 0
AtZero None = Unit
AtZero (Some k) = k ≡ 0

-- every cost is 0, the state 0 comes of the state 0 at every step, no record is held, and the last symbol, where there is one, was 0
pub record Idle (d : Skeleton) : Type 0 where
  pub sound : Sound d
  pub costs : (s : ℕ) → s < 64 → get_or d.costs s nan ≡ none
  pub roots : (w : ℕ) → w < 32 → get_or d.parents (64 * w + 0) 0 ≡ 0
  pub softs : (k : ℕ) → k < 32 → get_or d.records.slots k None ≡ None
  pub previous : AtZero d.place.previous

idle_fresh : Idle fresh_skeleton
unfolding fresh_skeleton fresh_records
idle_fresh = record {
  sound = fresh_sound;
  costs = λ s h. get_or-replicate 64 s none nan h;
  roots = λ w h. get_or-replicate {A = ℕ} 2048 (64 * w + 0) 0 0 (omega arith);
  softs = λ k h. get_or-replicate 32 k None None h;
  previous = tt;
}

unseen : (input : Complex32) (reliable : Bool) (t : Taps) (p : ℕ) → reliable ≡ false → (observed_of input reliable t p).combined ≡ None
unfolding observed_of observed_with
unseen input reliable t p e = rw e

no_record : (now before : Option Complex32) (noise : Float) → now ≡ None → record_of now before noise ≡ None
no_record now before noise e = rw e

unrecorded : (d : Skeleton) (i : Step) → i.reliable ≡ false → (left_of d i).detected.soft ≡ None
unfolding stepped_of stepped_with reported_of
unrecorded d i e = no_record _ _ _ (unseen i.value i.reliable _ _ e)

module _ (d : Skeleton) (i : Step) (h : Idle d) (off : i.reliable ≡ false) where
  root_made : get_or (made_by d i).row 0 0 ≡ 0
  unfolding stepped_of stepped_with
  root_made = root_zero i.channels d.costs i.value i.reliable off h.costs

  new_roots : (w : ℕ) → w < 32 → get_or (left_of d i).parents (64 * w + 0) 0 ≡ 0
  new_roots w l =
      let r = h.sound.ranged in
      ap (λ (z : List ℕ). get_or z (64 * w + 0) 0) (next_parents d i)
      ∙ ⊎_elim
      (λ e. ap (λ (z : ℕ). get_or (stored_of d.parents d.place.write (made_by d i).row) (64 * z + 0) 0) e
      ∙ stored_row d.parents d.place.write (made_by d i).row r.place.write r.parents_size 0 (omega arith)
      ∙ root_made)
      (λ n. stored_other d.parents d.place.write (made_by d i).row r.place.write r.parents_size w 0 (omega arith) n ∙ h.roots w l)
      (same_or_other w d.place.write)

  back_zero : (n : ℕ) → n ≤ 31 → turns (parent_before (left_of d i).parents d.place.write) n 0 ≡ 0
  unfolding turns
  back_zero zero l = refl
  back_zero (suc n) l = ap (parent_before (left_of d i).parents d.place.write n) (back_zero n (omega arith)) ∙ new_roots ((d.place.write + 32 - n) % 32) (omega arith)

  state_zero : end_of d i ≡ 0
  unfolding state_before_of
  state_zero = ap (turns (parent_before (left_of d i).parents d.place.write) 31) (best_zero i.channels d.costs i.value i.reliable off h.costs) ∙ back_zero 31 (omega arith)

  still : AtZero (after_of d i).place.previous
  still =
      ⊎_elim
      (λ a. subst AtZero (sym (previous_short d i a)) h.previous)
      (λ a. subst AtZero (sym (previous_long d i a)) (ap (λ (z : ℕ). z % 4) state_zero))
      (lt_or_ge d.place.filled 31)

  new_softs : (k : ℕ) → k < 32 → get_or (after_of d i).records.slots k None ≡ None
  unfolding put_of
  new_softs k l =
      let r = h.sound in
      ⊎_elim
      (λ e. ap (λ (z : ℕ). get_or (after_of d i).records.slots z None) e
      ∙ get_or-set_same d.records.slots d.place.write (made_by d i).soft None (rw r.slots r.ranged.place.write)
      ∙ unrecorded d i off)
      (λ n. get_or-set_other d.records.slots d.place.write k (made_by d i).soft None n ∙ h.softs k l)
      (same_or_other k d.place.write)

  new_costs : (s : ℕ) → s < 64 → get_or (after_of d i).costs s nan ≡ none
  unfolding stepped_of stepped_with
  new_costs s l = costs_none i.channels d.costs i.value i.reliable off h.costs s l

  idle_step : Idle (after_of d i)
  idle_step = record { sound = step_sound d i h.sound; costs = new_costs; roots = new_roots; softs = new_softs; previous = still }

  zero_decided : (previous : Option ℕ) → AtZero previous → decided_of 0 previous None ≡ zero_dibit
  zero_decided None e = refl
  zero_decided (Some k) e = ap (λ (z : ℕ). decided_of 0 (Some z) None) e

  idle_answer : (n : ℕ) → Counted n d → 31 ≤ n → answer_of d i ≡ Some zero_dibit
  idle_answer n c l =
      decided n d i c l
      ∙ ap Some
      (ap (λ (z : ℕ). decided_of (z % 4) d.place.previous (oldest_of d)) state_zero
      ∙ ap (decided_of 0 d.place.previous) (h.softs ((d.place.write + 1) % 32) (omega arith))
      ∙ zero_decided d.place.previous h.previous)

-- ---- many unreliable steps
abbrev pub Unreliable : List Step → Type 0
Unreliable [] = Unit
Unreliable (i ∷ is) = (i.reliable ≡ false) × Unreliable is

-- the answers of m steps after n
abbrev pub dues : ℕ → ℕ → List (Option Dibit)
dues n zero = []
dues n (suc m) = cond (ltb n 31) None (Some zero_dibit) ∷ dues (suc n) m

pub idle_answers : (n : ℕ) (d : Skeleton) (is : List Step) → Counted n d → Idle d → Unreliable is → answers_of d is ≡ dues n (length is)
idle_answers n d [] c h u = refl
idle_answers n d (i ∷ is) c h u =
    ap₂ (λ (a : Option Dibit) (rest : List (Option Dibit)). a ∷ rest)
    (⊎_elim
    (λ l. quiet n d i c l ∙ below_is n 31 None (Some zero_dibit) l)
    (λ g. idle_answer d i h u.0 n c g ∙ above_is n 31 None (Some zero_dibit) g)
    (lt_or_ge n 31))
    (idle_answers (suc n) (after_of d i) is (counted_step n d i c) (idle_step d i h u.0) u.1)

-- CASE 14: of 40 unreliable steps of a fresh detector 31 are silent, and then come nine of dibit 0 with [0, 0]
pub case_14 : (is : List Step) → length is ≡ 40 → Unreliable is → answers_of fresh_skeleton is ≡ replicate 31 None ++ replicate 9 (Some zero_dibit)
case_14 is e u = idle_answers 0 fresh_skeleton is counted_fresh idle_fresh u ∙ ap (dues 0) e
