-- What the walk back reads, for every fill and write place: of the steps that were run, the k-th row back is the k-th newest step's parents, and the
-- record of 31 steps before is that step's own. And what ranges and costs every list of inputs keeps. Assumes nothing.
use Rattle.std.specs.Prelude.{◌≡◌, List, [], ◌∷◌, length, Option, None, Some}
use Rattle.std.proofs.Math.Path.{refl, ap}
use Rattle.std.proofs.Common.{sym, ◌∙◌, subst, ⊎_elim, arith, length-set, get_or-set_same, get_or-set_other}
use Prim.Native.Nat.{ℕ, zero, suc, ◌+◌, ◌-◌, ◌*◌, ◌%◌, ◌≤◌, ◌<◌}
use Rattle.std.proofs.Math.ListN.{get_or}
use Rattle.laws.specs.Turns.{turns}
use Rattle.laws.specs.Ring.{lt_or_ge}
use Rattle.trellis.specs.Trellis.{advanced_of}
use Rattle.trellis.specs.Laws.{best_below}
use Rattle.answers.specs.declared.soft.Soft.{Soft}
use Rattle.answers.specs.declared.walk.Walked.{Walked}
use Rattle.answers.specs.Walk.{stored_of, parent_before, state_before_of, decided_of, walked_of}
use Rattle.sequence.specs.Sequence.{one_more_of, reported_of, stepped_with, stepped_of}
use Rattle.sequence.specs.Ranges.{Sound}
use Rattle.answers.specs.Laws.{walk_silent, walk_full}
use Rattle.sequence.specs.Steps.{below_is, above_is, stored_row, stored_other, stepped_kept}
use Rattle.sequence.specs.Skeleton.{Skeleton, Step, oldest_of, left_of, answer_of, put_of, after_of, ran_of, Made, made_by, made_at, history_of, traced}

-- ---- ranges
pub step_sound : (d : Skeleton) (i : Step) → Sound d → Sound (after_of d i)
unfolding put_of
step_sound d i h = record {
  ranged = (stepped_kept d.place i.value i.reliable (oldest_of d) i.channels d.costs d.parents h.ranged).0;
  slots = length-set d.records.slots d.place.write _ ∙ h.slots;
}

-- THE THEOREM: from any state in range, every list of inputs leaves one
pub ran_sound : (d : Skeleton) (is : List Step) → Sound d → Sound (ran_of d is)
ran_sound d [] h = h
ran_sound d (i ∷ is) h = ran_sound (after_of d i) is (step_sound d i h)

-- ---- one step's places
next_write : (d : Skeleton) (i : Step) → (after_of d i).place.write ≡ (d.place.write + 1) % 32
unfolding stepped_of stepped_with reported_of
next_write d i = refl

pub next_parents : (d : Skeleton) (i : Step) → (left_of d i).parents ≡ stored_of d.parents d.place.write (made_by d i).row
unfolding stepped_of stepped_with
next_parents d i = refl

-- ---- the history that a detector holds: of each step made, up to 32 back
pub record Holds (d : Skeleton) (made : List Made) : Type 0 where
  pub rows : (k s : ℕ) → k < 32 → k < length made → s < 64 → get_or d.parents (64 * ((d.place.write + 31 - k) % 32) + s) 0 ≡ get_or (made_at made k).row s 0
  pub softs : (k : ℕ) → k < 32 → k < length made → get_or d.records.slots ((d.place.write + 31 - k) % 32) None ≡ (made_at made k).soft

pub holds_none : (d : Skeleton) → Holds d []
holds_none d = record { rows = λ k s a b. absurd (omega arith); softs = λ k a b. absurd (omega arith) }

-- the place of the step just made, and of those before it
place_newest : (w : ℕ) → w < 32 → ((w + 1) % 32 + 31 - 0) % 32 ≡ w
place_newest w h = omega arith

place_before : (w k : ℕ) → w < 32 → suc k < 32 → ((w + 1) % 32 + 31 - suc k) % 32 ≡ (w + 31 - k) % 32
place_before w k h l = omega arith

place_other : (w k : ℕ) → w < 32 → suc k < 32 → (w + 31 - k) % 32 ≡ w → ⊥
place_other w k h l e = omega arith

holds_step : (d : Skeleton) (i : Step) (made : List Made) → Sound d → Holds d made → Holds (after_of d i) (made_by d i ∷ made)
holds_step d i made h o = record { rows = rows; softs = softs }
  where
    w : ℕ
    w = d.place.write

    in_ring : d.place.write < 32
    in_ring = h.ranged.place.write

    rows : (k s : ℕ) → k < 32 → k < suc (length made) → s < 64
        → get_or (after_of d i).parents (64 * (((after_of d i).place.write + 31 - k) % 32) + s) 0 ≡ get_or (made_at (made_by d i ∷ made) k).row s 0
    rows zero s a b l =
        rw (next_write d i, place_newest d.place.write in_ring, next_parents d i) (stored_row d.parents d.place.write (made_by d i).row in_ring h.ranged.parents_size s l)
    rows (suc k) s a b l =
        rw (next_write d i, place_before d.place.write k in_ring a, next_parents d i)
        (stored_other d.parents d.place.write (made_by d i).row in_ring h.ranged.parents_size ((d.place.write + 31 - k) % 32) s l (place_other d.place.write k in_ring a)
        ∙ o.rows k s (omega arith) (omega arith) l)

    softs : (k : ℕ) → k < 32 → k < suc (length made)
        → get_or (after_of d i).records.slots (((after_of d i).place.write + 31 - k) % 32) None ≡ (made_at (made_by d i ∷ made) k).soft
    softs zero a b =
        unfold put_of in
        rw (next_write d i, place_newest d.place.write in_ring)
        (get_or-set_same d.records.slots d.place.write (made_by d i).soft None (rw h.slots in_ring))
    softs (suc k) a b =
        unfold put_of in
        rw (next_write d i, place_before d.place.write k in_ring a)
        (get_or-set_other d.records.slots d.place.write ((d.place.write + 31 - k) % 32) (made_by d i).soft None (place_other d.place.write k in_ring a)
        ∙ o.softs k (omega arith) (omega arith))

pub holds_ran : (d : Skeleton) (before : List Made) (is : List Step) → Sound d → Holds d before → Holds (ran_of d is) (history_of d before is)
holds_ran d before [] h o = o
holds_ran d before (i ∷ is) h o = holds_ran (after_of d i) (made_by d i ∷ before) is (step_sound d i h) (holds_step d i before h o)

-- ---- the walk back
history_length : (d : Skeleton) (before : List Made) (is : List Step) → length (history_of d before is) ≡ length before + length is
history_length d before [] = omega arith
history_length d before (i ∷ is) = history_length (after_of d i) (made_by d i ∷ before) is ∙ (omega arith)

place_read : (w k : ℕ) → w < 32 → k < 32 → ((w + 1) % 32 + 31 - k) % 32 ≡ (w + 32 - k) % 32
place_read w k h l = omega arith

module _ (d : Skeleton) (i : Step) (made : List Made) (h : Sound d) (o : Holds d made) (enough : 30 ≤ length made) where
  read_at : (k s : ℕ) → k < 31 → s < 64 → parent_before (left_of d i).parents d.place.write k s ≡ get_or (made_at (made_by d i ∷ made) k).row s 0
  read_at k s a l =
      ap (λ (z : ℕ). get_or (left_of d i).parents (64 * z + s) 0) (sym (ap (λ (z : ℕ). (z + 31 - k) % 32) (next_write d i) ∙ place_read d.place.write k h.ranged.place.write (omega arith)))
      ∙ (holds_step d i made h o).rows k s (omega arith) (omega arith) l

  read_below : (k s : ℕ) → k < 31 → s < 64 → parent_before (left_of d i).parents d.place.write k s < 64
  read_below k s a l = let w = h.ranged.place.write in (step_sound d i h).ranged.table.below (64 * ((d.place.write + 32 - k) % 32) + s) (omega arith)

  walked_below : (n best : ℕ) → n ≤ 31 → best < 64 → turns (parent_before (left_of d i).parents d.place.write) n best < 64
  unfolding turns
  walked_below zero best a l = l
  walked_below (suc n) best a l = read_below n _ (omega arith) (walked_below n best (omega arith) l)

  walked_is : (n best : ℕ) → n ≤ 31 → best < 64 → turns (parent_before (left_of d i).parents d.place.write) n best ≡ traced (made_by d i ∷ made) n best
  unfolding turns
  walked_is zero best a l = refl
  walked_is (suc n) best a l =
      read_at n _ (omega arith) (walked_below n best (omega arith) l) ∙ ap (λ (z : ℕ). get_or (made_at (made_by d i ∷ made) n).row z 0) (walked_is n best (omega arith) l)

  -- the 31 newest parents: the step's own and those of the 30 before it
  pub state_traced : (best : ℕ) → best < 64 → state_before_of (left_of d i).parents d.place.write best ≡ traced (made_by d i ∷ made) 31 best
  unfolding state_before_of
  state_traced best l = walked_is 31 best (omega arith) l

-- the record of 31 steps before
pub oldest_made : (d : Skeleton) (made : List Made) → Sound d → Holds d made → 31 ≤ length made → oldest_of d ≡ (made_at made 30).soft
oldest_made d made h o l =
    let w = h.ranged.place.write in
    let e : (d.place.write + 1) % 32 ≡ (d.place.write + 31 - 30) % 32 = omega arith in
    ap (λ (z : ℕ). get_or d.records.slots z None) e ∙ o.softs 30 (omega arith) (omega arith)

-- ---- how many steps are held
pub filled_next : (d : Skeleton) (i : Step) → (after_of d i).place.filled ≡ one_more_of d.place.filled
unfolding stepped_of stepped_with reported_of
filled_next d i = refl

filled_least : (d : Skeleton) (is : List Step) (n : ℕ) → n ≤ 32 → n ≤ d.place.filled + length is → n ≤ (ran_of d is).place.filled
filled_least d [] n a l = omega arith
filled_least d (i ∷ is) n a l = filled_least (after_of d i) is n a (rw (filled_next d i) (go d.place.filled (length is) l))
  where
    go : (f m : ℕ) → n ≤ f + suc m → n ≤ one_more_of f + m
    go f m l =
        ⊎_elim
        (λ b. subst (λ (z : ℕ). n ≤ z + m) (below_is f 32 (f + 1) 32 b) (omega arith))
        (λ g. subst (λ (z : ℕ). n ≤ z + m) (above_is f 32 (f + 1) 32 g) (omega arith))
        (lt_or_ge f 32)

-- ---- what a step answers
abbrev pub best_state : Skeleton → Step → ℕ
best_state d i = (advanced_of i.channels d.costs i.value i.reliable).best

-- where the walk back ends
abbrev pub end_of : Skeleton → Step → ℕ
end_of d i = state_before_of (left_of d i).parents d.place.write (best_state d i)

abbrev walk_of : Skeleton → Step → Walked
walk_of d i = walked_of (left_of d i).parents d.place.write d.place.filled (best_state d i) d.place.previous (oldest_of d)

module _ (d : Skeleton) (i : Step) where
  answer_walked : answer_of d i ≡ (walk_of d i).answer
  unfolding stepped_of stepped_with reported_of
  answer_walked = refl

  previous_walked : (after_of d i).place.previous ≡ (walk_of d i).previous
  unfolding stepped_of stepped_with reported_of
  previous_walked = refl

  -- with fewer than 31 steps before it, a step is silent
  short : d.place.filled < 31 → walk_of d i ≡ record { previous = d.place.previous; answer = None }
  short h = sym (walk_silent _ _ _ _ _ _ h)

  pub answer_short : d.place.filled < 31 → answer_of d i ≡ None
  answer_short h = answer_walked ∙ ap (λ (z : Walked). z.answer) (short h)

  pub previous_short : d.place.filled < 31 → (after_of d i).place.previous ≡ d.place.previous
  previous_short h = previous_walked ∙ ap (λ (z : Walked). z.previous) (short h)

  -- with 31 it is decided
  long : 31 ≤ d.place.filled → walk_of d i ≡ record { previous = Some (end_of d i % 4); answer = Some (decided_of (end_of d i % 4) d.place.previous (oldest_of d)) }
  long h = sym (walk_full _ _ _ _ _ _ _ _ h refl refl)

  pub answer_long : 31 ≤ d.place.filled → answer_of d i ≡ Some (decided_of (end_of d i % 4) d.place.previous (oldest_of d))
  answer_long h = answer_walked ∙ ap (λ (z : Walked). z.answer) (long h)

  pub previous_long : 31 ≤ d.place.filled → (after_of d i).place.previous ≡ Some (end_of d i % 4)
  previous_long h = previous_walked ∙ ap (λ (z : Walked). z.previous) (long h)

best_state_lem : (d : Skeleton) (i : Step) → best_state d i < 64
unfolding advanced_of
best_state_lem d i = best_below _

-- THE THEOREM: from any state in range, once 31 steps are made the next is decided by the 31 newest steps' parents, from its own best state back, and by
-- the record that the step 31 before made
pub answered : (d : Skeleton) (is : List Step) (i : Step) → Sound d → 31 ≤ length is
    → answer_of (ran_of d is) i
    ≡ Some (decided_of (traced (made_by (ran_of d is) i ∷ history_of d [] is) 31 (best_state (ran_of d is) i) % 4) (ran_of d is).place.previous (made_at (history_of d [] is) 30).soft)
answered d is i h l =
    let e = ran_of d is in
    let s = ran_sound d is h in
    let made = history_of d [] is in
    let o = holds_ran d [] is h (holds_none d) in
    let n : 31 ≤ length made = subst (λ (z : ℕ). 31 ≤ z) (sym (history_length d [] is)) (omega arith) in
    answer_long e i (filled_least d is 31 (omega arith) (omega arith))
    ∙ ap Some
    (ap (λ (z : ℕ). decided_of (z % 4) e.place.previous (oldest_of e)) (state_traced e i made s o (omega arith) (best_state e i) (best_state_lem e i))
    ∙ ap (decided_of (traced (made_by e i ∷ made) 31 (best_state e i) % 4) e.place.previous) (oldest_made e made s o n))
