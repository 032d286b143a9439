-- Laws of the detector's step: what the proofs of its functions apply, and the ranges that a step keeps. Assumes nothing.
use Rattle.std.specs.Prelude.{◌≡◌, ◌⊎◌, ℕ, ◌+◌, ◌*◌, ◌/◌, ◌%◌, ◌≤◌, ◌<◌, Bool, true, false, cond, List, ltb, length, set, Float, Option, None, Some}
use Rattle.std.proofs.Common.{ap, sym, ◌∙◌, subst, inl, inr, arith, lt→ltb, ltb→lt, get_or-set_other}
use Rattle.std.proofs.Math.Logic.{⊎_elim}
use Rattle.std.proofs.Math.Dec.{not_T}
use Rattle.std.specs.Float.Ieee.Bits.{is_true, is_false}
use Rattle.std.proofs.Math.ListN.{get_or}
use Rattle.laws.specs.Turns.{turns_none}
use Rattle.laws.specs.Places.{length_upto, turns_keep, laid, laid_at, laid_off, length_laid}
use Rattle.laws.specs.Ring.{lt_or_ge}
use Rattle.complex.specs.declared.Complex32.{Complex32}
use Rattle.channels.specs.declared.channel.Taps.{Taps}
use Rattle.complex.specs.Planes.{Planes, point_at}
use Rattle.channels.specs.Channels.{taps_of, Parents}
use Rattle.trellis.specs.Trellis.{Advance, advanced_of}
use Rattle.arrivals.specs.Laws.{arrived_parents}
use Rattle.answers.specs.declared.soft.Soft.{Soft}
use Rattle.answers.specs.declared.combine.Seen.{Seen}
use Rattle.answers.specs.declared.walk.Walked.{Walked}
use Rattle.sequence.specs.declared.step.DetectorPlace.{DetectorPlace}
use Rattle.sequence.specs.declared.step.Detected.{Detected}
use Rattle.answers.specs.Observed.{observed_of}
use Rattle.answers.specs.Walk.{stored_of, state_before_of, Table, Earlier, decided_of, walked_of}
use Rattle.sequence.specs.Sequence.{one_more_of, reported_of, Stepped, stepped_with, stepped_of}
use Rattle.sequence.specs.Ranges.{Ranged, RangedAfter}

-- ---- a test of two numbers
module _ {A : Type 0} (a b : ℕ) (x y : A) where
  pub below_is : a < b → x ≡ cond (ltb a b) x y
  below_is h = rw (is_true (ltb a b) (lt→ltb a b h))

  pub above_is : b ≤ a → y ≡ cond (ltb a b) x y
  above_is h = rw (is_false (ltb a b) (not_T (ltb a b) (λ t. let l = ltb→lt a b t in omega arith)))

pub same_or_other : (a b : ℕ) → (a ≡ b) ⊎ (a ≡ b → ⊥)
same_or_other a b =
    ⊎_elim
    (λ l. inr (λ e. omega arith))
    (λ g. ⊎_elim (λ l. inl (omega arith)) (λ o. inr (λ e. omega arith)) (lt_or_ge a (b + 1)))
    (lt_or_ge a b)

-- ---- a stored row
past_laid : (f : ℕ → ℕ) (from n : ℕ) (l : List ℕ) (j : ℕ) → from + n ≤ j → get_or (laid f from n l) j 0 ≡ get_or l j 0
unfolding laid
past_laid f from n l j h =
    turns_keep (λ k m. set m (from + k) (f k)) 0 n l j 0 (omega arith) (λ i m a b. get_or-set_other m (from + i) j (f i) 0 (λ e. omega arith))
    ∙ ap (λ (z : List ℕ). get_or z j 0) (turns_none (λ k m. set m (from + k) (f k)) l)

module _ (parents : List ℕ) (write : ℕ) (row : List ℕ) (in_ring : write < 32) (size : length parents ≡ 2048) where
  -- the row itself, and every other row
  pub stored_row : (s : ℕ) → s < 64 → get_or (stored_of parents write row) (64 * write + s) 0 ≡ get_or row s 0
  unfolding stored_of
  stored_row s h = laid_at (λ s. get_or row s 0) (64 * write) 64 parents s 0 h (rw size (omega arith))

  pub stored_other : (w s : ℕ) → s < 64 → (w ≡ write → ⊥) → get_or (stored_of parents write row) (64 * w + s) 0 ≡ get_or parents (64 * w + s) 0
  unfolding stored_of
  stored_other w s h n =
      ⊎_elim
      (λ l. laid_off (λ s. get_or row s 0) (64 * write) 64 parents (64 * w + s) 0 (omega arith))
      (λ g. past_laid (λ s. get_or row s 0) (64 * write) 64 parents (64 * w + s) (two w write s n g))
      (lt_or_ge w write)
    where
      two : (w v s : ℕ) → (w ≡ v → ⊥) → v ≤ w → 64 * v + 64 ≤ 64 * w + s
      two w v s n g = ⊎_elim (λ e. absurd (n (omega arith))) (λ l. omega arith) (lt_or_ge w (v + 1))

  pub stored_size : length (stored_of parents write row) ≡ 2048
  unfolding stored_of
  stored_size = length_laid (λ s. get_or row s 0) (64 * write) 64 parents ∙ size

  pub stored_table : Table parents → Parents row → Table (stored_of parents write row)
  stored_table t p = record { below = λ i h. let e : i ≡ 64 * (i / 64) + i % 64 = omega arith in subst (λ (k : ℕ). get_or (stored_of parents write row) k 0 < 64) (sym e) (at (i / 64) (i % 64) (omega arith) (omega arith)) }
    where
      at : (w s : ℕ) → w < 32 → s < 64 → get_or (stored_of parents write row) (64 * w + s) 0 < 64
      at w s h k =
          ⊎_elim
          (λ e. subst (λ (z : ℕ). get_or (stored_of parents write row) (64 * z + s) 0 < 64) (sym e) (rw (stored_row s k) (p.below s k)))
          (λ n. rw (stored_other w s k n) (t.below (64 * w + s) (omega arith)))
          (same_or_other w write)

-- ---- ranges
walked_earlier : (parents : List ℕ) (newest filled best : ℕ) (previous : Option ℕ) (oldest : Option Soft) → Earlier previous → Earlier (walked_of parents newest filled best previous oldest).previous
unfolding walked_of
walked_earlier parents newest filled best previous oldest h = go (ltb filled 31)
  where
    go : (b : Bool) → Earlier (cond {A = Walked} b (record { previous = previous; answer = None }) (record { previous = Some (state_before_of parents newest best % 4); answer = Some (decided_of (state_before_of parents newest best % 4) previous oldest) })).previous
    go true = h
    go false = omega arith

more_most : (filled : ℕ) → one_more_of filled ≤ 32
more_most filled = ⊎_elim (λ l. subst (λ (k : ℕ). k ≤ 32) (below_is filled 32 (filled + 1) 32 l) (omega arith)) (λ g. subst (λ (k : ℕ). k ≤ 32) (above_is filled 32 (filled + 1) 32 g) (omega arith)) (lt_or_ge filled 32)

pub stepped_kept : (d : DetectorPlace) (input : Complex32) (reliable : Bool) (oldest : Option Soft) (c : Planes) (costs : List Float) (parents : List ℕ)
    → Ranged d costs parents → RangedAfter (stepped_of d input reliable oldest c costs parents)
unfolding stepped_of stepped_with reported_of advanced_of
stepped_kept d input reliable oldest c costs parents h = (
  record {
    place = record {
      write = omega arith;
      filled = more_most d.filled;
      earlier = walked_earlier _ d.write d.filled _ d.previous oldest h.place.earlier;
    };
    table = stored_table parents d.write _ h.place.write h.parents_size h.table (arrived_parents c costs input reliable);
    costs_size = length_upto _ 64;
    parents_size = stored_size parents d.write _ h.place.write h.parents_size;
  },
  arrived_parents c costs input reliable,
)

-- what the walk back asks of the parents, once the row is stored
pub asked_table : (parents : List ℕ) (write : ℕ) (row stored : List ℕ) → stored ≡ stored_of parents write row → write < 32 → length parents ≡ 2048 → Table parents → Parents row → Table stored
asked_table parents write row stored e w n t p = subst Table (sym e) (stored_table parents write row w n t p)

-- ---- the step, from its parts
pub step_meets : (d : DetectorPlace) (input : Complex32) (reliable : Bool) (oldest : Option Soft) (c : Planes) (costs : List Float) (parents : List ℕ)
    (best : ℕ) (after : List Float) (row stored : List ℕ) (predictions : Planes) (t : Taps) (seen : Seen) (walked : Walked) (r : Detected)
    → ◌≡◌ {A = Advance} (record { best = best; costs = after; parents = row; predictions = predictions }) (advanced_of c costs input reliable)
    → t ≡ taps_of c (get_or row best 0)
    → seen ≡ observed_of input reliable t (get_or row best 0)
    → stored ≡ stored_of parents d.write row
    → walked ≡ walked_of stored d.write d.filled best d.previous oldest
    → r ≡ reported_of d walked seen input (point_at predictions best) reliable
    → Ranged d costs parents
    → (◌≡◌ {A = Stepped} (record { detected = r; costs = after; parents = stored; row = row; predictions = predictions }) (stepped_of d input reliable oldest c costs parents))
    × (Ranged r.place after stored × Parents row)
step_meets d input reliable oldest c costs parents best after row stored predictions t seen walked r ea et es ep ew er h = (same, subst RangedAfter (sym same) (stepped_kept d input reliable oldest c costs parents h))
  where
    same : ◌≡◌ {A = Stepped} (record { detected = r; costs = after; parents = stored; row = row; predictions = predictions }) (stepped_of d input reliable oldest c costs parents)
    same = unfold stepped_of in unfold stepped_with in rw (er, ew, es, et, ep) (ap (stepped_with d input reliable oldest c parents) ea)
