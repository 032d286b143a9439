-- A symbol and a row met from what their parts answer, and the ranges that each keeps. Assumes nothing.
use Rattle.std.specs.Prelude.{◌≡◌, Bool, true, false, cond, List, ◌++◌, length, get_or, drop, Float, Option}
use Rattle.std.proofs.Math.Path.{refl}
use Rattle.std.proofs.Common.{ap, sym, ◌∙◌, subst, ⊎_elim, mod-lt, eq-zero-or-pos, arith}
use Prim.Native.Nat.{ℕ, zero, suc, ◌+◌, ◌%◌, ◌≤◌}
use Rattle.std.proofs.lemmas.Bool.{false≢true}
use Rattle.laws.specs.Turns.{turns, turns_start, turns_step}
use Rattle.complex.specs.declared.Complex32.{Complex32}
use Rattle.complex.specs.Planes.{point_at}
use Rattle.answers.specs.declared.soft.Soft.{Soft}
use Rattle.answers.specs.declared.walk.Dibit.{Dibit}
use Rattle.answers.specs.Observed.{record_before}
use Rattle.answer_row.specs.AnswerRow.{AnswerRow, put_of, Sized}
use Rattle.answer_row.specs.Laws.{put_sized}
use Rattle.sequence.specs.Ranges as Sequence
use Rattle.drift_tracker.specs.Drift.{Memory}
use Rattle.drift_detector.specs.Ranges as Detector
use Rattle.drift_carrier.specs.Carrier.{CarrierStep, carried_of}
use Rattle.drift_carrier.specs.Laws.{carried_ranged}
use Rattle.second.specs.Second.{SecondState, memory_of, costs_of, joined_of, slot_at, Step, decided_with, decided_of, other_of, locked_of}
use Rattle.second.specs.Rows.{Lent, held_of, linked_with, linked_of, row_turn, row_of}
use Rattle.second.specs.Ranges.{Ranged, Parts, Asks}
use Rattle.second.specs.Parts.{memory_joined, costs_joined}

-- ---- ranges
module _ (s : SecondState) (z : Complex32) (reliable : Bool) where
  -- whatever the memory was, what the symbol leaves is whole
  decided_whole : Sequence.Ranged s.carrier.detector s.costs s.parents → Ranged (decided_of s z reliable).state
  unfolding decided_of
  decided_whole h = carried_ranged s.carrier z reliable (record_before s.records (slot_at s)) s.memory s.costs s.parents h

  pub decided_ranged : Ranged s → Ranged (decided_of s z reliable).state
  decided_ranged h = decided_whole h.detector.skeleton

  -- a symbol leaves it enabled, or not, as it was
  pub decided_enabled : (decided_of s z reliable).state.enabled ≡ s.enabled
  unfolding decided_of
  decided_enabled = refl

-- in range where it is enabled, and so after a symbol
module _ (s : SecondState) (first : Option Dibit) (z : Complex32) (reliable : Bool) where
  abbrev chosen : Bool → Step
  chosen b = cond b (decided_of s z reliable) (record { state = s; answer = first })

  chosen_ranged : (b : Bool) → (b ≡ true → Ranged s) → b ≡ true → Ranged (chosen b).state
  chosen_ranged true h e = decided_ranged s z reliable (h refl)
  chosen_ranged false h e = absurd (false≢true e)

  chosen_enabled : (b : Bool) → (chosen b).state.enabled ≡ s.enabled
  chosen_enabled true = decided_enabled s z reliable
  chosen_enabled false = refl

  pub other_enabled : (other_of s first z reliable).state.enabled ≡ s.enabled
  unfolding other_of
  other_enabled = chosen_enabled s.enabled

  pub other_ranged : (s.enabled ≡ true → Ranged s) → (other_of s first z reliable).state.enabled ≡ true → Ranged (other_of s first z reliable).state
  unfolding other_of
  other_ranged h e = chosen_ranged s.enabled h (sym (chosen_enabled s.enabled) ∙ e)

-- ---- a symbol of a row
linked_asks : (l : Lent) (k : ℕ) (z : Complex32) (reliable : Bool) → Sequence.Ranged l.state.carrier.detector l.state.costs l.state.parents → Sized l.answers
    → Asks (linked_of l k z reliable)
unfolding linked_of
linked_asks l k z reliable h a =
    let s = decided_of l.state z reliable in
    record { state = decided_whole l.state z reliable h; answers = put_sized l.answers k s.answer (locked_of s.state) a }

linked_is : (l : Lent) (k : ℕ) (z : Complex32) (reliable : Bool) (oldest : Option Soft) (c : CarrierStep) (answers : AnswerRow)
    → oldest ≡ record_before l.state.records (slot_at l.state)
    → c ≡ carried_of l.state.carrier z reliable oldest l.state.memory l.state.costs l.state.parents
    → answers ≡ put_of l.answers k c.carried.answer c.carried.place.turn.locked
    → ◌≡◌ {A = Lent} (record { state = (decided_with l.state c).state; answers = answers }) (linked_of l k z reliable)
unfolding linked_of decided_of
linked_is l k z reliable oldest c answers is_oldest is_c is_answers =
    ap (λ (w : AnswerRow). record { state = (decided_with l.state c).state; answers = w }) is_answers
    ∙ ap (λ (d : CarrierStep). linked_with l k (decided_with l.state d))
    (is_c ∙ ap (λ (o : Option Soft). carried_of l.state.carrier z reliable o l.state.memory l.state.costs l.state.parents) is_oldest)

pub link_meets : (l : Lent) (k : ℕ) (z : Complex32) (reliable : Bool) (oldest : Option Soft) (c : CarrierStep) (answers : AnswerRow)
    → oldest ≡ record_before l.state.records (slot_at l.state)
    → c ≡ carried_of l.state.carrier z reliable oldest l.state.memory l.state.costs l.state.parents
    → answers ≡ put_of l.answers k c.carried.answer c.carried.place.turn.locked
    → Sequence.Ranged l.state.carrier.detector l.state.costs l.state.parents → Sized l.answers
    → (◌≡◌ {A = Lent} (record { state = (decided_with l.state c).state; answers = answers }) (linked_of l k z reliable)) × Asks (record { state = (decided_with l.state c).state; answers = answers })
link_meets l k z reliable oldest c answers is_oldest is_c is_answers h a =
    let same = linked_is l k z reliable oldest c answers is_oldest is_c is_answers in
    (same, subst Asks (sym same) (linked_asks l k z reliable h a))

-- ---- the inverses by turns
held_even : (k : ℕ) (even odd : List Float) → k % 2 ≡ 0 → held_of k even odd ≡ even
unfolding held_of
held_even k even odd h = rw h

held_odd : (k : ℕ) (even odd : List Float) → k % 2 ≡ 1 → held_of k even odd ≡ odd
unfolding held_of
held_odd k even odd h = rw h

odd_is : (k : ℕ) → (k % 2 ≡ 0 → ⊥) → k % 2 ≡ 1
odd_is k h = ⊎_elim (λ z. absurd (h z)) (λ p. let l = mod-lt k {m = 2} (omega arith) in omega arith) (eq-zero-or-pos (k % 2))

-- with these inverses instead
abbrev pub holding : Lent → List Float → Lent
holding l inverse = record {
  state = record {
    enabled = l.state.enabled;
    carrier = l.state.carrier;
    records = l.state.records;
    memory = record { channels = l.state.memory.channels; drift = l.state.memory.drift; inverse = inverse };
    costs = l.state.costs;
    parents = l.state.parents;
  };
  answers = l.answers;
}

pub holding_asks : (l : Lent) (inverse : List Float) → Asks l → length inverse ≡ 8192 → Asks (holding l inverse)
holding_asks l inverse h e =
    let d = h.state.detector in
    let sizes : Detector.Sized (holding l inverse).state.memory = record { real_size = d.memory.real_size; imaginary_size = d.memory.imaginary_size; drift_size = d.memory.drift_size; inverse_size = e } in
    record { state = record { alternation = h.state.alternation; detector = record { skeleton = d.skeleton; memory = sizes } }; answers = h.answers }

-- the inverses that are put back after n symbols
module _ (m : Memory) (costs rest x : List Float) (n : ℕ) where
  pub put_even : (odd : List Float) → n % 2 ≡ 0 → x ≡ joined_of m costs ++ rest
      → x ≡ joined_of (record { channels = m.channels; drift = m.drift; inverse = held_of n m.inverse odd }) costs ++ rest
  put_even odd h e = e ∙ ap (λ (v : List Float). joined_of (record { channels = m.channels; drift = m.drift; inverse = v }) costs ++ rest) (sym (held_even n m.inverse odd h))

  pub put_odd : (even : List Float) → (n % 2 ≡ 0 → ⊥) → x ≡ joined_of m costs ++ rest
      → x ≡ joined_of (record { channels = m.channels; drift = m.drift; inverse = held_of n even m.inverse }) costs ++ rest
  put_odd even h e = e ∙ ap (λ (v : List Float). joined_of (record { channels = m.channels; drift = m.drift; inverse = v }) costs ++ rest) (sym (held_odd n even m.inverse (odd_is n h)))

-- before the first symbol they are in the one for even places
pub first_asks : (l : Lent) (odd : List Float) → Asks l → Asks (holding l (held_of 0 l.state.memory.inverse odd))
unfolding held_of
first_asks l odd h = h

module _ (b a : Lent) (k : ℕ) (z : Complex32) (reliable : Bool) where
  pub turned_even : (odd : List Float) → k % 2 ≡ 0 → a ≡ linked_of b k z reliable
      → holding a (held_of (k + 1) b.state.memory.inverse a.state.memory.inverse) ≡ linked_of (holding b (held_of k b.state.memory.inverse odd)) k z reliable
  turned_even odd h e =
      let n : (k + 1) % 2 ≡ 1 = omega arith in
      ap (holding a) (held_odd (k + 1) b.state.memory.inverse a.state.memory.inverse n)
      ∙ e
      ∙ ap (λ (v : List Float). linked_of (holding b v) k z reliable) (sym (held_even k b.state.memory.inverse odd h))

  pub turned_odd : (even : List Float) → (k % 2 ≡ 0 → ⊥) → a ≡ linked_of b k z reliable
      → holding a (held_of (k + 1) a.state.memory.inverse b.state.memory.inverse) ≡ linked_of (holding b (held_of k even b.state.memory.inverse)) k z reliable
  turned_odd even h e =
      let one : k % 2 ≡ 1 = odd_is k h in
      let n : (k + 1) % 2 ≡ 0 = omega arith in
      ap (holding a) (held_even (k + 1) a.state.memory.inverse b.state.memory.inverse n)
      ∙ e
      ∙ ap (λ (v : List Float). linked_of (holding b v) k z reliable) (sym (held_odd k even b.state.memory.inverse one))

-- ---- a row
module _ (real imaginary : List Float) (reliable : List Bool) where
  pub row_asks : (i : ℕ) (b : Lent) → Asks b → Asks (row_of real imaginary reliable i b)
  unfolding row_of turns
  row_asks zero b h = h
  row_asks (suc i) b h =
      let before = row_asks i b h in
      linked_asks (turns (row_turn real imaginary reliable) i b) i _ _ before.state.detector.skeleton before.answers

  pub row_enabled : (i : ℕ) (b : Lent) → (row_of real imaginary reliable i b).state.enabled ≡ b.state.enabled
  unfolding row_of turns linked_of
  row_enabled zero b = refl
  row_enabled (suc i) b = decided_enabled (turns (row_turn real imaginary reliable) i b).state _ _ ∙ row_enabled i b

  pub row_start : (b : Lent) → b ≡ row_of real imaginary reliable 0 b
  unfolding row_of
  row_start b = turns_start _ _

  pub row_step : (i : ℕ) (b l m : Lent) → m ≡ linked_of l i (point_at (record { real = real; imaginary = imaginary }) i) (get_or reliable i false) → l ≡ row_of real imaginary reliable i b
      → m ≡ row_of real imaginary reliable (i + 1) b
  unfolding row_of
  row_step i b l m e h = e ∙ turns_step (row_turn real imaginary reliable) i b l h

  pub next_asks : (i : ℕ) (b l : Lent) → Asks b → l ≡ row_of real imaginary reliable i b → Asks l
  next_asks i b l a e = rw e (row_asks i b a)

  -- the next symbol may be taken, with the inverses in either array
  pub next_held : (i : ℕ) (b l : Lent) (inverse : List Float) → Asks b → l ≡ row_of real imaginary reliable i b → length inverse ≡ 8192 → Asks (holding l inverse)
  next_held i b l inverse a e h = holding_asks l inverse (next_asks i b l a e) h

  pub row_end : (i n : ℕ) (b l : Lent) → Asks b → l ≡ row_of real imaginary reliable i b → i ≤ n → n ≤ i → (l ≡ row_of real imaginary reliable n b) × Asks l
  row_end i n b l a e h k =
      let q : i ≡ n = omega arith in
      (e ∙ ap (λ (m : ℕ). row_of real imaginary reliable m b) q, next_asks i b l a e)

  -- the same, of the inverses that are held after so many
  pub held_end : (i n : ℕ) (b l : Lent) (even odd : List Float) → Asks b → l ≡ row_of real imaginary reliable i b → l.state.memory.inverse ≡ held_of i even odd → i ≤ n → n ≤ i
      → (holding l (held_of n even odd) ≡ row_of real imaginary reliable n b) × Asks (holding l (held_of n even odd))
  held_end i n b l even odd a e v h k =
      let q : n ≡ i = omega arith in
      let same : holding l (held_of n even odd) ≡ l = ap (λ (j : ℕ). holding l (held_of j even odd)) q ∙ ap (holding l) (sym v) in
      let ended = row_end i n b l a e h k in
      (same ∙ ended.0, subst Asks (sym same) ended.1)

-- ---- a row from the one array, and back into it

-- with the floats of the one array instead
abbrev pub packed : Lent → List Float → Lent
packed l m = record {
  state = record {
    enabled = l.state.enabled;
    carrier = l.state.carrier;
    records = l.state.records;
    memory = memory_of m;
    costs = costs_of m;
    parents = l.state.parents;
  };
  answers = l.answers;
}

packed_is : (l : Lent) (m : List Float) → l.state.memory ≡ memory_of m → l.state.costs ≡ costs_of m → l ≡ packed l m
packed_is l m e c = λ i. record {
  state = record {
    enabled = l.state.enabled;
    carrier = l.state.carrier;
    records = l.state.records;
    memory = e i;
    costs = c i;
    parents = l.state.parents;
  };
  answers = l.answers;
}

pub taken_asks : (l : Lent) (m : List Float) → Asks (packed l m) → l.state.memory ≡ memory_of m → l.state.costs ≡ costs_of m → Asks l
taken_asks l m h e c = subst Asks (sym (packed_is l m e c)) h

pub held_parts : (l : Lent) (inverse : List Float) → Asks l → length inverse ≡ 8192 → Parts (holding l inverse).state.memory l.state.costs
held_parts l inverse h e =
    let d = (holding_asks l inverse h e).state.detector in
    record { memory = d.memory; costs_size = d.skeleton.costs_size }

pub first_held : (m x : Memory) (odd : List Float) → m ≡ x → ◌≡◌ {A = Memory} (record { channels = m.channels; drift = m.drift; inverse = held_of 0 m.inverse odd }) x
unfolding held_of
first_held m x odd e = e

pub row_packed : (real imaginary : List Float) (reliable : List Bool) (n : ℕ) (m exit : List Float) (b l : Lent)
    → b.state.memory ≡ memory_of m → b.state.costs ≡ costs_of m → l ≡ row_of real imaginary reliable n b → Asks l
    → exit ≡ joined_of l.state.memory l.state.costs ++ drop 9280 m
    → (packed l exit ≡ row_of real imaginary reliable n (packed b m)) × Asks (packed l exit)
row_packed real imaginary reliable n m exit b l bm bc e h x =
    let sizes = h.state.detector in
    let lm = memory_joined l.state.memory l.state.costs (drop 9280 m) sizes.memory sizes.skeleton.costs_size exit x in
    let lc = costs_joined l.state.memory l.state.costs (drop 9280 m) sizes.memory sizes.skeleton.costs_size exit x in
    let after = packed_is l exit (sym lm) (sym lc) in
    (sym after ∙ e ∙ ap (row_of real imaginary reliable n) (packed_is b m bm bc), subst Asks after h)
