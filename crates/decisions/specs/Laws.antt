-- The stage's definition met from what its parts answer, one law for each way out of a function, and the ranges that each step keeps. Assumes nothing.
use Rattle.std.specs.Prelude.{◌≡◌, Bool, false, List, set, get_or, Float, Option}
use Rattle.std.proofs.Common.{ap, ◌∙◌, mod-lt, arith}
use Prim.Native.Nat.{ℕ, zero, suc, ◌+◌, ◌≤◌}
use Rattle.laws.specs.Turns.{turns, turns_start, turns_step}
use Rattle.complex.specs.declared.Complex32.{Complex32}
use Rattle.complex.specs.Planes.{point_at}
use Rattle.answers.specs.declared.soft.Soft.{Soft}
use Rattle.answers.specs.Observed.{record_before}
use Rattle.answer_row.specs.AnswerRow.{AnswerRow, put_of}
use Rattle.answer_row.specs.Laws.{put_sized}
use Rattle.lms_carrier.specs.Carrier as Carrier
use Rattle.lms_carrier.specs.Laws.{carried_ranged}
use Rattle.signal.specs.Signal as Signal
use Rattle.decisions.specs.Decisions.{DecisionsState, Step, decided_with, decided_of, locked_of}
use Rattle.decisions.specs.Rows.{slot_at, Lent, linked_with, linked_of, row_turn, row_of}
use Rattle.decisions.specs.Ranges.{Ranged, Asks}

pub decided_is : (s : DecisionsState) (z : Complex32) (reliable : Bool) (oldest : Option Soft) (c : Carrier.CarrierStep) (v : Signal.View)
    → c ≡ Carrier.carried_of s.place.carrier z reliable oldest s.channels s.costs s.parents
    → v ≡ Signal.pushed_of (Signal.view_of s.place.view s.view.real s.view.imaginary) c.carried.equalized
    → decided_with c v ≡ decided_of s z reliable oldest
unfolding decided_of
decided_is s z reliable oldest c v is_c is_v = rw (is_v, is_c)

pub linked_is : (l : Lent) (k : ℕ) (z : Complex32) (reliable : Bool) (oldest : Option Soft) (s : Step) (answers : AnswerRow) → oldest ≡ record_before l.records (slot_at l.state)
    → s ≡ decided_of l.state z reliable oldest → answers ≡ put_of l.answers k s.answer (locked_of s.state)
    → ◌≡◌ {A = Lent} (record { state = s.state; records = set l.records (slot_at l.state) s.soft; answers = answers }) (linked_of l k z reliable)
unfolding linked_of
linked_is l k z reliable oldest s answers o e q =
    ap (λ (w : AnswerRow). record { state = s.state; records = set l.records (slot_at l.state) s.soft; answers = w }) q
    ∙ ap (linked_with l k) (e ∙ ap (decided_of l.state z reliable) o)

-- ---- ranges
pub decided_ranged : (s : DecisionsState) (z : Complex32) (reliable : Bool) (oldest : Option Soft) → Ranged s → Ranged (decided_of s z reliable oldest).state
unfolding decided_of Signal.pushed_of
decided_ranged s z reliable oldest h = record {
  carrier = carried_ranged s.place.carrier z reliable oldest s.channels s.costs s.parents h.carrier;
  view = record { head = mod-lt (s.place.view.head + 1) (omega arith); count = omega arith };
}

linked_asks : (l : Lent) (k : ℕ) (z : Complex32) (reliable : Bool) → Asks l → Asks (linked_of l k z reliable)
unfolding linked_of
linked_asks l k z reliable h =
    let o = record_before l.records (slot_at l.state) in
    let s = decided_of l.state z reliable o in
    record { state = decided_ranged l.state z reliable o h.state; answers = put_sized l.answers k s.answer (locked_of s.state) h.answers }

module _ (real imaginary : List Float) (reliable : List Bool) where
  pub row_asks : (i : ℕ) (b : Lent) → Asks b → Asks (row_of real imaginary reliable i b)
  unfolding row_of turns
  row_asks zero b h = h
  row_asks (suc i) b h = linked_asks (turns (row_turn real imaginary reliable) i b) i _ _ (row_asks i b h)

  pub row_start : (b : Lent) → b ≡ row_of real imaginary reliable 0 b
  unfolding row_of
  row_start b = turns_start _ _

  pub row_step : (i : ℕ) (b l m : Lent) → m ≡ linked_of l i (point_at (record { real = real; imaginary = imaginary }) i) (get_or reliable i false) → l ≡ row_of real imaginary reliable i b
      → m ≡ row_of real imaginary reliable (i + 1) b
  unfolding row_of
  row_step i b l m e h = e ∙ turns_step (row_turn real imaginary reliable) i b l h

  -- the next symbol may be taken
  pub next_asks : (i : ℕ) (b l : Lent) → Asks b → l ≡ row_of real imaginary reliable i b → Asks l
  next_asks i b l a e = rw e (row_asks i b a)

  pub row_end : (i n : ℕ) (b l : Lent) → Asks b → l ≡ row_of real imaginary reliable i b → i ≤ n → n ≤ i → (l ≡ row_of real imaginary reliable n b) × Asks l
  row_end i n b l a e h k =
      let q : i ≡ n = omega arith in
      (e ∙ ap (λ (m : ℕ). row_of real imaginary reliable m b) q, next_asks i b l a e)
