-- The second stage over a row of symbols: a row of answers. Definitions only.
use Rattle.std.specs.Prelude.{ℕ, Bool, false, List, set, get_or, Float, Option}
use Rattle.laws.specs.Turns.{turns}
use Rattle.complex.specs.declared.Complex32.{Complex32}
use Rattle.complex.specs.Planes.{point_at}
use Rattle.answers.specs.declared.soft.Soft.{Soft}
use Rattle.answers.specs.Observed.{record_before}
use Rattle.answer_row.specs.AnswerRow.{AnswerRow, put_of}
use Rattle.decisions.specs.Decisions.{DecisionsState, Step, decided_of, locked_of}

-- where the detector's next record goes
abbrev pub slot_at : DecisionsState → ℕ
slot_at s = s.place.carrier.detector.write

-- the stage, its soft records, and the row that it is lent
pub record Lent : Type 0 where
  pub state : DecisionsState
  pub records : List (Option Soft)
  pub answers : AnswerRow

-- one symbol: its soft record takes the place of the oldest, and its answer its own in the row
abbrev pub linked_with : Lent → ℕ → Step → Lent
linked_with l k s = record {
  state = s.state;
  records = set l.records (slot_at l.state) s.soft;
  answers = put_of l.answers k s.answer (locked_of s.state);
}

unfoldable pub linked_of : Lent → ℕ → Complex32 → Bool → Lent
linked_of l k z reliable = linked_with l k (decided_of l.state z reliable (record_before l.records (slot_at l.state)))

abbrev pub row_turn : List Float → List Float → List Bool → ℕ → Lent → Lent
row_turn real imaginary reliable k l = linked_of l k (point_at (record { real = real; imaginary = imaginary }) k) (get_or reliable k false)

-- the first n symbols of a row, in turn
unfoldable pub row_of : List Float → List Float → List Bool → ℕ → Lent → Lent
row_of real imaginary reliable n l = turns (row_turn real imaginary reliable) n l
