-- The second stream over a row of symbols: a row of answers. Definitions only.
use Rattle.std.specs.Prelude.{ℕ, ◌%◌, Bool, false, cond, List, eqb, get_or, Float}
use Rattle.laws.specs.Turns.{turns}
use Rattle.complex.specs.declared.Complex32.{Complex32}
use Rattle.complex.specs.Planes.{point_at}
use Rattle.answer_row.specs.AnswerRow.{AnswerRow, put_of}
use Rattle.second.specs.declared.Second.{Second}
use Rattle.second.specs.Second.{SecondState, Step, decided_of, locked_of}

-- the second stream, and the row that it is lent
pub record Lent : Type 0 where
  pub state : SecondState
  pub answers : AnswerRow

-- from what the code has of both while it goes through a row: each part of the floats in an array of its own
abbrev pub lent_of : Second → List Float → List Float → List Float → List Float → List Float → List ℕ → List Bool → List ℕ → Lent
lent_of t real imaginary drift inverse costs parents flags bytes = record {
  state = record {
    enabled = t.enabled;
    carrier = t.carrier;
    records = t.records.slots;
    memory = record { channels = record { real = real; imaginary = imaginary }; drift = drift; inverse = inverse };
    costs = costs;
    parents = parents;
  };
  answers = record { flags = flags; bytes = bytes };
}

-- the inverses before the symbol k: they go from one array into the other by turns
unfoldable pub held_of : ℕ → List Float → List Float → List Float
held_of k even odd = cond (eqb (k % 2) 0) even odd

-- one symbol: its answer takes its place in the row, with whether the second carrier is locked after it
abbrev pub linked_with : Lent → ℕ → Step → Lent
linked_with l k s = record { state = s.state; answers = put_of l.answers k s.answer (locked_of s.state) }

unfoldable pub linked_of : Lent → ℕ → Complex32 → Bool → Lent
linked_of l k z reliable = linked_with l k (decided_of l.state z reliable)

abbrev pub row_turn : List Float → List Float → List Bool → ℕ → Lent → Lent
row_turn real imaginary reliable k l = linked_of l k (point_at (record { real = real; imaginary = imaginary }) k) (get_or reliable k false)

-- the first n symbols of a row, in turn
unfoldable pub row_of : List Float → List Float → List Bool → ℕ → Lent → Lent
row_of real imaginary reliable n l = turns (row_turn real imaginary reliable) n l
