-- The third stage over a row of answers. Definitions only.
use Rattle.std.specs.Prelude.{ℕ, Bool, List, ℤ, Option}
use Rattle.laws.specs.Turns.{turns}
use Rattle.answer_row.specs.AnswerRow.{AnswerRow, answer_at, told_at, locked_at}
use Rattle.delivery.specs.Delivery.{paired_of, Room, noted_in, Lent, delivered_of}
use Rattle.answers.specs.declared.walk.Dibit.{Dibit}

-- the answer at a place of a row, where the other stream's row has one there too
abbrev pub paired_at : AnswerRow → List Bool → ℕ → Option Dibit
paired_at row others k = paired_of (answer_at row k) (told_at others k)

abbrev pub row_turn : AnswerRow → List Bool → ℕ → Lent → Lent
row_turn row others k l = delivered_of l (paired_at row others k) (locked_at row.flags k)

-- the first n answers of a row, in turn
unfoldable pub row_of : AnswerRow → List Bool → ℕ → Lent → Lent
row_of row others n l = turns (row_turn row others) n l

-- and what they leave in the room alone
unfoldable pub room_row : ℤ → AnswerRow → List Bool → ℕ → Room → Room
room_row profile row others n room = turns (λ k room. noted_in profile room (paired_at row others k)) n room
