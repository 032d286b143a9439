-- What a put is lent, by the names of its parameters: a type that computes to the clause written out. Definitions only.
use Rattle.std.specs.Prelude.{ℕ, Bool}
use Rattle.laws.specs.Lent.{LendsMut}
use Rattle.answer_row.specs.AnswerRow.{AnswerRow}

abbrev pub LeavesAnswers : LendsMut Bool → LendsMut ℕ → (AnswerRow → AnswerRow → Type 0) → Type 0
LeavesAnswers flags bytes Q = Q (record { flags = flags.entry.now; bytes = bytes.entry.now }) (record { flags = flags.exit.now; bytes = bytes.exit.now })
