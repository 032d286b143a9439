-- A row of answers in two lists: what is read at a place, and what a put leaves. Definitions only.
use Rattle.std.specs.Prelude.{◌≡◌, ℕ, ◌+◌, ◌*◌, Bool, true, false, cond, List, length, get_or, set, Option, None, Some}
use Rattle.answers.specs.declared.walk.Dibit.{Dibit}

-- of each symbol two flags, whether there is a dibit and whether the carrier is locked, and three bytes, the dibit and its reliabilities
pub record AnswerRow : Type 0 where
  pub flags : List Bool
  pub bytes : List ℕ

unfoldable pub answer_at : AnswerRow → ℕ → Option Dibit
answer_at row k =
    cond (get_or row.flags (2 * k) false)
    (Some (record { value = get_or row.bytes (3 * k) 0; high = get_or row.bytes (3 * k + 1) 0; low = get_or row.bytes (3 * k + 2) 0 }))
    None

-- whether there is a dibit, in a row and of an answer
abbrev pub told_at : List Bool → ℕ → Bool
told_at flags k = get_or flags (2 * k) false

abbrev pub is_dibit : Option Dibit → Bool
is_dibit None = false
is_dibit (Some d) = true

abbrev pub locked_at : List Bool → ℕ → Bool
locked_at flags k = get_or flags (2 * k + 1) false

-- the two flags and the three bytes of a symbol put
abbrev pub flags_put : List Bool → ℕ → Bool → Bool → List Bool
flags_put flags k told locked = set (set flags (2 * k + 1) locked) (2 * k) told

abbrev pub bytes_put : List ℕ → ℕ → ℕ → ℕ → ℕ → List ℕ
bytes_put bytes k dibit high low = set (set (set bytes (3 * k) dibit) (3 * k + 1) high) (3 * k + 2) low

-- without a dibit the bytes stay as they are
abbrev pub put_of : AnswerRow → ℕ → Option Dibit → Bool → AnswerRow
put_of row k None locked = record { flags = flags_put row.flags k false locked; bytes = row.bytes }
put_of row k (Some d) locked = record { flags = flags_put row.flags k true locked; bytes = bytes_put row.bytes k d.value d.high d.low }

-- room for 256 answers
pub record Sized (row : AnswerRow) : Type 0 where
  pub flags : length row.flags ≡ 512
  pub bytes : length row.bytes ≡ 768
