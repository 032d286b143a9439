-- What a program over a recording writes, as lists of ASCII codes. Definitions only.
use Rattle.std.specs.Prelude.{ℕ, zero, suc, ◌+◌, ◌*◌, ◌/◌, Bool, cond, List, [], ◌∷◌, ◌++◌, ltb, length, get_or}
use Rattle.std.proofs.lemmas.List.Edits.{sets}
use Rattle.io.specs.Digits.{last_digits}
use Rattle.recording.specs.declared.text.Totals.{Totals}

-- a buffer, and the place in it where the next byte goes
pub record Written : Type 0 where
  pub place : ℕ
  pub buffer : List ℕ

abbrev pub written_of : ℕ → List ℕ → Written
written_of place buffer = record { place = place; buffer = buffer }

-- t stored from that place on, and the place after it
unfoldable pub put : List ℕ → Written → Written
put t w = record { place = w.place + length t; buffer = sets w.buffer w.place t }

-- how many digits n has, if they are at most k + 1
abbrev pub places_of : ℕ → ℕ → ℕ
places_of zero n = 1
places_of (suc k) n = cond (ltb n 10) 1 (suc (places_of k (n / 10)))

-- n in decimal, no zero in front; no number has more digits than itself and one
unfoldable pub decimal_of : ℕ → List ℕ
decimal_of n = last_digits 10 (places_of n n) n

abbrev pub space : ℕ
space = 32

abbrev pub newline : ℕ
newline = 10

-- a number and the character after it
unfoldable pub ended_of : ℕ → ℕ → List ℕ
ended_of n end = decimal_of n ++ (end ∷ [])

-- a dibit's line: value, first reliability, second, one space between
unfoldable pub line_of : ℕ → ℕ → ℕ → List ℕ
line_of value first second = ended_of value space ++ (ended_of first space ++ ended_of second newline)

-- the lines of the first n dibits, of which dibit k has the reliabilities 2k and 2k + 1
unfoldable pub lines_of : List ℕ → List ℕ → ℕ → List ℕ
lines_of dibits reliabilities zero = []
lines_of dibits reliabilities (suc n) =
    lines_of dibits reliabilities n ++ line_of (get_or dibits n 0) (get_or reliabilities (2 * n) 0) (get_or reliabilities (2 * n + 1) 0)

-- a word with the space after it, a number, and the line's end
unfoldable pub field_of : List ℕ → ℕ → List ℕ
field_of word n = word ++ ended_of n newline

-- `symbols `
abbrev pub symbols_word : List ℕ
symbols_word = 115 ∷ 121 ∷ 109 ∷ 98 ∷ 111 ∷ 108 ∷ 115 ∷ space ∷ []

-- `locked `
abbrev pub locked_word : List ℕ
locked_word = 108 ∷ 111 ∷ 99 ∷ 107 ∷ 101 ∷ 100 ∷ space ∷ []

-- `lock `
abbrev pub lock_word : List ℕ
lock_word = 108 ∷ 111 ∷ 99 ∷ 107 ∷ space ∷ []

-- `overload `
abbrev pub overload_word : List ℕ
overload_word = 111 ∷ 118 ∷ 101 ∷ 114 ∷ 108 ∷ 111 ∷ 97 ∷ 100 ∷ space ∷ []

-- `refused `
abbrev pub refused_word : List ℕ
refused_word = 114 ∷ 101 ∷ 102 ∷ 117 ∷ 115 ∷ 101 ∷ 100 ∷ space ∷ []

abbrev pub flag_of : Bool → ℕ
flag_of b = cond b 1 0

-- the four closing lines
unfoldable pub closing_of : Totals → List ℕ
closing_of t =
    field_of symbols_word t.symbols
    ++ (field_of locked_word t.locked
    ++ (field_of lock_word (flag_of t.lock)
    ++ field_of overload_word t.overload))

unfoldable pub refused_of : ℕ → List ℕ
refused_of n = field_of refused_word n
