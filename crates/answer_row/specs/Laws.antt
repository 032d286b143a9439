-- What is put is what is read there, and no other place is touched. Assumes nothing.
use Rattle.std.specs.Prelude.{◌≡◌, ◌≢◌, ℕ, ◌+◌, ◌*◌, ◌<◌, Bool, true, false, List, length, get_or, set, Option, None, Some}
use Rattle.std.proofs.Common.{◌∙◌, arith, length-set, get_or-set_same, get_or-set_other}
use Rattle.answer_row.specs.AnswerRow.{AnswerRow, answer_at, told_at, is_dibit, locked_at, flags_put, bytes_put, put_of, Sized}
use Rattle.answers.specs.declared.walk.Dibit.{Dibit}

-- ---- a put's two ways
pub put_silent : (row : AnswerRow) (k : ℕ) (a : Option Dibit) (locked : Bool) → a ≡ None
    → ◌≡◌ {A = AnswerRow} (record { flags = flags_put row.flags k false locked; bytes = row.bytes }) (put_of row k a locked)
put_silent row k a locked e = rw e

pub put_dibit : (row : AnswerRow) (k : ℕ) (a : Option Dibit) (locked : Bool) (d : Dibit) → a ≡ Some d
    → ◌≡◌ {A = AnswerRow} (record { flags = flags_put row.flags k true locked; bytes = bytes_put row.bytes k d.value d.high d.low }) (put_of row k a locked)
put_dibit row k a locked d e = rw e

-- ---- a read's two ways
pub answer_told : (row : AnswerRow) (k : ℕ) → get_or row.flags (2 * k) false ≡ true
    → ◌≡◌ {A = Option Dibit} (Some (record { value = get_or row.bytes (3 * k) 0; high = get_or row.bytes (3 * k + 1) 0; low = get_or row.bytes (3 * k + 2) 0 })) (answer_at row k)
unfolding answer_at
answer_told row k e = rw e

pub answer_silent : (row : AnswerRow) (k : ℕ) → get_or row.flags (2 * k) false ≡ false → None ≡ answer_at row k
unfolding answer_at
answer_silent row k e = rw e

-- the row keeps its lengths
pub put_sized : (row : AnswerRow) (k : ℕ) (a : Option Dibit) (locked : Bool) → Sized row → Sized (put_of row k a locked)
put_sized row k None locked h = record { flags = simp length-set h.flags; bytes = h.bytes }
put_sized row k (Some d) locked h = record { flags = simp length-set h.flags; bytes = simp length-set h.bytes }

-- ---- the flags
module _ (flags : List Bool) (k : ℕ) (told locked : Bool) where
  told_there : length flags ≡ 512 → k < 256 → get_or (flags_put flags k told locked) (2 * k) false ≡ told
  told_there n h = get_or-set_same (set flags (2 * k + 1) locked) (2 * k) told false (simp length-set (omega arith))

  locked_there : length flags ≡ 512 → k < 256 → locked_at (flags_put flags k told locked) k ≡ locked
  locked_there n h =
      get_or-set_other (set flags (2 * k + 1) locked) (2 * k) (2 * k + 1) told false (λ e. omega arith)
      ∙ get_or-set_same flags (2 * k + 1) locked false (omega arith)

  flag_elsewhere : (i : ℕ) → i ≢ 2 * k → i ≢ 2 * k + 1 → get_or (flags_put flags k told locked) i false ≡ get_or flags i false
  flag_elsewhere i a b = get_or-set_other (set flags (2 * k + 1) locked) (2 * k) i told false a ∙ get_or-set_other flags (2 * k + 1) i locked false b

-- ---- the bytes
module _ (bytes : List ℕ) (k dibit high low : ℕ) where
  module _ (n : length bytes ≡ 768) (h : k < 256) where
    dibit_there : get_or (bytes_put bytes k dibit high low) (3 * k) 0 ≡ dibit
    dibit_there =
        get_or-set_other (set (set bytes (3 * k) dibit) (3 * k + 1) high) (3 * k + 2) (3 * k) low 0 (λ e. omega arith)
        ∙ get_or-set_other (set bytes (3 * k) dibit) (3 * k + 1) (3 * k) high 0 (λ e. omega arith)
        ∙ get_or-set_same bytes (3 * k) dibit 0 (omega arith)

    high_there : get_or (bytes_put bytes k dibit high low) (3 * k + 1) 0 ≡ high
    high_there =
        get_or-set_other (set (set bytes (3 * k) dibit) (3 * k + 1) high) (3 * k + 2) (3 * k + 1) low 0 (λ e. omega arith)
        ∙ get_or-set_same (set bytes (3 * k) dibit) (3 * k + 1) high 0 (simp length-set (omega arith))

    low_there : get_or (bytes_put bytes k dibit high low) (3 * k + 2) 0 ≡ low
    low_there = get_or-set_same (set (set bytes (3 * k) dibit) (3 * k + 1) high) (3 * k + 2) low 0 (simp length-set (omega arith))

  byte_elsewhere : (i : ℕ) → i ≢ 3 * k → i ≢ 3 * k + 1 → i ≢ 3 * k + 2 → get_or (bytes_put bytes k dibit high low) i 0 ≡ get_or bytes i 0
  byte_elsewhere i a b c =
      get_or-set_other (set (set bytes (3 * k) dibit) (3 * k + 1) high) (3 * k + 2) i low 0 c
      ∙ get_or-set_other (set bytes (3 * k) dibit) (3 * k + 1) i high 0 b
      ∙ get_or-set_other bytes (3 * k) i dibit 0 a

-- ---- WHAT IS PUT IS READ
pub answer_put : (row : AnswerRow) (k : ℕ) (a : Option Dibit) (locked : Bool) → Sized row → k < 256 → answer_at (put_of row k a locked) k ≡ a
unfolding answer_at
answer_put row k None locked s h = rw (told_there row.flags k false locked s.flags h)
answer_put row k (Some d) locked s h =
    rw (told_there row.flags k true locked s.flags h, dibit_there row.bytes k d.value d.high d.low s.bytes h, high_there row.bytes k d.value d.high d.low s.bytes h, low_there row.bytes k d.value d.high d.low s.bytes h)

pub locked_put : (row : AnswerRow) (k : ℕ) (a : Option Dibit) (locked : Bool) → Sized row → k < 256 → locked_at (put_of row k a locked).flags k ≡ locked
locked_put row k None locked s h = locked_there row.flags k false locked s.flags h
locked_put row k (Some d) locked s h = locked_there row.flags k true locked s.flags h

pub told_put : (row : AnswerRow) (k : ℕ) (a : Option Dibit) (locked : Bool) → Sized row → k < 256 → told_at (put_of row k a locked).flags k ≡ is_dibit a
told_put row k None locked s h = told_there row.flags k false locked s.flags h
told_put row k (Some d) locked s h = told_there row.flags k true locked s.flags h

-- ---- NO OTHER ANSWER IS TOUCHED
pub answer_kept : (row : AnswerRow) (k : ℕ) (a : Option Dibit) (locked : Bool) (m : ℕ) → m ≢ k → answer_at (put_of row k a locked) m ≡ answer_at row m
unfolding answer_at
answer_kept row k None locked m n = rw (flag_elsewhere row.flags k false locked (2 * m) (λ e. n (omega arith)) (λ e. omega arith))
answer_kept row k (Some d) locked m n =
    rw (
      flag_elsewhere row.flags k true locked (2 * m) (λ e. n (omega arith)) (λ e. omega arith),
      byte_elsewhere row.bytes k d.value d.high d.low (3 * m) (λ e. n (omega arith)) (λ e. omega arith) (λ e. omega arith),
      byte_elsewhere row.bytes k d.value d.high d.low (3 * m + 1) (λ e. omega arith) (λ e. n (omega arith)) (λ e. omega arith),
      byte_elsewhere row.bytes k d.value d.high d.low (3 * m + 2) (λ e. omega arith) (λ e. omega arith) (λ e. n (omega arith)),
    )

pub locked_kept : (row : AnswerRow) (k : ℕ) (a : Option Dibit) (locked : Bool) (m : ℕ) → m ≢ k → locked_at (put_of row k a locked).flags m ≡ locked_at row.flags m
locked_kept row k None locked m n = flag_elsewhere row.flags k false locked (2 * m + 1) (λ e. omega arith) (λ e. n (omega arith))
locked_kept row k (Some d) locked m n = flag_elsewhere row.flags k true locked (2 * m + 1) (λ e. omega arith) (λ e. n (omega arith))

pub told_kept : (row : AnswerRow) (k : ℕ) (a : Option Dibit) (locked : Bool) (m : ℕ) → m ≢ k → told_at (put_of row k a locked).flags m ≡ told_at row.flags m
told_kept row k None locked m n = flag_elsewhere row.flags k false locked (2 * m) (λ e. n (omega arith)) (λ e. omega arith)
told_kept row k (Some d) locked m n = flag_elsewhere row.flags k true locked (2 * m) (λ e. n (omega arith)) (λ e. omega arith)
