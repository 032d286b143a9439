-- Texts put one after another, and how long a number is. Assumes nothing.
use Rattle.std.specs.Prelude.{◌≡◌, refl, false, List, [], ◌∷◌, ◌++◌, ℕ, zero, suc, ◌+◌, ◌-◌, ◌*◌, ◌/◌, ◌%◌, ◌^◌, ◌≤◌, ◌<◌, length, get_or, set, take, drop}
use Rattle.std.proofs.Common.{ap, ◌∙◌, ⊎_elim, pow-suc, add-one, arith, length-append, take-suc, take_all, length-take-le, append_assoc, lt-ltb, le-ltb}
use Rattle.std.proofs.lemmas.List.{drop-drop}
use Rattle.std.proofs.lemmas.List.Edits.{sets, sets-eq}
use Rattle.std.proofs.Math.Seq.{length-sets}
use Rattle.laws.specs.Ring.{lt_or_ge}
use Rattle.io.specs.Digits.{last_digits, hex_digit_ascii, IsDigitCount}
use Rattle.recording.specs.declared.text.Totals.{Totals}
use Rattle.recording.specs.Text.{Written, written_of, put, places_of, decimal_of, ended_of, line_of, lines_of, space, newline, field_of, flag_of, symbols_word, locked_word, lock_word, overload_word, closing_of}

-- ---- one text after another
sets_append : (l : List ℕ) (i : ℕ) (s t : List ℕ) → sets (sets l i s) (i + length s) t ≡ sets l i (s ++ t)
sets_append l i [] t = let e : i + 0 ≡ i = omega arith in rw e
sets_append l i (a ∷ s) t =
    let e : i + suc (length s) ≡ suc i + length s = omega arith in
    ap (λ (k : ℕ). sets (sets (set l i a) (suc i) s) k t) e ∙ sets_append (set l i a) (suc i) s t

pub put_append : (s t : List ℕ) (w : Written) → put t (put s w) ≡ put (s ++ t) w
unfolding put
put_append s t w =
    let e : w.place + length s + length t ≡ w.place + length (s ++ t) = rw (length-append s t) (omega arith) in
    rw (sets_append w.buffer w.place s t, e)

pub put_byte : (b place : ℕ) (buffer : List ℕ) → written_of (place + 1) (set buffer place b) ≡ put (b ∷ []) (written_of place buffer)
unfolding put
put_byte b place buffer = refl

pub put_same : (s t : List ℕ) (w : Written) → s ≡ t → put s w ≡ put t w
put_same s t w e = ap (λ (x : List ℕ). put x w) e

pub put_then : (s t : List ℕ) (w u v : Written) → u ≡ put s w → v ≡ put t u → v ≡ put (s ++ t) w
put_then s t w u v e f = f ∙ ap (put t) e ∙ put_append s t w

-- the place after a text, and the room that stays
pub put_place : (t : List ℕ) (at : ℕ) (l : List ℕ) (after : ℕ) (m : List ℕ) → written_of after m ≡ put t (written_of at l) → after ≡ at + length t
unfolding put
put_place t at l after m e = ap (λ (u : Written). u.place) e

pub put_room : (t : List ℕ) (at : ℕ) (l : List ℕ) (after : ℕ) (m : List ℕ) → written_of after m ≡ put t (written_of at l) → length m ≡ length l
unfolding put
put_room t at l after m e = ap (λ (u : Written). length u.buffer) e ∙ length-sets l at t

-- another text of the same bytes
pub same_fits : (s t : List ℕ) (at room : ℕ) → s ≡ t → at + length t ≤ room → at + length s ≤ room
same_fits s t at room e h = rw e h

-- ---- a copy, byte by byte: the first i bytes of t from a place on
unfoldable pub partly : List ℕ → ℕ → List ℕ → ℕ → List ℕ
partly l at t i = sets l at (take i t)

pub copy_start : (l : List ℕ) (at : ℕ) (t : List ℕ) → l ≡ partly l at t 0
unfolding partly
copy_start l at t = refl

pub copy_step : (l : List ℕ) (at : ℕ) (t : List ℕ) (i : ℕ) (m : List ℕ) → i < length t
    → m ≡ partly l at t i → set m (at + i) (get_or t i 0) ≡ partly l at t (i + 1)
unfolding partly
copy_step l at t i m h e =
    let k : length (take i t) ≡ i = length-take-le i t (omega arith) in
    rw (e, add-one, take-suc t i 0 h, ← sets_append l at (take i t) (get_or t i 0 ∷ []), k)

pub copy_end : (l : List ℕ) (at : ℕ) (t : List ℕ) (i : ℕ) (m : List ℕ) → m ≡ partly l at t i
    → i ≤ length t → length t ≤ i → written_of (at + length t) m ≡ put t (written_of at l)
unfolding put partly
copy_end l at t i m e le ge = rw (e, take_all i t ge)

-- ---- how many digits a number has
pub length_digits : (b k n : ℕ) → length (last_digits b k n) ≡ k
length_digits b zero n = refl
length_digits b (suc k) n = length-append (last_digits b k (n / b)) (hex_digit_ascii (n % b) ∷ []) ∙ rw (length_digits b k (n / b), add-one)

ten_up : (j : ℕ) → 10 ^ suc j ≡ 10 ^ j * 10
ten_up j = pow-suc 10 j

one_up : (j : ℕ) → 1 ≤ 10 ^ j
one_up zero = omega arith
one_up (suc j) = rw (ten_up j) (let h : 1 ≤ 10 ^ j = one_up j in omega arith)

pub fewest_places : (m n k : ℕ) → k ≤ suc m → IsDigitCount 10 1 n k → k ≡ places_of m n
fewest_places m n zero l f = absurd (let h = f.0 in omega arith)
fewest_places zero n (suc k) l f = omega arith
fewest_places (suc m) n (suc zero) l f = let h : n < 10 = f.1 in rw (lt-ltb n 10 h)
fewest_places (suc m) n (suc (suc j)) l f =
    let d : suc (suc j) - 1 ≡ suc j = omega arith in
    let up : 10 ^ suc j ≤ n = rw (← d) (f.2 (omega arith)) in
    let below : n < 10 ^ suc (suc j) = f.1 in
    let e : 10 ^ suc j ≡ 10 ^ j * 10 = ten_up j in
    let e2 : 10 ^ suc (suc j) ≡ 10 ^ suc j * 10 = ten_up (suc j) in
    let one : 1 ≤ 10 ^ j = one_up j in
    let ten : 10 ≤ n = omega arith in
    let lower : n / 10 < 10 ^ suc j = omega arith in
    let d2 : suc j - 1 ≡ j = omega arith in
    let upper : 10 ^ (suc j - 1) ≤ n / 10 = rw d2 (omega arith) in
    rw (le-ltb n 10 ten) (ap suc (fewest_places m (n / 10) (suc j) (omega arith) (omega arith, lower, λ q. upper)))

small_power : (j : ℕ) → j < 10 ^ j
small_power zero = omega arith
small_power (suc j) = let e = ten_up j in let h = small_power j in omega arith

fewest_few : (n k : ℕ) → IsDigitCount 10 1 n k → k ≤ suc n
fewest_few n zero f = omega arith
fewest_few n (suc zero) f = omega arith
fewest_few n (suc (suc j)) f =
    let d : suc (suc j) - 1 ≡ suc j = omega arith in
    let up : 10 ^ suc j ≤ n = rw (← d) (f.2 (omega arith)) in
    let h = small_power (suc j) in
    omega arith

pub decimal_is : (n k : ℕ) → IsDigitCount 10 1 n k → last_digits 10 k n ≡ decimal_of n
unfolding decimal_of
decimal_is n k f = ap (λ (j : ℕ). last_digits 10 j n) (fewest_places n n k (fewest_few n k f) f)

-- the digits as `io` puts them
pub spelled : (n k : ℕ) (l : List ℕ) → IsDigitCount 10 1 n k → take k l ≡ last_digits 10 k n → take k l ≡ decimal_of n
spelled n k l f e = e ∙ decimal_is n k f

places_below : (m j n : ℕ) → n < 10 ^ suc j → places_of m n ≤ suc j
places_below zero j n h = omega arith
places_below (suc m) j n h =
    ⊎_elim
    (λ s. rw (lt-ltb n 10 s) (omega arith))
    (λ g. rw (le-ltb n 10 g) (more j h g (λ i l. places_below m i (n / 10) l)))
    (lt_or_ge n 10)
  where
    more : (j : ℕ) → n < 10 ^ suc j → 10 ≤ n → ((i : ℕ) → n / 10 < 10 ^ suc i → places_of m (n / 10) ≤ suc i) → suc (places_of m (n / 10)) ≤ suc j
    more zero h g r = absurd (let k : n < 10 = h in omega arith)
    more (suc i) h g r =
        let e : 10 ^ suc (suc i) ≡ 10 ^ suc i * 10 = ten_up (suc i) in
        let q = r i (omega arith) in
        omega arith

pub decimal_below : (j n : ℕ) → n < 10 ^ suc j → length (decimal_of n) ≤ suc j
unfolding decimal_of
decimal_below j n h = rw (length_digits 10 (places_of n n) n) (places_below n j n h)

-- ---- the parts of each text, and how long they are
pub length_ended : (n end : ℕ) → length (ended_of n end) ≡ length (decimal_of n) + 1
unfolding ended_of
length_ended n end = length-append (decimal_of n) (end ∷ [])

pub ended_short : (n end : ℕ) → n < 256 → length (ended_of n end) ≤ 4
ended_short n end h = let d = decimal_below 2 n (omega arith) in let e = length_ended n end in omega arith

pub ended_long : (n end : ℕ) → n < 2 ^ 64 → length (ended_of n end) ≤ 21
ended_long n end h = let d = decimal_below 19 n (omega arith) in let e = length_ended n end in omega arith

pub ended_number : (n end at room : ℕ) → at + length (ended_of n end) ≤ room → at + length (decimal_of n) ≤ room
ended_number n end at room h = let e = length_ended n end in omega arith

pub ended_last : (n end at : ℕ) (l : List ℕ) (after : ℕ) (m : List ℕ) → written_of after m ≡ put (decimal_of n) (written_of at l)
    → at + length (ended_of n end) ≤ length l → after < length m
ended_last n end at l after m e h =
    let d = length_ended n end in
    let p = put_place (decimal_of n) at l after m e in
    let r = put_room (decimal_of n) at l after m e in
    omega arith

pub ended_put : (n end at : ℕ) (l : List ℕ) (after : ℕ) (m : List ℕ) → written_of after m ≡ put (decimal_of n) (written_of at l)
    → written_of (after + 1) (set m after end) ≡ put (ended_of n end) (written_of at l)
unfolding ended_of
ended_put n end at l after m e = put_then (decimal_of n) (end ∷ []) (written_of at l) (written_of after m) _ e (put_byte end after m)

pub field_put : (word : List ℕ) (n : ℕ) (w u v : Written) → u ≡ put word w → v ≡ put (ended_of n newline) u → v ≡ put (field_of word n) w
unfolding field_of
field_put word n w u v e f = put_then word (ended_of n newline) w u v e f

pub field_number : (word : List ℕ) (n at : ℕ) (l : List ℕ) (after : ℕ) (m : List ℕ) → n < 2 ^ 64 → written_of after m ≡ put word (written_of at l)
    → at + (length word + 21) ≤ length l → after + length (ended_of n newline) ≤ length m
field_number word n at l after m b e h =
    let d = ended_long n newline b in
    let p = put_place word at l after m e in
    let r = put_room word at l after m e in
    omega arith

pub field_near : (word : List ℕ) (n at : ℕ) (l : List ℕ) (after : ℕ) (m : List ℕ) → n < 2 ^ 64
    → written_of after m ≡ put (field_of word n) (written_of at l) → after ≤ at + (length word + 21)
unfolding field_of
field_near word n at l after m b e =
    let p = put_place (word ++ ended_of n newline) at l after m e in
    let a = length-append word (ended_of n newline) in
    let d = ended_long n newline b in
    omega arith

pub line_put : (value first second : ℕ) (w u v x : Written) → u ≡ put (ended_of value space) w → v ≡ put (ended_of first space) u
    → x ≡ put (ended_of second newline) v → x ≡ put (line_of value first second) w
unfolding line_of
line_put value first second w u v x e f g =
    put_then (ended_of value space) (ended_of first space ++ ended_of second newline) w u x e
    (put_then (ended_of first space) (ended_of second newline) u v x f g)

pub closing_put : (t : Totals) (lock : ℕ) (w u v x y : Written) → lock ≡ flag_of t.lock → u ≡ put (field_of symbols_word t.symbols) w
    → v ≡ put (field_of locked_word t.locked) u → x ≡ put (field_of lock_word lock) v → y ≡ put (field_of overload_word t.overload) x → y ≡ put (closing_of t) w
unfolding closing_of
closing_put t lock w u v x y k e f g h =
    put_then (field_of symbols_word t.symbols) _ w u y e
    (put_then (field_of locked_word t.locked) _ u v y f
    (put_then (field_of lock_word (flag_of t.lock)) _ v x y (g ∙ ap (λ (n : ℕ). put (field_of lock_word n) v) k) h))

-- a byte and the character after it
pub byte_fits : (n end at room : ℕ) → n < 256 → at + 4 ≤ room → at + length (ended_of n end) ≤ room
byte_fits n end at room b h = let d = ended_short n end b in omega arith

pub byte_near : (n end at : ℕ) (l : List ℕ) (after : ℕ) (m : List ℕ) → n < 256
    → written_of after m ≡ put (ended_of n end) (written_of at l) → after ≤ at + 4
byte_near n end at l after m b e =
    let p = put_place (ended_of n end) at l after m e in
    let d = ended_short n end b in
    omega arith

-- ---- the lines of a row of dibits, one at a time
pub lines_start : (ds rs : List ℕ) (at : ℕ) (l : List ℕ) → written_of at l ≡ put (lines_of ds rs 0) (written_of at l)
unfolding put lines_of
lines_start ds rs at l = let e : at + 0 ≡ at = omega arith in rw e

pub lines_step : (ds rs : List ℕ) (i : ℕ) (w u v : Written) → u ≡ put (lines_of ds rs i) w
    → v ≡ put (line_of (get_or ds i 0) (get_or rs (2 * i) 0) (get_or rs (2 * i + 1) 0)) u → v ≡ put (lines_of ds rs (i + 1)) w
unfolding lines_of
lines_step ds rs i w u v e f = rw add-one (put_then (lines_of ds rs i) (line_of (get_or ds i 0) (get_or rs (2 * i) 0) (get_or rs (2 * i + 1) 0)) w u v e f)

pub lines_end : (ds rs : List ℕ) (i n : ℕ) (w u : Written) → u ≡ put (lines_of ds rs i) w → i ≤ n → n ≤ i → u ≡ put (lines_of ds rs n) w
lines_end ds rs i n w u e le ge = let h : i ≡ n = omega arith in e ∙ ap (λ (k : ℕ). put (lines_of ds rs k) w) h

-- ---- the closing lines of a recording with no samples, and a full line
abbrev pub nothing : Totals
nothing = record { symbols = 0; locked = 0; lock = false; overload = 0 }

pub nothing_closed : closing_of nothing
    ≡ 115 ∷ 121 ∷ 109 ∷ 98 ∷ 111 ∷ 108 ∷ 115 ∷ 32 ∷ 48 ∷ 10
    ∷ 108 ∷ 111 ∷ 99 ∷ 107 ∷ 101 ∷ 100 ∷ 32 ∷ 48 ∷ 10
    ∷ 108 ∷ 111 ∷ 99 ∷ 107 ∷ 32 ∷ 48 ∷ 10
    ∷ 111 ∷ 118 ∷ 101 ∷ 114 ∷ 108 ∷ 111 ∷ 97 ∷ 100 ∷ 32 ∷ 48 ∷ 10 ∷ []
unfolding closing_of field_of ended_of decimal_of
nothing_closed = refl

pub full_line : line_of 3 255 70 ≡ 51 ∷ 32 ∷ 50 ∷ 53 ∷ 53 ∷ 32 ∷ 55 ∷ 48 ∷ 10 ∷ []
unfolding line_of ended_of decimal_of
full_line = refl

-- ---- a put text stands between what was there
pub put_is : (t : List ℕ) (at : ℕ) (l : List ℕ) → at + length t ≤ length l
    → put t (written_of at l) ≡ written_of (at + length t) (take at l ++ t ++ drop (at + length t) l)
unfolding put
put_is t at l h = rw (sets-eq t l at h)

-- and a part of a buffer that takes its text puts it
pub put_part : (t : List ℕ) (at : ℕ) (l : List ℕ) → at + length t ≤ length l
    → written_of (at + length t) (take at l ++ (t ++ drop (at + length t - at) (drop at l))) ≡ put t (written_of at l)
put_part t at l h =
    let e : at + (at + length t - at) ≡ at + length t = omega arith in
    rw (put_is t at l h, append_assoc (take at l) t (drop (at + length t) l), drop-drop (at + length t - at) at l, e)
