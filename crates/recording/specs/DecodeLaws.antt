-- Bytes read one at a time are the bytes from a place on. Assumes nothing.
use Rattle.std.specs.Prelude.{◌≡◌, List, [], ◌∷◌, ◌++◌, ℕ, suc, ◌+◌, ◌≤◌, ◌<◌, length, get_or, set, take, drop, Float}
use Rattle.std.proofs.Common.{ap, sym, ◌∙◌, arith, drop-cons}
use Rattle.std.specs.Int.{w32, from_le_bytes}
use Rattle.laws.specs.Turns.{turns_end}
use Rattle.laws.specs.Places.{fill, turns_fill}
use Rattle.numbers.specs.Bits.{little_endian}
use Rattle.recording.specs.Decode.{word_at, float_at, floats_of}

-- the first of them, and the rest
first_byte : (s : List ℕ) (i k w : ℕ) → i + suc k ≤ length s → take (suc w) (drop (i + k) s) ≡ get_or s (i + k) 0 ∷ take w (drop (i + suc k) s)
first_byte s i k w h =
    let e : suc (i + k) ≡ i + suc k = omega arith in
    let l : i + k < length s = omega arith in
    rw (drop-cons s (i + k) 0 l, e)

four_bytes : (s : List ℕ) (i k w : ℕ) → i + (k + 4) ≤ length s
    → take (suc (suc (suc (suc w)))) (drop (i + k) s)
    ≡ get_or s (i + k) 0 ∷ get_or s (i + suc k) 0 ∷ get_or s (i + suc (suc k)) 0 ∷ get_or s (i + suc (suc (suc k))) 0 ∷ take w (drop (i + suc (suc (suc (suc k)))) s)
four_bytes s i k w h =
    rw (
      first_byte s i k (suc (suc (suc w))) (omega arith),
      first_byte s i (suc k) (suc (suc w)) (omega arith),
      first_byte s i (suc (suc k)) (suc w) (omega arith),
      first_byte s i (suc (suc (suc k))) w (omega arith),
    )

four_from : (s : List ℕ) (i : ℕ) → i + 4 ≤ length s → get_or s i 0 ∷ get_or s (i + 1) 0 ∷ get_or s (i + 2) 0 ∷ get_or s (i + 3) 0 ∷ [] ≡ take 4 (drop i s)
four_from s i h = let e : i + 0 ≡ i = omega arith in rw e at (sym (four_bytes s i 0 0 (omega arith)))

pub word_four : (s : List ℕ) (i : ℕ) → i + 4 ≤ length s
    → little_endian (get_or s i 0 ∷ get_or s (i + 1) 0 ∷ get_or s (i + 2) 0 ∷ get_or s (i + 3) 0 ∷ []) ≡ word_at 4 s i
unfolding word_at
word_four s i h = ap little_endian (four_from s i h)

eight_from : (s : List ℕ) (i : ℕ) → i + 8 ≤ length s
    → get_or s i 0 ∷ get_or s (i + 1) 0 ∷ get_or s (i + 2) 0 ∷ get_or s (i + 3) 0 ∷ get_or s (i + 4) 0 ∷ get_or s (i + 5) 0 ∷ get_or s (i + 6) 0 ∷ get_or s (i + 7) 0 ∷ [] ≡ take 8 (drop i s)
eight_from s i h =
    let e : i + 0 ≡ i = omega arith in
    rw (e, four_bytes s i 4 0 (omega arith)) at (sym (four_bytes s i 0 4 (omega arith)))

pub word_eight : (s : List ℕ) (i : ℕ) → i + 8 ≤ length s
    → little_endian (get_or s i 0 ∷ get_or s (i + 1) 0 ∷ get_or s (i + 2) 0 ∷ get_or s (i + 3) 0 ∷ get_or s (i + 4) 0 ∷ get_or s (i + 5) 0 ∷ get_or s (i + 6) 0 ∷ get_or s (i + 7) 0 ∷ []) ≡ word_at 8 s i
unfolding word_at
word_eight s i h = ap little_endian (eight_from s i h)

-- four bytes as a number in the library's words
pub four_are : (s : List ℕ) → length s ≡ 4 → from_le_bytes w32 s ≡ little_endian s
four_are [] h = omega arith
four_are (a ∷ []) h = omega arith
four_are (a ∷ b ∷ []) h = omega arith
four_are (a ∷ b ∷ c ∷ []) h = omega arith
four_are (a ∷ b ∷ c ∷ d ∷ []) h = omega arith
four_are (a ∷ b ∷ c ∷ d ∷ e ∷ s) h = omega arith

-- a row of floats, stored from the start on
pub filled_end : (source : List ℕ) (i n : ℕ) (l m : List Float) → m ≡ fill (float_at source) i l → i ≤ n → n ≤ i → n ≤ length l
    → m ≡ floats_of n source ++ drop n l
unfolding fill floats_of
filled_end source i n l m h le ge room = turns_end (λ k r. set r k (float_at source k)) i n l m h le ge ∙ turns_fill (float_at source) n l room
