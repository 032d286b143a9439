-- What the proofs of the channels' functions and of those above apply, over plain variables. Assumes nothing.
use Rattle.std.specs.Prelude.{◌≡◌, refl, ℕ, zero, suc, ◌+◌, ◌/◌, ◌%◌, ◌≤◌, ◌<◌, List, length, set, get_or, Float}
use Rattle.std.proofs.Common.{ap, ◌∙◌, arith}
use Rattle.std.specs.Float.{nan}
use Rattle.std.specs.Float.Ieee.{neg}
use Rattle.laws.specs.Turns.{turns, turns_step}
use Rattle.laws.specs.Places.{upto, length_upto, upto_at}
use Rattle.complex.specs.declared.Complex32.{Complex32}
use Rattle.channels.specs.declared.channel.Taps.{Taps}
use Rattle.channels.specs.Stripes.{column, columns, columns_length}
use Rattle.complex.specs.Planes.{Planes}
use Rattle.channels.specs.Channels.{level, real_of, imaginary_of, symbol_of, term_of, prediction_of, tap_of, laid_out}
use Rattle.channels.specs.Layout.{past_of, predicted_of, put_of}

-- ---- the symbols' signs
pub real_plus : (k : ℕ) → k < 4 → (k + 1) % 4 < 2 → level ≡ real_of k
real_plus zero h l = refl
real_plus (suc zero) h l = absurd (omega arith)
real_plus (suc (suc zero)) h l = absurd (omega arith)
real_plus (suc (suc (suc zero))) h l = refl
real_plus (suc (suc (suc (suc k)))) h l = absurd (omega arith)

pub real_minus : (k : ℕ) → k < 4 → 2 ≤ (k + 1) % 4 → neg level ≡ real_of k
real_minus zero h l = absurd (omega arith)
real_minus (suc zero) h l = refl
real_minus (suc (suc zero)) h l = refl
real_minus (suc (suc (suc zero))) h l = absurd (omega arith)
real_minus (suc (suc (suc (suc k)))) h l = absurd (omega arith)

pub imaginary_plus : (k : ℕ) → k < 2 → level ≡ imaginary_of k
imaginary_plus zero h = refl
imaginary_plus (suc zero) h = refl
imaginary_plus (suc (suc k)) h = absurd (omega arith)

pub imaginary_minus : (k : ℕ) → k < 4 → 2 ≤ k → neg level ≡ imaginary_of k
imaginary_minus zero h l = absurd (omega arith)
imaginary_minus (suc zero) h l = absurd (omega arith)
imaginary_minus (suc (suc zero)) h l = refl
imaginary_minus (suc (suc (suc zero))) h l = refl
imaginary_minus (suc (suc (suc (suc k)))) h l = absurd (omega arith)

-- ---- the past terms' planes
unfoldable pub past_turn : (Complex32 → Float) → Planes → ℕ → List Float → List Float
past_turn part c = column nan (λ t p x. part (past_of c t p)) 3

pub past_step : (part : Complex32 → Float) (c : Planes) (p : ℕ) (l m : List Float) (one two three : Complex32)
    → one ≡ term_of c (p + 64) (p % 4) → two ≡ term_of c (p + 128) (p / 4 % 4) → three ≡ term_of c (p + 192) (p / 16)
    → m ≡ turns (past_turn part c) p l
    → set (set (set m p (part one)) (p + 64) (part two)) (p + 128) (part three) ≡ turns (past_turn part c) (p + 1) l
unfolding past_turn column
past_step part c p l m one two three e f g h = rw (e, f, g) (turns_step (past_turn part c) p l m h)

pub past_end : (part : Complex32 → Float) (c : Planes) (p : ℕ) (l m : List Float) → m ≡ turns (past_turn part c) p l → p ≤ 64 → 64 ≤ p → length l ≡ 192
    → m ≡ upto (λ i. part (past_of c (i / 64) (i % 64))) 192
unfolding past_turn
past_end part c = columns nan (λ t p x. part (past_of c t p)) 3

-- ---- the prediction from the planes is the prediction
pub prediction_is : (c past : Planes) (k p : ℕ) → p < 64
    → past.real ≡ upto (λ i. (past_of c (i / 64) (i % 64)).real) 192 → past.imaginary ≡ upto (λ i. (past_of c (i / 64) (i % 64)).imaginary) 192
    → predicted_of c past (symbol_of k) p ≡ prediction_of c k p
prediction_is c past k p h e f =
    rw (
      real_is 0 p (omega arith) (omega arith) (omega arith),
      real_is 1 (p + 64) (omega arith) (omega arith) (omega arith),
      real_is 2 (p + 128) (omega arith) (omega arith) (omega arith),
      imaginary_is 0 p (omega arith) (omega arith) (omega arith),
      imaginary_is 1 (p + 64) (omega arith) (omega arith) (omega arith),
      imaginary_is 2 (p + 128) (omega arith) (omega arith) (omega arith),
    )
  where
    real_is : (t i : ℕ) → i < 192 → i / 64 ≡ t → i % 64 ≡ p → get_or past.real i nan ≡ (past_of c t p).real
    real_is t i b q r = rw (e, upto_at (λ i. (past_of c (i / 64) (i % 64)).real) 192 i nan b, q, r)

    imaginary_is : (t i : ℕ) → i < 192 → i / 64 ≡ t → i % 64 ≡ p → get_or past.imaginary i nan ≡ (past_of c t p).imaginary
    imaginary_is t i b q r = rw (f, upto_at (λ i. (past_of c (i / 64) (i % 64)).imaginary) 192 i nan b, q, r)

-- ---- a loop that lays out each state's taps
unfoldable pub put_turn : (Complex32 → Float) → (ℕ → Taps) → ℕ → List Float → List Float
put_turn part f = column nan (λ k s x. part (tap_of (f s) k)) 4

pub put_step : (part : Complex32 → Float) (f : ℕ → Taps) (s : ℕ) (l m v : List Float) (t : Taps)
    → t ≡ f s → v ≡ put_of m s (part t.main) (part t.one) (part t.two) (part t.three)
    → m ≡ turns (put_turn part f) s l → v ≡ turns (put_turn part f) (s + 1) l
unfolding put_turn column
put_step part f s l m v t e g h = g ∙ rw e (turns_step (put_turn part f) s l m h)

pub put_length : (part : Complex32 → Float) (f : ℕ → Taps) (s : ℕ) (l m : List Float) → m ≡ turns (put_turn part f) s l → length m ≡ length l
unfolding put_turn
put_length part f = columns_length nan (λ k s x. part (tap_of (f s) k)) 4

put_end : (part : Complex32 → Float) (f : ℕ → Taps) (s : ℕ) (l m : List Float) → m ≡ turns (put_turn part f) s l → s ≤ 64 → 64 ≤ s → length l ≡ 256
    → m ≡ upto (λ i. part (tap_of (f (i % 64)) (i / 64))) 256
unfolding put_turn
put_end part f = columns nan (λ k s x. part (tap_of (f s) k)) 4

pub real_end : (f : ℕ → Taps) (s : ℕ) (l m : List Float) → m ≡ turns (put_turn (λ z. z.real) f) s l → s ≤ 64 → 64 ≤ s → length l ≡ 256 → m ≡ (laid_out f).real
unfolding laid_out
real_end = put_end (λ z. z.real)

pub imaginary_end : (f : ℕ → Taps) (s : ℕ) (l m : List Float) → m ≡ turns (put_turn (λ z. z.imaginary) f) s l → s ≤ 64 → 64 ≤ s → length l ≡ 256 → m ≡ (laid_out f).imaginary
unfolding laid_out
imaginary_end = put_end (λ z. z.imaginary)

-- a plane of it has 256 places
pub real_length : (f : ℕ → Taps) (l : List Float) → l ≡ (laid_out f).real → length l ≡ 256
unfolding laid_out
real_length f l h = ap length h ∙ length_upto _ 256

pub imaginary_length : (f : ℕ → Taps) (l : List Float) → l ≡ (laid_out f).imaginary → length l ≡ 256
unfolding laid_out
imaginary_length f l h = ap length h ∙ length_upto _ 256
