-- What the proofs of the first tracker's functions apply, over plain variables. Assumes nothing.
use Rattle.std.specs.Prelude.{◌≡◌, List, length, set, get_or, Bool, Float}
use Rattle.std.proofs.Math.Path.{refl, sym}
use Rattle.std.proofs.Common.{ap, ◌∙◌, arith}
use Prim.Native.Nat.{ℕ, zero, suc, ◌+◌, ◌/◌, ◌%◌, ◌≤◌, ◌<◌}
use Rattle.std.proofs.Math.Bool.{true, false, cond}
use Rattle.std.specs.Float.{nan}
use Rattle.std.specs.Float.Ieee.{binary32, mul, div, lt}
use Rattle.laws.specs.Turns.{turns, turns_step}
use Rattle.laws.specs.Places.{upto, upto_at, upto_same, fill, fill_step}
use Rattle.complex.specs.declared.Complex32.{Complex32}
use Rattle.complex.specs.Complex.{difference_of, scaled_of}
use Rattle.numbers.specs.Root.{sqrt_of}
use Rattle.channels.specs.declared.channel.Taps.{Taps}
use Rattle.channels.specs.Stripes.{column, columns, columns_length, column_same}
use Rattle.complex.specs.Planes.{Planes, point_at}
use Rattle.channels.specs.Channels.{taps_of, tap_of, laid_out}
use Rattle.lms_tracker.specs.Tracker.{learnt_of, norm_of, most_power, most_size, gain_of, scaled_taps, limited_of, inherited_at, learnt_at, taps_after, followed_of}
use Rattle.lms_tracker.specs.Layout.{limited_part, limited_at, scaled_column, limit_column}

-- ---- the norms
pub norms_step : (f : ℕ → Taps) (s : ℕ) (l m : List Float) (n : Float) (t : Taps) → t ≡ f s → n ≡ norm_of t → m ≡ fill (λ k. norm_of (f k)) s l → set m s n ≡ fill (λ k. norm_of (f k)) (s + 1) l
norms_step f s l m n t e g h = fill_step (λ k. norm_of (f k)) s l m (set m s n) (ap (set m s) (g ∙ ap norm_of e)) h

-- ---- the limit
pub limit_yes : (norm root : Float) (s : ℕ) (l m : List Float) → lt most_power norm ≡ true → root ≡ sqrt_of binary32 norm
    → m ≡ scaled_column (div binary32 most_size root) s l → m ≡ limit_column norm s l
unfolding scaled_column limit_column limited_part gain_of
limit_yes norm root s l m t e h =
    h ∙ ap (λ (z : Float). column nan (λ t s x. mul binary32 x (div binary32 most_size z)) 4 s l) e
    ∙ ap (λ (b : Bool). column nan (λ t s x. cond b (mul binary32 x (div binary32 most_size (sqrt_of binary32 norm))) x) 4 s l) (sym t)

pub limit_no : (norm : Float) (s : ℕ) (l : List Float) → lt most_power norm ≡ false → l ≡ limit_column norm s l
unfolding limit_column limited_part
limit_no norm s l t = column_same nan (λ t s x. limited_part norm x) 4 s l (λ k x. rw t)

unfoldable pub limit_turn : List Float → ℕ → List Float → List Float
limit_turn norms = column nan (λ t s x. limited_part (get_or norms s nan) x) 4

pub limit_step : (norms : List Float) (s : ℕ) (l m v : List Float) → v ≡ limit_column (get_or norms s nan) s m → m ≡ turns (limit_turn norms) s l → v ≡ turns (limit_turn norms) (s + 1) l
unfolding limit_turn limit_column column
limit_step norms s l m v e h = e ∙ turns_step (limit_turn norms) s l m h

pub limit_length : (norms : List Float) (s : ℕ) (l m : List Float) → m ≡ turns (limit_turn norms) s l → length m ≡ length l
unfolding limit_turn
limit_length norms = columns_length nan (λ t s x. limited_part (get_or norms s nan) x) 4

pub limit_end : (norms : List Float) (s : ℕ) (l m : List Float) → m ≡ turns (limit_turn norms) s l → s ≤ 64 → 64 ≤ s → length l ≡ 256 → m ≡ upto (limited_at norms l) 256
unfolding limit_turn
limit_end norms = columns nan (λ t s x. limited_part (get_or norms s nan) x) 4

-- ---- the step
pub learnt_is : (c : Planes) (parents : List ℕ) (predictions : Planes) (input : Complex32) (s : ℕ) (r t : Taps) (e : Complex32)
    → t ≡ taps_of c (get_or parents s 0) → e ≡ difference_of input (point_at predictions s) → r ≡ learnt_of t e (s % 4) (get_or parents s 0) → r ≡ learnt_at c parents predictions input s
unfolding learnt_at
learnt_is c parents predictions input s r t e p q h = h ∙ ap (λ (z : Taps). learnt_of z e (s % 4) (get_or parents s 0)) p ∙ ap (λ (z : Complex32). learnt_of (taps_of c (get_or parents s 0)) z (s % 4) (get_or parents s 0)) q

-- limiting each part is limiting the taps
module _ (part : Complex32 → Float) (scales : (z : Complex32) (gain : Float) → part (scaled_of z gain) ≡ mul binary32 (part z) gain) where
  part_limited : (t : Taps) (k : ℕ) → k < 4 → limited_part (norm_of t) (part (tap_of t k)) ≡ part (tap_of (limited_of t) k)
  unfolding limited_part limited_of
  part_limited t k h = go (lt most_power (norm_of t)) k h
    where
      go : (b : Bool) (k : ℕ) → k < 4 → cond b (mul binary32 (part (tap_of t k)) (gain_of (norm_of t))) (part (tap_of t k)) ≡ part (tap_of (cond b (scaled_taps t (gain_of (norm_of t))) t) k)
      go true zero h = sym (scales t.main (gain_of (norm_of t)))
      go true (suc zero) h = sym (scales t.one (gain_of (norm_of t)))
      go true (suc (suc zero)) h = sym (scales t.two (gain_of (norm_of t)))
      go true (suc (suc (suc zero))) h = sym (scales t.three (gain_of (norm_of t)))
      go true (suc (suc (suc (suc k)))) h = absurd (omega arith)
      go false k h = refl

  plane_limited : (f : ℕ → Taps) (norms l m : List Float)
      → l ≡ upto (λ i. part (tap_of (f (i % 64)) (i / 64))) 256 → norms ≡ upto (λ s. norm_of (f s)) 64 → m ≡ upto (limited_at norms l) 256
      → m ≡ upto (λ i. part (tap_of (limited_of (f (i % 64))) (i / 64))) 256
  plane_limited f norms l m e g h =
      h ∙ upto_same (limited_at norms l) (λ i. part (tap_of (limited_of (f (i % 64))) (i / 64))) 256
      (λ i b. rw (e, g, upto_at (λ i. part (tap_of (f (i % 64)) (i / 64))) 256 i nan b, upto_at (λ s. norm_of (f s)) 64 (i % 64) nan (omega arith)) (part_limited (f (i % 64)) (i / 64) (omega arith)))

module _ (c : Planes) (parents : List ℕ) (predictions : Planes) (input : Complex32) (reliable : Bool) where
  pub followed_yes : (a b norms x y : List Float) → reliable ≡ true
      → a ≡ (laid_out (learnt_at c parents predictions input)).real → b ≡ (laid_out (learnt_at c parents predictions input)).imaginary → norms ≡ upto (λ s. norm_of (learnt_at c parents predictions input s)) 64
      → x ≡ upto (limited_at norms a) 256 → y ≡ upto (limited_at norms b) 256
      → ◌≡◌ {A = Planes} (record { real = x; imaginary = y }) (followed_of c parents predictions input reliable)
  unfolding laid_out followed_of taps_after
  followed_yes a b norms x y t p q n u v =
      rw (t, plane_limited (λ z. z.real) (λ z gain. refl) (learnt_at c parents predictions input) norms a x p n u, plane_limited (λ z. z.imaginary) (λ z gain. refl) (learnt_at c parents predictions input) norms b y q n v)

  pub followed_no : (x y : List Float) → reliable ≡ false → x ≡ (laid_out (inherited_at c parents)).real → y ≡ (laid_out (inherited_at c parents)).imaginary
      → ◌≡◌ {A = Planes} (record { real = x; imaginary = y }) (followed_of c parents predictions input reliable)
  unfolding laid_out followed_of taps_after
  followed_no x y t u v = rw (t, u, v)
