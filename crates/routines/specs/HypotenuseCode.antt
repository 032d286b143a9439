-- What the code of the hypotenuse makes on each way out. Assumes nothing.
use Rattle.std.specs.Prelude.{◌≡◌, ℕ, ◌+◌, ◌/◌, ◌%◌, ◌<◌, ◌≤◌, Bool, true, false, cond, not, ◌||◌, T, refl, Float}
use Rattle.std.proofs.Common.{sym, ap, ◌∙◌, subst, mod-lt, zero-lt-suc, zero-add, arith, true≢false}
use Rattle.std.specs.Float.{nan, inf, fin, binary32, binary64}
use Rattle.std.specs.Float.Ieee.{add, mul, eq, ne, nan_bits}
use Rattle.std.specs.Float.Ieee.Compare.{differs_from_itself}
use Rattle.laws.specs.FloatPack.{no_nan_bits}
use Rattle.numbers.specs.Numbers.{convert}
use Rattle.numbers.specs.Root.{sqrt_of}
use Rattle.routines.specs.Hypotenuse.{infinite, root_of_squares, hypotenuse_of}
use Rattle.routines.specs.HypotenuseLaws.{or_true, root_nan}

pub infinite_up : (x : Float) → eq x (inf false) ≡ true → true ≡ infinite x
unfolding eq infinite
infinite_up nan h = sym h
infinite_up (inf s) h = refl
infinite_up (fin s m e) h = sym h

pub infinite_down : (x : Float) → eq x (inf false) ≡ false → eq x (inf true) ≡ infinite x
unfolding eq infinite
infinite_down nan h = refl
infinite_down (inf true) h = refl
infinite_down (inf false) h = absurd (true≢false h)
infinite_down (fin s m e) h = refl

pub wins_first : (x y : Float) → infinite x ≡ true → inf false ≡ hypotenuse_of x y
unfolding hypotenuse_of
wins_first x y h = sym (ap (λ (b : Bool). cond (b || infinite y) (inf false) (root_of_squares x y)) h)

pub wins_second : (x y : Float) → infinite y ≡ true → inf false ≡ hypotenuse_of x y
unfolding hypotenuse_of
wins_second x y h = sym (ap (λ (b : Bool). cond (infinite x || b) (inf false) (root_of_squares x y)) h ∙ ap (λ (b : Bool). cond b (inf false) (root_of_squares x y)) (or_true (infinite x)))

pub wins_none : (x y : Float) → infinite x ≡ false → infinite y ≡ false → root_of_squares x y ≡ hypotenuse_of x y
unfolding hypotenuse_of
wins_none x y h k = sym (ap (λ (b : Bool). cond (b || infinite y) (inf false) (root_of_squares x y)) h ∙ ap (λ (b : Bool). cond b (inf false) (root_of_squares x y)) k)

pub squares_made : (x y a b r : Float) → a ≡ x → b ≡ y → r ≡ convert binary32 (sqrt_of binary64 (add binary64 (mul binary64 a a) (mul binary64 b b))) → r ≡ root_of_squares x y
unfolding root_of_squares
squares_made x y a b r ea eb er =
    er
    ∙ ap (λ (z : Float). convert binary32 (sqrt_of binary64 (add binary64 (mul binary64 z z) (mul binary64 b b)))) ea
    ∙ ap (λ (z : Float). convert binary32 (sqrt_of binary64 (add binary64 (mul binary64 x x) (mul binary64 z z)))) eb

pub root_of_nan : (s : Float) → ne s s ≡ true → nan ≡ convert binary32 (sqrt_of binary64 s)
root_of_nan s h = sym (ap (λ (z : Float). convert binary32 (sqrt_of binary64 z)) (differs_from_itself s (subst T (sym h) tt)) ∙ root_nan)

-- half a pattern and the guess's constant make no NaN's pattern
pub half_bits : (b : ℕ) → T (not (nan_bits binary64 (b % 0x8000_0000_0000_0000 / 2 + 0x1ff7_a3be_a91d_9b1b)))
half_bits b =
    let n = b % 0x8000_0000_0000_0000 / 2 + 0x1ff7_a3be_a91d_9b1b in
    subst (λ (k : ℕ). T (not (nan_bits binary64 k))) (zero-add n) (no_nan_bits binary64 false n (below (b % 0x8000_0000_0000_0000) (mod-lt b (zero-lt-suc 0x7fff_ffff_ffff_ffff))))
  where
    below : (n : ℕ) → n < 0x8000_0000_0000_0000 → n / 2 + 0x1ff7_a3be_a91d_9b1b ≤ 0x7ff0_0000_0000_0000
    below n h = omega arith
