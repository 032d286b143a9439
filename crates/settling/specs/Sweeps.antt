-- The array of all inverses while it is written turn by turn: first fact, one turn, turns that write nothing. Assumes nothing.
use Rattle.std.specs.Prelude.{◌≡◌, refl, ℕ, ◌+◌, ◌-◌, ◌≤◌, ◌<◌, List, ltb, eqb, length, get_or, Float}
use Rattle.std.proofs.Common.{ap, ◌∙◌, lt-ltb, le-ltb, eq-eqb, ne_eqb}
use Rattle.std.proofs.Math.Path.{sym}
use Rattle.std.proofs.Math.Logic.{⊎_elim}
use native.Mathlib.Omega.{arith}
use Rattle.std.proofs.Math.Bool.{cond}
use Rattle.std.specs.Float.{nan}
use Rattle.laws.specs.Ring.{lt_or_ge}
use Rattle.laws.specs.Places.{upto_is, le_or}
use Rattle.complex.specs.declared.Complex32.{Complex32}
use Rattle.least_squares.specs.Lanes.{pair_at, pairs_of}
use Rattle.lane_sums.specs.LaneLaws.{pairs_at, pairs_length}
use Rattle.settling.specs.Layout.{swept, turned}

-- a list of pairs that has f's is f's list
pub pairs_is : (half : ℕ) (f : ℕ → Complex32) (v : List Float) → length v ≡ half + half → ((k : ℕ) → k < half → pair_at half v k ≡ f k) → v ≡ pairs_of half f
unfolding pairs_of
pairs_is half f v len h = upto_is (λ n. cond (ltb n half) (f n).real (f (n - half)).imaginary) (half + half) nan v len at
  where
    at : (n : ℕ) → n < half + half → get_or v n nan ≡ cond (ltb n half) (f n).real (f (n - half)).imaginary
    at n b =
        ⊎_elim
        (λ i. ap (λ (z : Complex32). z.real) (h n i) ∙ rw (lt-ltb n half i))
        (λ g. let p : n ≡ n - half + half = omega arith in
        ap (λ (k : ℕ). get_or v k nan) p ∙ ap (λ (z : Complex32). z.imaginary) (h (n - half) (omega arith)) ∙ rw (le-ltb n half g))
        (lt_or_ge n half)

-- a place of two lists that are one
pub place_of : (n : ℕ) {v m : List Float} → v ≡ m → pair_at 4096 v n ≡ pair_at 4096 m n
place_of n e = ap (λ (z : List Float). pair_at 4096 z n) e

module _ (t : ℕ → ℕ) (k : ℕ) (f : ℕ → Complex32) (l : List Float) where
  pub swept_length : length (swept t k f l) ≡ 8192
  unfolding swept
  swept_length = pairs_length 4096 (λ n. cond (ltb (t n) k) (f n) (pair_at 4096 l n))

  pub swept_in : (n : ℕ) → n < 4096 → t n < k → pair_at 4096 (swept t k f l) n ≡ f n
  unfolding swept
  swept_in n b h = pairs_at 4096 (λ n. cond (ltb (t n) k) (f n) (pair_at 4096 l n)) n b ∙ rw (lt-ltb (t n) k h)

  pub swept_out : (n : ℕ) → n < 4096 → k ≤ t n → pair_at 4096 (swept t k f l) n ≡ pair_at 4096 l n
  unfolding swept
  swept_out n b h = pairs_at 4096 (λ n. cond (ltb (t n) k) (f n) (pair_at 4096 l n)) n b ∙ rw (le-ltb (t n) k h)

  pub swept_is : (v : List Float) → length v ≡ 8192 → ((n : ℕ) → n < 4096 → t n < k → pair_at 4096 v n ≡ f n)
      → ((n : ℕ) → n < 4096 → k ≤ t n → pair_at 4096 v n ≡ pair_at 4096 l n) → v ≡ swept t k f l
  unfolding swept
  swept_is v len a b =
      pairs_is 4096 (λ n. cond (ltb (t n) k) (f n) (pair_at 4096 l n)) v len (λ n h.
      ⊎_elim (λ i. a n h i ∙ rw (lt-ltb (t n) k i)) (λ g. b n h g ∙ rw (le-ltb (t n) k g)) (lt_or_ge (t n) k))

  pub turned_length : length (turned t k f l) ≡ 8192
  unfolding turned
  turned_length = pairs_length 4096 (λ n. cond (eqb (t n) k) (f n) (pair_at 4096 l n))

  pub turned_in : (n : ℕ) → n < 4096 → t n ≡ k → pair_at 4096 (turned t k f l) n ≡ f n
  unfolding turned
  turned_in n b h = pairs_at 4096 (λ n. cond (eqb (t n) k) (f n) (pair_at 4096 l n)) n b ∙ rw (eq-eqb (t n) k h)

  pub turned_out : (n : ℕ) → n < 4096 → (t n ≡ k → ⊥) → pair_at 4096 (turned t k f l) n ≡ pair_at 4096 l n
  unfolding turned
  turned_out n b h = pairs_at 4096 (λ n. cond (eqb (t n) k) (f n) (pair_at 4096 l n)) n b ∙ rw (ne_eqb (t n) k h)

  pub turned_is : (v : List Float) → length v ≡ 8192 → ((n : ℕ) → n < 4096 → t n ≡ k → pair_at 4096 v n ≡ f n)
      → ((n : ℕ) → n < 4096 → (t n ≡ k → ⊥) → pair_at 4096 v n ≡ pair_at 4096 l n) → v ≡ turned t k f l
  unfolding turned
  turned_is v len a b =
      pairs_is 4096 (λ n. cond (eqb (t n) k) (f n) (pair_at 4096 l n)) v len (λ n h.
      ⊎_elim
      (λ i. let no : t n ≡ k → ⊥ = λ e. omega arith in b n h no ∙ rw (ne_eqb (t n) k no))
      (λ g. ⊎_elim
      (λ i. let no : t n ≡ k → ⊥ = λ e. omega arith in b n h no ∙ rw (ne_eqb (t n) k no))
      (λ e. let q : t n ≡ k = sym e in a n h q ∙ rw (eq-eqb (t n) k q))
      (le_or k (t n) g))
      (lt_or_ge (t n) k))

pub turned_fits : (t : ℕ → ℕ) (k : ℕ) (f : ℕ → Complex32) (l v : List Float) → v ≡ turned t k f l → length v ≡ 8192
turned_fits t k f l v e = ap length e ∙ turned_length t k f l

pub swept_fits : (t : ℕ → ℕ) (k : ℕ) (f : ℕ → Complex32) (l v : List Float) → v ≡ swept t k f l → length v ≡ 8192
swept_fits t k f l v e = ap length e ∙ swept_length t k f l

-- ---- a loop's first fact, its turn, and turns that write nothing
pub swept_start : (t : ℕ → ℕ) (f : ℕ → Complex32) (l : List Float) → length l ≡ 8192 → l ≡ swept t 0 f l
swept_start t f l len = swept_is t 0 f l l len (λ n b h. absurd (omega arith)) (λ n b h. refl)

pub swept_turn : (t : ℕ → ℕ) (k next : ℕ) (f : ℕ → Complex32) (l m v : List Float) → v ≡ turned t k f m → m ≡ swept t k f l → next ≡ k + 1 → v ≡ swept t next f l
swept_turn t k next f l m v e h q =
    swept_is t next f l v (ap length e ∙ turned_length t k f m)
    (λ n b i. ⊎_elim
    (λ a. let no : t n ≡ k → ⊥ = λ o. omega arith in
    place_of n e ∙ turned_out t k f m n b no ∙ place_of n h ∙ swept_in t k f l n b a)
    (λ a. place_of n e ∙ turned_in t k f m n b (omega arith))
    (lt_or_ge (t n) k))
    (λ n b i. let no : t n ≡ k → ⊥ = λ o. omega arith in
    place_of n e ∙ turned_out t k f m n b no ∙ place_of n h ∙ swept_out t k f l n b (omega arith))

pub swept_skip : (t : ℕ → ℕ) (k next : ℕ) (f : ℕ → Complex32) (l v : List Float) → v ≡ swept t k f l → k ≤ next → ((n : ℕ) → n < 4096 → t n < next → t n < k) → v ≡ swept t next f l
swept_skip t k next f l v h q none =
    swept_is t next f l v (ap length h ∙ swept_length t k f l)
    (λ n b i. place_of n h ∙ swept_in t k f l n b (none n b i))
    (λ n b i. place_of n h ∙ swept_out t k f l n b (omega arith))
