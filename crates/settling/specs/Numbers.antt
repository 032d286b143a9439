-- What stands at a place of the array of all inverses after a step, by the places of the rooms. Assumes nothing.
use Rattle.std.specs.Prelude.{◌≡◌, ℕ, ◌+◌, ◌*◌, ◌/◌, ◌%◌, ◌≤◌, ◌<◌, cond, List, ltb, Float}
use Rattle.std.proofs.Common.{ap, sym, ◌∙◌, arith, lt-ltb, le-ltb}
use Rattle.laws.specs.Places.{upto_at}
use Rattle.complex.specs.declared.Complex32.{Complex32}
use Rattle.complex.specs.Complex.{zero_pair, difference_of, product_of}
use Rattle.least_squares.specs.Lanes.{pair_at, inverse_in, row_in, state_at}
use Rattle.lane_sums.specs.LaneLaws.{lane_at}
use Rattle.least_squares.specs.LeastSquares.{memory, number_of, entry_of, table_of, over_of, conjugate_of, reduced_at, mean_of, settled_of}
use Rattle.least_squares.specs.Layout.{reduced_in, settled_at}
use Rattle.settling.specs.Layout.{settled_number}

-- a place of the quad q
pub number_of_place : (q e k n : ℕ) → n ≡ 256 * q + 4 * e + k → e < 64 → k < 4 → n / 4 % 64 ≡ e
number_of_place q e k n h b c = omega arith

pub lane_of_place : (q e k n : ℕ) → n ≡ 256 * q + 4 * e + k → e < 64 → k < 4 → state_at n % 16 ≡ 4 * (q % 4) + k
lane_of_place q e k n h b c =
    let a : n / 256 ≡ q = omega arith in
    let d : n % 4 ≡ k = omega arith in
    rw (a, d) (omega arith)

pub table_at : (f : ℕ → ℕ → Complex32) (i j e : ℕ) → i < 8 → j < 8 → e ≡ 8 * i + j → number_of (table_of f) e ≡ f i j
unfolding table_of
table_at f i j e h k q =
    let a : e / 8 ≡ i = omega arith in
    let b : e % 8 ≡ j = omega arith in
    upto_at (λ e. f (e / 8) (e % 8)) 64 e zero_pair (omega arith) ∙ rw (a, b)

module _ (w gain row : List Float) where
  -- a number less gain times row
  pub reduced_at_lem : (l i j a u v : ℕ) → i < 8 → j < 8 → a ≡ 128 * i + 16 * j + l → u ≡ 16 * i + l → v ≡ 16 * j + l
      → reduced_at (inverse_in w l) (row_in gain l) (row_in row l) i j ≡ reduced_in w gain row a u v
  reduced_at_lem l i j a u v h k p q r =
      let b : 8 * i + j < 64 = omega arith in
      let e : 16 * (8 * i + j) + l ≡ a = omega arith in
      let entry : entry_of (inverse_in w l) i j ≡ pair_at 1024 w a = lane_at 1024 64 w l (8 * i + j) b ∙ ap (pair_at 1024 w) e in
      let left : number_of (row_in gain l) i ≡ pair_at 128 gain u = lane_at 128 8 gain l i h ∙ ap (pair_at 128 gain) (sym q) in
      let right : number_of (row_in row l) j ≡ pair_at 128 row v = lane_at 128 8 row l j k ∙ ap (pair_at 128 row) (sym r) in
      λ t. over_of (difference_of (entry t) (product_of (left t) (right t))) memory

  -- what stands at (i, j) in the lane l
  abbrev settled_entry : ℕ → ℕ → ℕ → Complex32
  settled_entry l i j =
      cond (ltb i j)
      (mean_of (reduced_at (inverse_in w l) (row_in gain l) (row_in row l) i j) (reduced_at (inverse_in w l) (row_in gain l) (row_in row l) j i))
      (conjugate_of (mean_of (reduced_at (inverse_in w l) (row_in gain l) (row_in row l) j i) (reduced_at (inverse_in w l) (row_in gain l) (row_in row l) i j)))

  settled_entry_lem : (l i j n : ℕ) → i < 8 → j < 8 → state_at n % 16 ≡ l → n / 4 % 64 ≡ 8 * i + j → settled_number w gain row n ≡ settled_entry l i j
  unfolding settled_number settled_of
  settled_entry_lem l i j n h k lane e = rw lane (table_at (settled_entry l) i j (n / 4 % 64) h k e)

  module _ (l i j a b u v n : ℕ) (h : i < 8) (k : j < 8) (p : a ≡ 128 * i + 16 * j + l) (q : b ≡ 128 * j + 16 * i + l) (r : u ≡ 16 * i + l) (s : v ≡ 16 * j + l)
      (lane : state_at n % 16 ≡ l) where
    mean_at : mean_of (reduced_at (inverse_in w l) (row_in gain l) (row_in row l) i j) (reduced_at (inverse_in w l) (row_in gain l) (row_in row l) j i) ≡ settled_at w gain row a b u v
    mean_at = λ t. mean_of (reduced_at_lem l i j a u v h k p r s t) (reduced_at_lem l j i b v u k h q s r t)

    -- above the diagonal stands the mean, and across it its conjugate
    pub settled_above : n / 4 % 64 ≡ 8 * i + j → i < j → settled_number w gain row n ≡ settled_at w gain row a b u v
    settled_above e o = settled_entry_lem l i j n h k lane e ∙ rw (lt-ltb i j o) mean_at

    pub settled_below : n / 4 % 64 ≡ 8 * j + i → i ≤ j → settled_number w gain row n ≡ conjugate_of (settled_at w gain row a b u v)
    settled_below e o = settled_entry_lem l j i n k h lane e ∙ rw (le-ltb j i o) (ap conjugate_of mean_at)
