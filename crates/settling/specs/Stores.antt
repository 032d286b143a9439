-- Runs of four stores, and what they leave at a place. Assumes nothing.
use Rattle.std.specs.Prelude.{◌≡◌, ◌⊎◌, ℕ, ◌+◌, ◌-◌, ◌≤◌, ◌<◌, List, length, get_or, set, Float}
use Rattle.std.proofs.Common.{ap, ◌∙◌, inl, inr, ⊎_elim, arith, length-set, get_or-set_same, get_or-set_other}
use Rattle.std.specs.Float.{nan}
use Rattle.laws.specs.Ring.{lt_or_ge}
use Rattle.laws.specs.Places.{skip2, skip3, skip4}
use Rattle.complex.specs.declared.Complex32.{Complex32}
use Rattle.least_squares.specs.Lanes.{pair_at}
use Rattle.settling.specs.Layout.{four_of}

module _ (l : List Float) (at : ℕ) (x0 x1 x2 x3 : Float) where
  pub four_length : length (four_of l at x0 x1 x2 x3) ≡ length l
  four_length =
      length-set (set (set (set l at x0) (at + 1) x1) (at + 2) x2) (at + 3) x3
      ∙ length-set (set (set l at x0) (at + 1) x1) (at + 2) x2
      ∙ length-set (set l at x0) (at + 1) x1
      ∙ length-set l at x0

  pub four_out : (n : ℕ) → (n < at) ⊎ (at + 4 ≤ n) → get_or (four_of l at x0 x1 x2 x3) n nan ≡ get_or l n nan
  four_out n h =
      skip4 l at (at + 1) (at + 2) (at + 3) x0 x1 x2 x3 n nan
      (λ e. ⊎_elim (λ a. omega arith) (λ a. omega arith) h) (λ e. ⊎_elim (λ a. omega arith) (λ a. omega arith) h)
      (λ e. ⊎_elim (λ a. omega arith) (λ a. omega arith) h) (λ e. ⊎_elim (λ a. omega arith) (λ a. omega arith) h)

  pub four_in : (h : ℕ → Float) (n : ℕ) → at + 4 ≤ length l → x0 ≡ h at → x1 ≡ h (at + 1) → x2 ≡ h (at + 2) → x3 ≡ h (at + 3)
      → at ≤ n → n < at + 4 → get_or (four_of l at x0 x1 x2 x3) n nan ≡ h n
  four_in h n room e0 e1 e2 e3 low high =
      let second : at + 1 < length l = omega arith in
      let third : at + 2 < length l = omega arith in
      let fourth : at + 3 < length l = omega arith in
      ⊎_elim
      (λ a. ⊎_elim
      (λ b. let q : n ≡ at = omega arith in
      rw q (skip3 (set l at x0) (at + 1) (at + 2) (at + 3) x1 x2 x3 at nan (λ o. omega arith) (λ o. omega arith) (λ o. omega arith)
      ∙ get_or-set_same l at x0 nan (omega arith) ∙ e0))
      (λ b. let q : n ≡ at + 1 = omega arith in
      rw q (skip2 (set (set l at x0) (at + 1) x1) (at + 2) (at + 3) x2 x3 (at + 1) nan (λ o. omega arith) (λ o. omega arith)
      ∙ get_or-set_same (set l at x0) (at + 1) x1 nan (rw (length-set l at x0) second) ∙ e1))
      (lt_or_ge n (at + 1)))
      (λ a. ⊎_elim
      (λ b. let q : n ≡ at + 2 = omega arith in
      rw q (get_or-set_other (set (set (set l at x0) (at + 1) x1) (at + 2) x2) (at + 3) (at + 2) x3 nan (λ o. omega arith)
      ∙ get_or-set_same (set (set l at x0) (at + 1) x1) (at + 2) x2 nan (rw (length-set (set l at x0) (at + 1) x1, length-set l at x0) third) ∙ e2))
      (λ b. let q : n ≡ at + 3 = omega arith in
      rw q (get_or-set_same (set (set (set l at x0) (at + 1) x1) (at + 2) x2) (at + 3) x3 nan
      (rw (length-set (set (set l at x0) (at + 1) x1) (at + 2) x2, length-set (set l at x0) (at + 1) x1, length-set l at x0) fourth) ∙ e3))
      (lt_or_ge n (at + 3)))
      (lt_or_ge n (at + 2))

abbrev real_part : Complex32 → Float
real_part z = z.real

abbrev imaginary_part : Complex32 → Float
imaginary_part z = z.imaginary

-- four complex numbers from a place on: real parts, and imaginary parts 4,096 further
module _ (l : List Float) (at : ℕ) (x0 x1 x2 x3 y0 y1 y2 y3 : Float) (room : at + 4 ≤ 4096) (len : length l ≡ 8192) where
  pub pairs_four_length : length (four_of (four_of l at x0 x1 x2 x3) (at + 4096) y0 y1 y2 y3) ≡ 8192
  pairs_four_length = four_length (four_of l at x0 x1 x2 x3) (at + 4096) y0 y1 y2 y3 ∙ four_length l at x0 x1 x2 x3 ∙ len

  pub pairs_four_out : (n : ℕ) → n < 4096 → (n < at) ⊎ (at + 4 ≤ n) → pair_at 4096 (four_of (four_of l at x0 x1 x2 x3) (at + 4096) y0 y1 y2 y3) n ≡ pair_at 4096 l n
  pairs_four_out n b h =
      let real = four_out (four_of l at x0 x1 x2 x3) (at + 4096) y0 y1 y2 y3 n (inl (omega arith)) ∙ four_out l at x0 x1 x2 x3 n h in
      let far : (n + 4096 < at + 4096) ⊎ (at + 4096 + 4 ≤ n + 4096) = ⊎_elim (λ a. inl (omega arith)) (λ a. inr (omega arith)) h in
      let imaginary = four_out (four_of l at x0 x1 x2 x3) (at + 4096) y0 y1 y2 y3 (n + 4096) far ∙ four_out l at x0 x1 x2 x3 (n + 4096) (inr (omega arith)) in
      λ i. record { real = real i; imaginary = imaginary i }

  pub pairs_four_in : (f : ℕ → Complex32) (n : ℕ) → record { real = x0; imaginary = y0 } ≡ f at → record { real = x1; imaginary = y1 } ≡ f (at + 1)
      → record { real = x2; imaginary = y2 } ≡ f (at + 2) → record { real = x3; imaginary = y3 } ≡ f (at + 3)
      → at ≤ n → n < at + 4 → pair_at 4096 (four_of (four_of l at x0 x1 x2 x3) (at + 4096) y0 y1 y2 y3) n ≡ f n
  pairs_four_in f n e0 e1 e2 e3 low high =
      let real =
      four_out (four_of l at x0 x1 x2 x3) (at + 4096) y0 y1 y2 y3 n (inl (omega arith))
      ∙ four_in l at x0 x1 x2 x3 (λ n. (f n).real) n (omega arith) (ap real_part e0) (ap real_part e1) (ap real_part e2) (ap real_part e3) low high in
      let h : ℕ → Float = λ n. (f (n - 4096)).imaginary in
      let q0 : at ≡ at + 4096 - 4096 = omega arith in
      let q1 : at + 1 ≡ at + 4096 + 1 - 4096 = omega arith in
      let q2 : at + 2 ≡ at + 4096 + 2 - 4096 = omega arith in
      let q3 : at + 3 ≡ at + 4096 + 3 - 4096 = omega arith in
      let q : n + 4096 - 4096 ≡ n = omega arith in
      let len2 : length (four_of l at x0 x1 x2 x3) ≡ 8192 = four_length l at x0 x1 x2 x3 ∙ len in
      let imaginary =
      four_in (four_of l at x0 x1 x2 x3) (at + 4096) y0 y1 y2 y3 h (n + 4096) (rw len2 (omega arith))
      (ap imaginary_part (e0 ∙ ap f q0)) (ap imaginary_part (e1 ∙ ap f q1)) (ap imaginary_part (e2 ∙ ap f q2)) (ap imaginary_part (e3 ∙ ap f q3)) (omega arith) (omega arith)
      ∙ ap (λ (k : ℕ). (f k).imaginary) q in
      λ i. record { real = real i; imaginary = imaginary i }
