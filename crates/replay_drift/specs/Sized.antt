-- How long the tracker's lists are, and that the step keeps it so. Assumes nothing.
use Rattle.std.specs.Prelude.{◌≡◌, Bool, List, ℕ, ◌+◌, length, Float}
use Rattle.std.proofs.Common.{ap, ◌∙◌}
use Rattle.laws.specs.Places.{length_upto}
use Rattle.complex.specs.declared.Complex32.{Complex32}
use Rattle.complex.specs.Planes.{Planes}
use Rattle.least_squares.specs.Lanes.{pairs_of, inverses_of}
use Rattle.drift_tracker.specs.Drift.{Memory, drifts_of, laid_out, advanced_of, followed_of}

pub record Sized (real imaginary drift inverse : List Float) : Type 0 where
  pub real_size : length real ≡ 256
  pub imaginary_size : length imaginary ≡ 256
  pub drift_size : length drift ≡ 512
  pub inverse_size : length inverse ≡ 8192

pairs_size : (half : ℕ) (f : ℕ → Complex32) → length (pairs_of half f) ≡ half + half
unfolding pairs_of
pairs_size half f = length_upto _ _

pub advanced_real : (c p : Planes) (d : List Float) → p ≡ advanced_of c d → length p.real ≡ 256
unfolding advanced_of
advanced_real c p d e = ap (λ (p : Planes). length p.real) e ∙ length_upto _ _

pub advanced_imaginary : (c p : Planes) (d : List Float) → p ≡ advanced_of c d → length p.imaginary ≡ 256
unfolding advanced_of
advanced_imaginary c p d e = ap (λ (p : Planes). length p.imaginary) e ∙ length_upto _ _

pub followed_sized : (m n : Memory) (parents : List ℕ) (predictions : Planes) (input : Complex32) (reliable : Bool) → n ≡ followed_of m parents predictions input reliable
    → Sized n.channels.real n.channels.imaginary n.drift n.inverse
unfolding followed_of laid_out drifts_of inverses_of
followed_sized m n parents predictions input reliable e = record {
  real_size = ap (λ (n : Memory). length n.channels.real) e ∙ length_upto _ _;
  imaginary_size = ap (λ (n : Memory). length n.channels.imaginary) e ∙ length_upto _ _;
  drift_size = ap (λ (n : Memory). length n.drift) e ∙ pairs_size _ _;
  inverse_size = ap (λ (n : Memory). length n.inverse) e ∙ pairs_size _ _;
}
