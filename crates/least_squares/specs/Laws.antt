-- How a tap is moved. Assumes nothing.
use Rattle.std.specs.Prelude.{◌≡◌, Bool, true, false, cond, Float}
use Rattle.std.proofs.Common.{ap, ◌∙◌}
use Rattle.complex.specs.declared.Complex32.{Complex32}
use Rattle.complex.specs.Complex.{sum_of, product_of}
use Rattle.least_squares.specs.LeastSquares.{moved_tap}

-- part by part
pub moved_is : (h gain error by z : Complex32) (usable : Bool) (x y : Float) → by ≡ product_of gain error → z ≡ sum_of h by
    → x ≡ cond usable z.real h.real → y ≡ cond usable z.imaginary h.imaginary
    → ◌≡◌ {A = Complex32} (record { real = x; imaginary = y }) (moved_tap h gain error usable)
unfolding moved_tap
moved_is h gain error by z true x y p e a b = (λ i. record { real = a i; imaginary = b i }) ∙ e ∙ ap (sum_of h) p
moved_is h gain error by z false x y p e a b = λ i. record { real = a i; imaginary = b i }
