-- The equalizer: 21 taps, centre 1, adaptation zero, every product made. Definitions only.
use Rattle.std.specs.Prelude.{ℕ, Bool, cond, ◌&&◌, List, get_or, set, replicate, Float}
use Rattle.std.specs.Float.{nan, binary32}
use Rattle.std.specs.Float.Ieee.{of_bits, add, mul, sub, div, neg, lt}
use Rattle.laws.specs.Turns.{turns}
use Rattle.numbers.specs.Constants.{zero32, one32}
use Rattle.numbers.specs.Numbers.{is_finite, clamp_of}
use Rattle.numbers.specs.Root.{sqrt_of}
use Rattle.complex.specs.declared.Complex32.{Complex32}
use Rattle.complex.specs.Complex.{zero_pair, sum_of, product_of, conjugate_product_of, power_of}
use Rattle.equalizer.specs.declared.Sums.{Sums}
use Rattle.equalizer.specs.declared.Equalized.{Equalized}

-- a row of 21 complex numbers, part by part
pub record Row : Type 0 where
  pub real : List Float
  pub imaginary : List Float

abbrev pub row_of : List Float → List Float → Row
row_of re im = record { real = re; imaginary = im }

abbrev pub tap_at : Row → ℕ → Complex32
tap_at row k = record { real = get_or row.real k nan; imaginary = get_or row.imaginary k nan }

abbrev pub half32 : Float
half32 = of_bits binary32 0x3f000000  -- 0.5

abbrev pub two32 : Float
two32 = of_bits binary32 0x40000000  -- 2

-- the fresh weights: the centre 1, all others zero
abbrev pub fresh_real : List Float
fresh_real = set (replicate 21 zero32) 10 one32

abbrev pub fresh_imaginary : List Float
fresh_imaginary = replicate 21 zero32

-- ---- the sums over the taps, from the first to the last
abbrev pub tapped_of : Sums → Complex32 → Complex32 → Complex32 → Sums
tapped_of s w x dx = record {
  value = sum_of s.value (product_of w x);
  derivative = sum_of s.derivative (product_of w dx);
  energy = add binary32 s.energy (power_of x);
}

abbrev pub no_sums : Sums
no_sums = record { value = zero_pair; derivative = zero_pair; energy = zero32 }

abbrev pub sums_turn : Row → Row → Row → ℕ → Sums → Sums
sums_turn w x dx k s = tapped_of s (tap_at w k) (tap_at x k) (tap_at dx k)

unfoldable pub tap_sums_of : Row → Row → Row → Sums
tap_sums_of w x dx = turns (sums_turn w x dx) 21 no_sums

-- ---- the weights

-- how fast the weights adapt to a constant modulus: not at all, but the product with it is made
abbrev pub adaptation : Float
adaptation = of_bits binary32 0x00000000  -- 0

-- adaptation times 1 less the power, kept in -2..1, over the energy
abbrev pub step_of : Float → Float → Float
step_of power energy =
    div binary32 (mul binary32 adaptation (clamp_of (sub binary32 one32 power) (neg two32) one32)) energy

-- a weight moved by step times the value times the conjugate of the window's value there
abbrev pub moved_of : Complex32 → Float → Complex32 → Complex32 → Complex32
moved_of value step x w = record {
  real = add binary32 w.real (mul binary32 step (conjugate_product_of value x).real);
  imaginary = add binary32 w.imaginary (mul binary32 step (conjugate_product_of value x).imaginary);
}

abbrev pub set_tap : Row → ℕ → Complex32 → Row
set_tap row k z = record { real = set row.real k z.real; imaginary = set row.imaginary k z.imaginary }

abbrev pub adapt_turn : Complex32 → Float → Row → ℕ → Row → Row
adapt_turn value step x k w = set_tap w k (moved_of value step (tap_at x k) (tap_at w k))

unfoldable pub adapted_of : Complex32 → Float → Row → Row → Row
adapted_of value step x w = turns (adapt_turn value step x) 21 w

abbrev pub norm_turn : Row → ℕ → Float → Float
norm_turn w k sum = add binary32 sum (power_of (tap_at w k))

unfoldable pub norm_of : Row → Float
norm_of w = turns (norm_turn w) 21 zero32

abbrev pub scale_turn : Float → ℕ → Row → Row
scale_turn gain k w = set_tap w k (record { real = mul binary32 (tap_at w k).real gain; imaginary = mul binary32 (tap_at w k).imaginary gain })

unfoldable pub scaled_by : Float → Row → Row
scaled_by gain w = turns (scale_turn gain) 21 w

-- the largest norm that is left alone, and its root
abbrev pub most_norm : Float
most_norm = of_bits binary32 0x41800000  -- 16

abbrev pub most_root : Float
most_root = of_bits binary32 0x40800000  -- 4

-- a norm above 16: every weight times 4 over its root
unfoldable pub limited_of : Row → Row
limited_of w = cond (lt most_norm (norm_of w)) (scaled_by (div binary32 most_root (sqrt_of binary32 (norm_of w))) w) w

-- the window's energy that is too little to learn from
abbrev pub least_energy : Float
least_energy = of_bits binary32 0x3c23d70a  -- 0.01

-- reliable, an energy above the least, and both numbers finite
abbrev pub learns_of : Bool → Float → Float → Bool
learns_of reliable energy power = reliable && lt least_energy energy && is_finite energy && is_finite power

unfoldable pub updated_of : Sums → Bool → Row → Row → Row
updated_of s reliable x w =
    cond (learns_of reliable s.energy (power_of s.value))
    (limited_of (adapted_of s.value (step_of (power_of s.value) s.energy) x w))
    w

-- ---- the answer

-- half the value times its derivative
abbrev pub slope_of : Sums → Float
slope_of s = mul binary32 half32 (conjugate_product_of s.value s.derivative).real

-- kept in -1..1, and a NaN kept; zero when unreliable
unfoldable pub timing_error_of : Sums → Bool → Float
timing_error_of s reliable = cond reliable (clamp_of (slope_of s) (neg one32) one32) zero32

-- one symbol, and the weights after it
pub record Step : Type 0 where
  pub equalized : Equalized
  pub weights : Row

abbrev pub step_from : Sums → Bool → Row → Row → Step
step_from s reliable x w = record { equalized = record { value = s.value; timing = timing_error_of s reliable }; weights = updated_of s reliable x w }

unfoldable pub equalized_of : Row → Row → Row → Bool → Step
equalized_of w x dx reliable = step_from (tap_sums_of w x dx) reliable x w
