-- The mixer: the oscillator's turn, and the sample times the oscillator, in the Rust's order of operations. Definitions only.
use Rattle.std.specs.Prelude.{◌+◌, ◌<◌, Bool, false, cond, not, T, eqb, ltb, ℤ, pos, negsuc, Float}
use Rattle.std.specs.Float.{binary64}
use Rattle.std.specs.Float.Ieee.{of_bits, add, sub, mul, div, neg, is_nan}
use Rattle.numbers.specs.Constants.{zero64, one64}
use Rattle.numbers.specs.Root.{sqrt_of}
use Rattle.routines.specs.Circle.{sine_of, cosine_of}
use Rattle.complex.specs.Complex.{narrowed_of}
use Rattle.complex.specs.declared.Complex32.{Complex32}
use Rattle.complex.specs.declared.Complex64.{Complex64}
use Rattle.oscillator.specs.declared.Oscillator.{Oscillator}
use Rattle.oscillator.specs.declared.Step.{Step}

abbrev pub minus_two64 : Float
minus_two64 = of_bits binary64 0xc000_0000_0000_0000  -- -2

abbrev pub pi64 : Float
pi64 = of_bits binary64 0x4009_21fb_5444_2d18  -- 3.141592653589793

-- the angle of a step: -2 pi offset / rate
abbrev pub angle_of : Float → Float → Float
angle_of rate offset = div binary64 (mul binary64 (mul binary64 minus_two64 pi64) offset) rate

-- starts at 1, and turns by the angle a sample
abbrev pub fresh_of : Float → Float → Oscillator
fresh_of rate offset = record {
  real = one64;
  imaginary = zero64;
  step_real = cosine_of (angle_of rate offset);
  step_imaginary = sine_of (angle_of rate offset);
  renormalize = 0;
}

-- ---- may this oscillator be run: fewer than 4,096 turns since it was brought to size 1
abbrev pub admitted_of : Oscillator → Bool
admitted_of o = ltb o.renormalize 4096

-- the same as a fact
pub record Admitted (o : Oscillator) : Type 0 where
  pub renormalize_in : o.renormalize < 4096

-- ---- the turn

-- the oscillator times its step
abbrev pub moved_of : Oscillator → Oscillator
moved_of o = record {
  real = sub binary64 (mul binary64 o.real o.step_real) (mul binary64 o.imaginary o.step_imaginary);
  imaginary = add binary64 (mul binary64 o.real o.step_imaginary) (mul binary64 o.imaginary o.step_real);
  step_real = o.step_real;
  step_imaginary = o.step_imaginary;
  renormalize = o.renormalize + 1;
}

-- divided by its size
abbrev pub size_of : Oscillator → Float
size_of o = sqrt_of binary64 (add binary64 (mul binary64 o.real o.real) (mul binary64 o.imaginary o.imaginary))

abbrev pub renormalized_of : Oscillator → Oscillator
renormalized_of o = record { real = div binary64 o.real (size_of o); imaginary = div binary64 o.imaginary (size_of o); step_real = o.step_real; step_imaginary = o.step_imaginary; renormalize = 0 }

-- one step on; every 4,096th renormalises
unfoldable pub turned_of : Oscillator → Oscillator
turned_of o = cond (eqb (o.renormalize + 1) 4096) (renormalized_of (moved_of o)) (moved_of o)

-- ---- a sample

-- no part is NaN: a block with such a sample is refused
pub record Number (s : Complex32) : Type 0 where
  pub real : T (not (is_nan s.real))
  pub imaginary : T (not (is_nan s.imaginary))

-- the samples of profile 1 alone are conjugated, which mirrors their spectrum about 0 hertz; every other number acts as profile 0
abbrev pub conjugated_of : ℤ → Bool
conjugated_of (pos n) = eqb n 1
conjugated_of (negsuc n) = false

-- the imaginary part, negated where the sample is conjugated
unfoldable pub mirrored_of : Bool → Float → Float
mirrored_of conjugated x = cond conjugated (neg x) x

-- the sample times the oscillator: an f32 is the same value as an f64
abbrev pub product_of : Oscillator → Complex32 → Bool → Complex64
product_of o s conjugated = record {
  real = sub binary64 (mul binary64 s.real o.real) (mul binary64 s.imaginary o.imaginary);
  imaginary = mirrored_of conjugated (add binary64 (mul binary64 s.real o.imaginary) (mul binary64 s.imaginary o.real));
}

-- each part rounded to f32 once
abbrev pub mixed_of : Oscillator → Complex32 → Bool → Complex32
mixed_of o s conjugated = narrowed_of (product_of o s conjugated)

-- a sample is mixed, and the oscillator turned after it
abbrev pub stepped_of : Oscillator → Complex32 → Bool → Step
stepped_of o s conjugated = record { oscillator = turned_of o; value = mixed_of o s conjugated }
