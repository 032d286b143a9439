-- Complex numbers of two f32, part by part. Definitions only.
use Rattle.std.specs.Prelude.{Bool, ◌&&◌, Float}
use Rattle.std.specs.Float.{binary32}
use Rattle.std.specs.Float.Ieee.{of_bits, add, sub, mul}
use Rattle.numbers.specs.Numbers.{is_finite, convert}
use Rattle.complex.specs.declared.Complex32.{Complex32}
use Rattle.complex.specs.declared.Complex64.{Complex64}

-- 1 / √2 to the nearest f32
abbrev pub root_half : Float
root_half = of_bits binary32 0x3f3504f3  -- 0.70710677

abbrev pub zero_pair : Complex32
zero_pair = record { real = of_bits binary32 0; imaginary = of_bits binary32 0 }

abbrev pub sum_of : Complex32 → Complex32 → Complex32
sum_of a b = record { real = add binary32 a.real b.real; imaginary = add binary32 a.imaginary b.imaginary }

abbrev pub difference_of : Complex32 → Complex32 → Complex32
difference_of a b = record { real = sub binary32 a.real b.real; imaginary = sub binary32 a.imaginary b.imaginary }

abbrev pub scaled_of : Complex32 → Float → Complex32
scaled_of z k = record { real = mul binary32 z.real k; imaginary = mul binary32 z.imaginary k }

-- a times b
abbrev pub product_of : Complex32 → Complex32 → Complex32
product_of a b = record {
  real = sub binary32 (mul binary32 a.real b.real) (mul binary32 a.imaginary b.imaginary);
  imaginary = add binary32 (mul binary32 a.real b.imaginary) (mul binary32 a.imaginary b.real);
}

-- a times the conjugate of b
abbrev pub conjugate_product_of : Complex32 → Complex32 → Complex32
conjugate_product_of a b = record {
  real = add binary32 (mul binary32 a.real b.real) (mul binary32 a.imaginary b.imaginary);
  imaginary = sub binary32 (mul binary32 a.imaginary b.real) (mul binary32 a.real b.imaginary);
}

-- the square of the size
abbrev pub power_of : Complex32 → Float
power_of z = add binary32 (mul binary32 z.real z.real) (mul binary32 z.imaginary z.imaginary)

abbrev pub both_finite : Complex32 → Bool
both_finite z = is_finite z.real && is_finite z.imaginary

abbrev pub narrowed_of : Complex64 → Complex32
narrowed_of z = record { real = convert binary32 z.real; imaginary = convert binary32 z.imaginary }
