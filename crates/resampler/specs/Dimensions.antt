-- What follows from the input's rate: the decimation d, the rate after it, the arm length c and the step. Definitions only.
use Rattle.std.specs.Prelude.{ℕ, ◌/◌, max, pos, from_bits, Float}
use Rattle.std.specs.Float.{binary64}
use Rattle.std.specs.Float.Ieee.{of_int, to_unsigned, mul, div}
use Rattle.whole.specs.Whole.{whole_of, away}
use Rattle.resampler.specs.declared.dimensions.Dimensions.{Dimensions}
use Rattle.resampler.specs.declared.pass.Resampler.{Resampler}

-- values a second that the decimator is to come near to
abbrev pub decimated_rate : Float
decimated_rate = from_bits binary64 0x410f_4000_0000_0000  -- 256000

-- values a second that come out of the resampler: four a symbol
abbrev pub output_rate : Float
output_rate = from_bits binary64 0x40d2_c000_0000_0000  -- 19200

-- seconds that an arm's taps span
abbrev pub arm_span : Float
arm_span = from_bits binary64 0x3f58_9374_bc6a_7efa  -- 0.0015

-- to the nearest whole number, a half away from zero
abbrev pub nearest_of : Float → ℕ
nearest_of x = to_unsigned 64 (whole_of away binary64 x)

-- rate / 256000, at least 1
unfoldable pub decimation_of : Float → ℕ
unfolding div whole_of to_unsigned
decimation_of rate = max (nearest_of (div binary64 rate decimated_rate)) 1

-- values a second after decimation
unfoldable pub decimated_of : Float → Float
unfolding decimation_of
decimated_of rate = div binary64 rate (of_int binary64 (pos (decimation_of rate)))

-- taps of an arm: as many as the values of 1.5 milliseconds, at least 8
unfoldable pub arm_length_of : Float → ℕ
unfolding mul whole_of to_unsigned
arm_length_of decimated = max (nearest_of (mul binary64 arm_span decimated)) 8

-- what follows from a rate
unfoldable pub sized_of : Float → Dimensions
unfolding decimation_of decimated_of arm_length_of
sized_of rate = record { decimation = decimation_of rate; arm = arm_length_of (decimated_of rate); rate = decimated_of rate }

-- nothing has come in; the first output lies half an arm in
unfoldable pub fresh_of : Dimensions → Resampler
unfolding div of_int
fresh_of s = record {
  arm = s.arm;
  half = s.arm / 2;
  step = div binary64 s.rate output_rate;
  index = 0;
  next = of_int binary64 (pos (s.arm / 2));
  write = 0;
}
