-- What the detector makes of an input: the observation left by the best survivor, and the step's soft record. Definitions only.
use Rattle.std.specs.Prelude.{ℕ, ◌+◌, ◌/◌, ◌%◌, Bool, cond, ◌&&◌, List, get_or, Float, Option, None, Some}
use Rattle.std.specs.Bool.{beq}
use Rattle.std.specs.Float.{binary32}
use Rattle.std.specs.Float.Ieee.{of_bits, add, sub, mul, div, lt, to_unsigned}
use Rattle.numbers.specs.Constants.{zero32, one32}
use Rattle.numbers.specs.Numbers.{is_finite, abs_of, min_of, max_of, clamp_of}
use Rattle.routines.specs.Hypotenuse.{hypotenuse_of}
use Rattle.complex.specs.declared.Complex32.{Complex32}
use Rattle.complex.specs.Complex.{difference_of, product_of, conjugate_product_of, power_of, both_finite}
use Rattle.channels.specs.declared.channel.Taps.{Taps}
use Rattle.channels.specs.Channels.{level, symbol_of}
use Rattle.answers.specs.declared.soft.Soft.{Soft}
use Rattle.answers.specs.declared.combine.Seen.{Seen}

-- ---- the observation

-- the input less the products of the prior's later taps with its own symbols
abbrev pub cancelled_of : Complex32 → Taps → ℕ → Complex32
cancelled_of input t p =
    difference_of (difference_of (difference_of input (product_of t.one (symbol_of (p % 4)))) (product_of t.two (symbol_of (p / 4 % 4)))) (product_of t.three (symbol_of (p / 16)))

-- times the conjugate of the main tap
abbrev pub weighted_of : Complex32 → Taps → ℕ → Complex32
weighted_of input t p = conjugate_product_of (cancelled_of input t p) t.main

-- the main tap's least power: below it a quotient says nothing
abbrev pub least_power : Float
least_power = of_bits binary32 0x358637bd  -- 1e-6

abbrev pub is_usable : Bool → Float → Bool
is_usable reliable power = (reliable && is_finite power) && lt least_power power

abbrev pub divided_of : Complex32 → Float → Complex32
divided_of z by = record { real = div binary32 z.real by; imaginary = div binary32 z.imaginary by }

-- the value v and v over the main tap's power, where both are of use
unfoldable pub observed_with : Bool → Complex32 → Float → Seen
observed_with useful v power = cond useful (record { combined = Some v; equalized = Some (divided_of v power) }) (record { combined = None; equalized = None })

unfoldable pub observed_of : Complex32 → Bool → Taps → ℕ → Seen
observed_of input reliable t p = observed_with (is_usable reliable (power_of t.main) && both_finite (weighted_of input t p)) (weighted_of input t p) (power_of t.main)

-- ---- the noise

-- how fast the noise follows: over some 50 symbols
abbrev pub noise_step : Float
noise_step = of_bits binary32 0x3ca3d70a  -- 0.02

-- what one residual counts for at most
abbrev pub most_residual : Float
most_residual = of_bits binary32 0x40800000  -- 4

-- noise + 0.02 (min(residual, 4) - noise)
unfoldable pub noise_after_of : Float → Float → Bool → Float
noise_after_of noise residual reliable =
    cond (reliable && is_finite residual) (add binary32 noise (mul binary32 noise_step (sub binary32 (min_of residual most_residual) noise))) noise

-- ---- the soft record

abbrev pub size_of : Complex32 → Float
size_of z = hypotenuse_of z.real z.imaginary

-- turned by pi / 4
abbrev pub eighth_turned_of : Complex32 → Complex32
eighth_turned_of z = record { real = mul binary32 level (sub binary32 z.real z.imaginary); imaginary = mul binary32 level (add binary32 z.real z.imaginary) }

-- what keeps the divisor from 0: the least noise, and what is added last
abbrev pub least_noise : Float
least_noise = of_bits binary32 0x38d1b717  -- 1e-4

abbrev pub least_divisor : Float
least_divisor = of_bits binary32 0x2b8cbccc  -- 1e-12

-- 1 / ((size + size) max(noise, 1e-4) + 1e-12)
unfoldable pub scale_of : Complex32 → Complex32 → Float → Float
scale_of now before noise =
    div binary32 one32 (add binary32 (mul binary32 (add binary32 (size_of now) (size_of before)) (max_of noise least_noise)) least_divisor)

-- the higher bit and its reliability come of the imaginary part, the lower of the real part
unfoldable pub recorded_of : Complex32 → Complex32 → Float → Soft
recorded_of now before noise = record {
  high_sign = lt (eighth_turned_of (conjugate_product_of now before)).imaginary zero32;
  low_sign = lt (eighth_turned_of (conjugate_product_of now before)).real zero32;
  high_reliability = mul binary32 (abs_of (eighth_turned_of (conjugate_product_of now before)).imaginary) (scale_of now before noise);
  low_reliability = mul binary32 (abs_of (eighth_turned_of (conjugate_product_of now before)).real) (scale_of now before noise);
}

abbrev pub record_of : Option Complex32 → Option Complex32 → Float → Option Soft
record_of None before noise = None
record_of (Some a) None noise = None
record_of (Some a) (Some b) noise = Some (recorded_of a b noise)

-- ---- the ring of records

-- the record of 31 steps before the step that is stored at `write`
abbrev pub record_before : List (Option Soft) → ℕ → Option Soft
record_before slots write = get_or slots ((write + 1) % 32) None

-- ---- reliabilities

-- a reliability of 8 and more fills a byte
abbrev pub reliability_scale : Float
reliability_scale = of_bits binary32 0x42000000  -- 32

abbrev pub most_byte : Float
most_byte = of_bits binary32 0x437f0000  -- 255

-- times 32, clamped to 0..255 and cast
unfoldable pub byte_of : Float → ℕ
byte_of r = to_unsigned 8 (clamp_of (mul binary32 r reliability_scale) zero32 most_byte)

abbrev pub agreed_of : Bool → Bool → Float → ℕ
agreed_of negative decided r = cond (beq negative decided) (byte_of r) 0
