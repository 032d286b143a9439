-- The sum of powers, and what beside it tells that every part is plain. Definitions only.
use Rattle.std.specs.Prelude.{◌≡◌, ℕ, ◌+◌, ◌*◌, ◌%◌, min, Bool, true, false, cond, ◌&&◌, List, from_bits, is_nan, nat_le, slice_index_or, to_bits, Float}
use Rattle.std.specs.Float.{nan, inf, binary32, binary64}
use Rattle.std.specs.Float.Ieee.{add, le, fits}
use Rattle.numbers.specs.Constants.{zero64}
use Rattle.signal.specs.declared.plain.Power.{Power}
use Rattle.signal.specs.Signal.{power64, points_from, summed}
use Rattle.signal.specs.Plain.{PlainRound}

-- a NaN is taken for infinity
abbrev pub no_nan_of : Float → Float
no_nan_of x = cond (is_nan x) (inf false) x

-- twice the pattern of an f32's size, less 1: the larger the size, the larger it is, and of a zero it is the largest
abbrev pub span_of : Float → ℕ
span_of x = cond (fits binary32 x) ((to_bits binary32 x % 0x80000000 * 2 + 0xffffffff) % 0x100000000) 0

-- one point more
abbrev pub with_point_of : Power → Float → Float → Power
with_point_of w x y = record {
  sum = add binary64 w.sum (power64 (record { real = no_nan_of x; imaginary = no_nan_of y }));
  across = min w.across (span_of (no_nan_of x));
  up = min w.up (span_of (no_nan_of y));
}

-- no point yet
abbrev pub no_power : Power
no_power = record { sum = zero64; across = 0xffffffff; up = 0xffffffff }

abbrev pub power_step : List Float → List Float → ℕ → ℕ → Power → Power
power_step re im p k w = with_point_of w (slice_index_or re p nan) (slice_index_or im p nan)

abbrev pub least_span : ℕ
least_span = 0x42ffffff  -- the span of 2 ^ -60

abbrev pub most_sum : Float
most_sum = from_bits binary64 0x4630000000000000  -- 2 ^ 100

-- no span is under the least, and the sum is at most 2 ^ 100
abbrev pub plain_of : Power → Bool
plain_of w = (nat_le least_span w.across && nat_le least_span w.up) && le w.sum most_sum

-- the powers of n points from a place on, and that every part is plain where they say so
pub record PowerOf (re im : List Float) (from n : ℕ) (w : Power) : Type 0 where
  pub sum : w.sum ≡ no_nan_of (summed power64 (points_from re im from n))
  pub plain : plain_of w ≡ true → PlainRound re im from n
