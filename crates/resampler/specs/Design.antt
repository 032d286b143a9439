-- The low-pass filter: 32 c + 1 taps of a windowed sine at 4,200 hertz, over their sum, the last one dropped, times 32, and how they stand in the table. Definitions only.
use Rattle.std.specs.Prelude.{ℕ, ◌+◌, ◌-◌, ◌*◌, ◌/◌, ◌%◌, cond, List, ◌++◌, drop, pos, from_bits, Float}
use Rattle.std.specs.Float.{binary32, binary64}
use Rattle.std.specs.Float.Ieee.{of_int, add, sub, mul, div, eq}
use Rattle.laws.specs.Turns.{turns}
use Rattle.laws.specs.Places.{upto}
use Rattle.numbers.specs.Constants.{two64, full_turn, zero64}
use Rattle.numbers.specs.Numbers.{convert}
use Rattle.routines.specs.Circle.{sine_of, cosine_of}

-- the filter's cutoff in hertz
abbrev pub cutoff : Float
cutoff = from_bits binary64 0x40b0_6800_0000_0000  -- 4200

-- the arms of the table, as an f64 and as an f32
abbrev pub arms64 : Float
arms64 = from_bits binary64 0x4040_0000_0000_0000  -- 32

abbrev pub arms32 : Float
arms32 = from_bits binary32 0x4200_0000  -- 32

-- the Hamming window: its middle, and how far the cosine takes it from there
abbrev pub window_middle : Float
window_middle = from_bits binary64 0x3fe1_47ae_147a_e148  -- 0.54

abbrev pub window_swing : Float
window_swing = from_bits binary64 0x3fdd_70a3_d70a_3d71  -- 0.46

-- 2 pi 4200 / (32 rate): the cutoff in radians a tap, for values that come at the rate
unfoldable pub omega_of : Float → Float
omega_of rate = div binary64 (mul binary64 full_turn cutoff) (mul binary64 arms64 rate)

-- the sine over its distance x from the middle; the limit in the middle itself
unfoldable pub wave_of : Float → Float → Float
wave_of omega x = cond (eq x zero64) omega (div binary64 (sine_of (mul binary64 omega x)) x)

-- tap i of those from 0 to last: the wave under the window 0.54 - 0.46 cos
unfoldable pub raw_tap_of : Float → ℕ → ℕ → Float
raw_tap_of omega last i =
    let place = of_int binary64 (pos i) in
    let end = of_int binary64 (pos last) in
    let wave = wave_of omega (sub binary64 place (div binary64 end two64)) in
    let window = sub binary64 window_middle (mul binary64 window_swing (cosine_of (div binary64 (mul binary64 full_turn place) end))) in
    convert binary32 (mul binary64 wave window)

-- the sum of the taps 0 to n - 1, in that order
abbrev pub tap_sum_turn : Float → ℕ → ℕ → Float → Float
tap_sum_turn omega last i s = add binary64 s (raw_tap_of omega last i)

unfoldable pub tap_sum : Float → ℕ → ℕ → Float
tap_sum omega last n = turns (tap_sum_turn omega last) n zero64

-- a tap over a sum, times 32
abbrev pub over_sum : Float → Float → Float
over_sum sum tap = mul binary32 (div binary32 tap sum) arms32

-- the taps of an arm length c and a rate: the sum runs over all 32 c + 1 of them
unfoldable pub tap_of : ℕ → Float → ℕ → Float
tap_of c rate i = over_sum (convert binary32 (tap_sum (omega_of rate) (32 * c) (32 * c + 1))) (raw_tap_of (omega_of rate) (32 * c) i)

-- the table holds arm after arm, and arm a holds the taps a, a + 32, .. from its end
abbrev pub tap_at : ℕ → ℕ → ℕ
tap_at c place = place / c + 32 * (c - 1 - place % c)

unfoldable pub table_of : ℕ → Float → List Float
table_of c rate = upto (λ place. tap_of c rate (tap_at c place)) (32 * c)

-- what a lent table holds after it: the first 32 c places are written, and no other
abbrev pub written_of : ℕ → Float → List Float → List Float
written_of c rate table = table_of c rate ++ drop (32 * c) table
