-- How the states' taps follow what was received: the detector's first tracker (docs/SPECIFICATION.md). Definitions only.
use Rattle.std.specs.Prelude.{ℕ, ◌/◌, ◌%◌, Bool, cond, List, get_or, Float}
use Rattle.std.specs.Float.{binary32}
use Rattle.std.specs.Float.Ieee.{of_bits, add, mul, div, lt}
use Rattle.numbers.specs.Root.{sqrt_of}
use Rattle.complex.specs.declared.Complex32.{Complex32}
use Rattle.complex.specs.Complex.{difference_of, scaled_of, conjugate_product_of, power_of}
use Rattle.channels.specs.declared.channel.Taps.{Taps}
use Rattle.complex.specs.Planes.{Planes, point_at}
use Rattle.channels.specs.Channels.{symbol_of, taps_of, laid_out}

-- The steps by which the main tap, the first after it and the two later ones move: larger ones follow faster and are noisier, and the later taps have little to follow.
abbrev pub main_step : Float
main_step = of_bits binary32 0x3df5c28f  -- 0.12

abbrev pub first_step : Float
first_step = of_bits binary32 0x3da3d70a  -- 0.08

abbrev pub later_step : Float
later_step = of_bits binary32 0x3ca3d70a  -- 0.02

-- a tap moved by step × error × the symbol's conjugate
abbrev pub moved_of : Complex32 → Float → Complex32 → Complex32 → Complex32
moved_of h step error s = record {
  real = add binary32 h.real (mul binary32 step (conjugate_product_of error s).real);
  imaginary = add binary32 h.imaginary (mul binary32 step (conjugate_product_of error s).imaginary);
}

-- the taps of the prior p, moved by the error, where the newest symbol is k
unfoldable pub learnt_of : Taps → Complex32 → ℕ → ℕ → Taps
learnt_of t error k p = record {
  main = moved_of t.main main_step error (symbol_of k);
  one = moved_of t.one first_step error (symbol_of (p % 4));
  two = moved_of t.two later_step error (symbol_of (p / 4 % 4));
  three = moved_of t.three later_step error (symbol_of (p / 16));
}

-- the taps' power
unfoldable pub norm_of : Taps → Float
norm_of t = add binary32 (add binary32 (add binary32 (add binary32 (of_bits binary32 0) (power_of t.main)) (power_of t.one)) (power_of t.two)) (power_of t.three)

-- the most power that taps may have, and the size of such taps
abbrev pub most_power : Float
most_power = of_bits binary32 0x41800000  -- 16

abbrev pub most_size : Float
most_size = of_bits binary32 0x40800000  -- 4

-- 4 / √norm: what brings taps of that power back to 16
unfoldable pub gain_of : Float → Float
gain_of norm = div binary32 most_size (sqrt_of binary32 norm)

abbrev pub scaled_taps : Taps → Float → Taps
scaled_taps t gain = record { main = scaled_of t.main gain; one = scaled_of t.one gain; two = scaled_of t.two gain; three = scaled_of t.three gain }

-- taps of a power above 16 are brought back to it
unfoldable pub limited_of : Taps → Taps
limited_of t = cond (lt most_power (norm_of t)) (scaled_taps t (gain_of (norm_of t))) t

-- the taps of the state s after a step: its parent's ..
abbrev pub inherited_at : Planes → List ℕ → ℕ → Taps
inherited_at c parents s = taps_of c (get_or parents s 0)

-- .. moved by the input less the state's own prediction ..
unfoldable pub learnt_at : Planes → List ℕ → Planes → Complex32 → ℕ → Taps
learnt_at c parents predictions input s = learnt_of (inherited_at c parents s) (difference_of input (point_at predictions s)) (s % 4) (get_or parents s 0)

-- .. where the input is reliable
unfoldable pub taps_after : Planes → List ℕ → Planes → Complex32 → Bool → ℕ → Taps
taps_after c parents predictions input reliable s = cond reliable (limited_of (learnt_at c parents predictions input s)) (inherited_at c parents s)

unfoldable pub followed_of : Planes → List ℕ → Planes → Complex32 → Bool → Planes
followed_of c parents predictions input reliable = laid_out (taps_after c parents predictions input reliable)
