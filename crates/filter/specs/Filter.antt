-- The matched filter: an arm's 33 taps, and the 21 windows of a ring, each a sum over the taps in their order. Definitions only.
use Rattle.std.specs.Prelude.{ℕ, ◌+◌, ◌*◌, ◌-◌, ◌%◌, cond, List, ltb, get_or, Float}
use Rattle.std.specs.Float.{nan, binary32}
use Rattle.std.specs.Float.Ieee.{of_bits, add, mul}
use Rattle.laws.specs.Turns.{turns}
use Rattle.laws.specs.Places.{upto}

-- tap i of an arm is the table's place arm + 32 (32 - i), and zero past its end: a zero that is multiplied as the others are
unfoldable pub arm_tap : List Float → ℕ → ℕ → Float
arm_tap table arm i = cond (ltb (arm + 32 * (32 - i)) 1025) (get_or table (arm + 32 * (32 - i)) nan) (of_bits binary32 0)

-- the taps of an arm, the table's last first
unfoldable pub arm_taps_of : List Float → ℕ → List Float
arm_taps_of table arm = upto (arm_tap table arm) 33

-- what stands i places on from `from` in a ring of 256
abbrev pub ring_at : List Float → ℕ → ℕ → Float
ring_at ring from i = get_or ring ((from + i) % 256) nan

-- the sum over the first n taps of window k: the samples from 2 k on, each times its tap, from +0
abbrev pub part_turn : (ℕ → Float) → List Float → ℕ → ℕ → Float → Float
part_turn sample taps k i sum = add binary32 sum (mul binary32 (sample (2 * k + i)) (get_or taps i nan))

unfoldable pub part_of : (ℕ → Float) → List Float → ℕ → ℕ → Float
part_of sample taps k n = turns (part_turn sample taps k) n (of_bits binary32 0)

abbrev pub window_of : (ℕ → Float) → List Float → ℕ → Float
window_of sample taps k = part_of sample taps k 33

-- matched values and derivatives at the 21 windows, part by part
pub record Windows : Type 0 where
  pub real : List Float
  pub imaginary : List Float
  pub derivative_real : List Float
  pub derivative_imaginary : List Float

-- the windows of given samples with given taps
unfoldable pub windows_with : (ℕ → Float) → (ℕ → Float) → List Float → List Float → Windows
windows_with real imaginary taps derivatives = record {
  real = upto (window_of real taps) 21;
  imaginary = upto (window_of imaginary taps) 21;
  derivative_real = upto (window_of real derivatives) 21;
  derivative_imaginary = upto (window_of imaginary derivatives) 21;
}

-- the windows of the ring from a place on, with the taps of an arm
unfoldable pub matched_of : List Float → List Float → List Float → List Float → ℕ → ℕ → Windows
matched_of taps derivatives real imaginary arm from = windows_with (ring_at real from) (ring_at imaginary from) (arm_taps_of taps arm) (arm_taps_of derivatives arm)
