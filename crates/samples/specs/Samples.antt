-- A block's samples by themselves: pairs of floats, all finite or not, and how many are overloaded. Definitions only.
use Rattle.std.specs.Prelude.{ℕ, ◌+◌, ◌*◌, ◌/◌, Bool, true, false, cond, ◌&&◌, ◌||◌, List, length, get_or, Float}
use Rattle.std.specs.Float.{binary32, nan}
use Rattle.std.specs.Float.Ieee.{of_bits, le}
use Rattle.laws.specs.Turns.{turns}
use Rattle.numbers.specs.Constants.{minus_one32}
use Rattle.numbers.specs.Numbers.{is_finite}
use Rattle.samples.specs.declared.Level.{Level}

abbrev pub count_of : List Float → ℕ
count_of xs = length xs / 2

abbrev pub real_of : List Float → ℕ → Float
real_of xs k = get_or xs (2 * k) nan

abbrev pub imaginary_of : List Float → ℕ → Float
imaginary_of xs k = get_or xs (2 * k + 1) nan

-- ---- both parts of every sample are finite
abbrev pub still_finite : Bool → Float → Float → Bool
still_finite before real imaginary = before && (is_finite real && is_finite imaginary)

abbrev pub finite_turn : List Float → ℕ → Bool → Bool
finite_turn xs k before = still_finite before (real_of xs k) (imaginary_of xs k)

unfoldable pub finite_of : List Float → Bool
finite_of xs = turns (finite_turn xs) (count_of xs) true

-- ---- the number of samples with a part that passes a test, for parts of any kind: floats, or a converter's codes
module _ {A : Type 0} (test : A → Bool) where
  -- one sample more; it counts once, also where both parts pass
  abbrev pub tallied : ℕ → A → A → ℕ
  tallied n real imaginary = n + cond (test real || test imaginary) 1 0

  -- `outside` stands for a part past the list's end, and there is none among the samples
  abbrev pub tally_turn : A → List A → ℕ → ℕ → ℕ
  tally_turn outside xs k n = tallied n (get_or xs (2 * k) outside) (get_or xs (2 * k + 1) outside)

  unfoldable pub samples_with : A → List A → ℕ
  samples_with outside xs = turns (tally_turn outside xs) (length xs / 2) 0

-- ---- overload: the number of samples with a part at an end of what a 16-bit converter gives, or beyond it
abbrev pub upper_end : Float
upper_end = of_bits binary32 0x3f7f_fe00  -- 32767/32768

abbrev pub lower_end : Float
lower_end = minus_one32

unfoldable pub is_at_end : Float → Bool
is_at_end x = le upper_end x || le x lower_end

unfoldable pub overload_of : List Float → ℕ
overload_of xs = samples_with is_at_end nan xs

unfoldable pub measured_of : List Float → Level
measured_of xs = cond (finite_of xs) (record { finite = true; overload = overload_of xs }) (record { finite = false; overload = 0 })
