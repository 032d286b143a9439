-- The hypotenuse of two values of binary32, as once-rounded steps (docs/ROUTINES.md). Definitions only.
use Rattle.std.specs.Prelude.{ℕ, ◌+◌, ◌*◌, ◌<◌, Bool, true, false, cond, ◌&&◌, ◌||◌, T, from_bits, Float}
use Rattle.std.specs.Float.{nan, inf, fin, binary32, binary64}
use Rattle.std.specs.Float.Ieee.{add, mul, lt}
use Rattle.std.specs.Float.Ieee.Positive.{num, den}
use Rattle.numbers.specs.Numbers.{convert}
use Rattle.numbers.specs.Root.{sqrt_of}

unfoldable pub infinite : Float → Bool
infinite nan = false
infinite (inf s) = true
infinite (fin s m e) = false

-- squares and their sum in binary64, the root of it, and that narrowed
unfoldable pub root_of_squares : Float → Float → Float
unfolding add mul convert sqrt_of
root_of_squares x y = convert binary32 (sqrt_of binary64 (add binary64 (mul binary64 x x) (mul binary64 y y)))

-- whether low and high enclose the root of s: a rounded square that lies beyond a value of the format tells that the exact one does
abbrev pub encloses_of : Float → Float → Float → Bool
encloses_of low s high = lt (from_bits binary64 0) low && lt (from_bits binary64 0) high && lt (mul binary64 low low) s && lt s (mul binary64 high high)

unfoldable pub hypotenuse_of : Float → Float → Float
unfolding infinite root_of_squares
hypotenuse_of x y = cond (infinite x || infinite y) (inf false) (root_of_squares x y)

-- ---- how near it is: the exact root is that of the fraction squaresOver / squaresUnder
abbrev pub squares_over : Float → Float → ℕ
squares_over x y = num x * num x * (den y * den y) + num y * num y * (den x * den x)

abbrev pub squares_under : Float → Float → ℕ
squares_under x y = den x * den x * (den y * den y)

-- r against a value v: where v is below r it is below the exact root, and where v is above r it is above the exact root. So the exact root lies strictly between r's two neighbours.
pub record Between (x y v r : Float) : Type 0 where
  pub above_lower : T (lt v r) → num v * num v * squares_under x y < squares_over x y * (den v * den v)
  pub below_upper : T (lt r v) → squares_over x y * (den v * den v) < num v * num v * squares_under x y
