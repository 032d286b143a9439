-- What IEEE 754 asks of a rounded result: of the format's values it is the nearest to the exact number, and of two that are equally near the one with an even last digit.
-- The exact number is a fraction or the root of a fraction, and it is compared by whole numbers and their squares only. Definitions only.
use Rattle.std.specs.Prelude.{◌≡◌, ℕ, suc, ◌+◌, ◌*◌, ◌/◌, ◌%◌, ◌^◌, ◌<◌, ◌≤◌, false, T, ◌≢◌, to_bits, Float}
use Rattle.std.specs.Float.{nan, inf, fin, Format}
use Rattle.std.specs.Float.Ieee.{emax, low, up, down, fits}
use Rattle.laws.specs.FloatRounding.{signed}

-- a / b, and √(a / b), for a b above 0
pub data Exact : Type 0 where
  ratio root : ℕ → ℕ → Exact

-- the divisor is above 0
abbrev pub Proper : Exact → Type 0
Proper (ratio a b) = 0 < b
Proper (root a b) = 0 < b

-- t halves of f's smallest value are at most the exact number, and at least it
abbrev pub AtMost : Format → ℕ → Exact → Type 0
AtMost f t (ratio a b) = t * b ≤ a * 2 ^ low f * 2
AtMost f t (root a b) = t * t * b ≤ a * 2 ^ (low f + low f) * 4

abbrev pub AtLeast : Format → ℕ → Exact → Type 0
AtLeast f t (ratio a b) = a * 2 ^ low f * 2 ≤ t * b
AtLeast f t (root a b) = a * 2 ^ (low f + low f) * 4 ≤ t * t * b

-- how many of f's smallest values a value is; the infinity stands at 2 ^ (emax + 1), the first power of two that is too large
abbrev pub units_of : Format → Float → ℕ
units_of f nan = 0
units_of f (inf s) = 2 ^ (low f + suc (emax f))
units_of f (fin s m e) = m * up e * 2 ^ low f / down e

-- a value of the format, the infinity included, with no sign
pub record Value (f : Format) (v : Float) : Type 0 where
  pub held : T (fits f v)
  pub plain : T (signed false v)

-- y is a value, and no other value v is nearer: half way between v and y lies on v's side of the exact number, or on it, and then y's last digit is even and v's is odd
pub record Nearest (f : Format) (x : Exact) (y : Float) : Type 0 where
  pub value : Value f y
  pub below : (v : Float) → Value f v → units_of f v < units_of f y → AtMost f (units_of f v + units_of f y) x
  pub above : (v : Float) → Value f v → units_of f y < units_of f v → AtLeast f (units_of f v + units_of f y) x
  pub even : (v : Float) → Value f v → (units_of f v ≢ units_of f y) → AtMost f (units_of f v + units_of f y) x → AtLeast f (units_of f v + units_of f y) x
      → (to_bits f y % 2 ≡ 0) × (to_bits f v % 2 ≡ 1)
