-- What a root is taken of, as the code reads it off a bit pattern, and the digits that are rounded. Definitions only.
use Rattle.std.specs.Prelude.{◌≡◌, ℕ, ◌+◌, ◌*◌, ◌/◌, ◌^◌, ◌<◌, ◌≤◌, false, cond, pos, ◌==◌, nat_le, Float}
use Rattle.std.specs.Float.{fin, Format}
use Rattle.std.specs.Float.Ieee.{hid, ones, top, eq, is_nan, to_bits}
use Rattle.laws.specs.FloatParts.{digits_of, power_of}
use Rattle.roots.specs.declared.Radicand.{Radicand}
use Rattle.roots.specs.declared.Radicand.TheVariants.{Itself, Negative, Digits}

unfoldable pub radicand_of : Format → Float → Radicand
unfolding is_nan eq to_bits
radicand_of f x =
    let b = to_bits f x in
    cond (is_nan x) Itself (cond (eq x (fin false 0 (pos 0))) Itself (cond (nat_le (top f) b) Negative (cond (b == ones f * hid f) Itself (Digits (digits_of f b) (power_of f b)))))

-- q is half of the whole part of √(n * 2 ^ 44), rounded up
pub record HalfRoot (n q : ℕ) : Type 0 where
  pub whole : ℕ
  pub half : (whole + 1) / 2 ≡ q
  pub least : whole * whole * 2 ^ 64 ≤ n * 2 ^ 108
  pub most : n * 2 ^ 108 < (whole + 1) * (whole + 1) * 2 ^ 64
