-- What the code reads off a bit pattern: the digits below the point. Definitions only.
use Rattle.std.specs.Prelude.{◌-◌, Option, None, Some, cond, nat_le, Float}
use Rattle.std.specs.Float.{Format}
use Rattle.std.specs.Float.Ieee.{low, top, is_nan, to_bits}
use Rattle.laws.specs.FloatParts.{digits_of, power_of}
use Rattle.whole.specs.declared.Fraction.{Fraction}

unfoldable pub fraction_of : Format → Float → Option Fraction
unfolding is_nan to_bits
fraction_of f x =
    let b = to_bits f x in
    cond (is_nan x) None (cond (nat_le (low f) (power_of f b)) None (Some (record { negative = nat_le (top f) b; digits = digits_of f b; shift = low f - power_of f b })))
