-- `narrow::narrow_everyday` meets its contract: the digits are rounded in place, with the exponent's bias exchanged.
use Rattle.std.proofs.Common.{◌≡◌, ℕ, ◌+◌, ◌*◌, ◌/◌, ◌^◌, ◌<◌, ◌≤◌, cond, not, T, leb, sym, ap, ◌∙◌, subst, lt_of_lt_of_le, arith, lit≤}
use lib.Ieee.{binary32, of_bits, nan_bits}
use mir.Facts.{Fits-of_lt}
use Rattle.laws.specs.FloatPack.{no_nan_bits}
use Rattle.numbers.proofs.Narrowing.{Everyday, everyday, kept, everyday_is, sign_bit}
use Rattle.numbers.proofs.narrow.narrow_everyday.Goals as goal
use Rattle.numbers.proofs.narrow.narrow_everyday.Lts as lts
use Rattle.numbers.proofs.narrow.narrow_everyday.Reads as reads

-- what is known where the code begins
abbrev Start : Type 0
Start = lts.Start reads.Pre reads.Post

-- b, and what the pattern comes to
abbrev b : Start → ℕ
b c = c.args.b

day : (c : Start) → Everyday (b c)
day c = everyday (b c) c.requires

fits_b : (c : Start) → b c < 2 ^ 64
fits_b c = omega (arith, c.ranges.b)

-- the sign's bit and the pattern
whole : (c : Start) → b c / 0x8000_0000_0000_0000 * 0x8000_0000 + kept (b c) (day c) ≡ cond (leb 0x8000_0000_0000_0000 (b c)) 0x8000_0000 0 + kept (b c) (day c)
whole c = ap (λ (x : ℕ). x + kept (b c) (day c)) (sign_bit (b c) (fits_b c))

-- 32 bits and no NaN's pattern, whatever the digits round to
below : (b z : ℕ) → b < 2 ^ 64 → z ≤ 0x7f80_0000 → b / 0x8000_0000_0000_0000 * 0x8000_0000 + z < 2 ^ 32
below b z h k = omega arith

plain : (b z : ℕ) → b < 2 ^ 64 → z ≤ 0x7f80_0000 → T (not (nan_bits binary32 (b / 0x8000_0000_0000_0000 * 0x8000_0000 + z)))
plain b z h k = subst (λ (x : ℕ). T (not (nan_bits binary32 (x + z)))) (sym (sign_bit b h)) (no_nan_bits binary32 (leb 0x8000_0000_0000_0000 b) z k)

pub overflow_sub-t : goal.overflow_sub-t
overflow_sub-t c = let h = (day c).least in omega arith

pub overflow_add-result : goal.overflow_add-result
overflow_add-result c = Fits-of_lt (lt_of_lt_of_le (below (b c) _ (fits_b c) (omega (arith, (day c).least, (day c).most))) (lit≤ tt))

pub overflow_cast-result : goal.overflow_cast-result
overflow_cast-result c = omega (arith, fits_b c, (day c).least, (day c).most)

pub float_from_bits-result : goal.float_from_bits-result
float_from_bits-result c = plain (b c) _ (fits_b c) (omega (arith, (day c).least, (day c).most))

pub returns : goal.returns
returns c = ap (of_bits binary32) (whole c) ∙ everyday_is (b c) (day c) (leb 0x8000_0000_0000_0000 (b c))
