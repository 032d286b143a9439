-- `guess` meets its contract: whatever the floats give, the pattern that is read has 53 digits.
use Rattle.std.proofs.Common.{◌-◌, ◌*◌, ◌/◌, ◌%◌, ◌^◌, ◌≤◌, arith}
use lib.Ieee.{binary64}
use Rattle.numbers.specs.BitsLaws.{bits_number}
use Rattle.numbers.specs.Laws.{no_nan}
use Rattle.roots.proofs.guess.Goals as goal

pub float_from_bits-f : goal.float_from_bits-f
float_from_bits-f c = let h : c.lowered-b.result % 2 ^ 63 ≤ 2047 * 2 ^ 52 = omega (arith, c.lowered-b.ensures) in bits_number binary64 c.lowered-b.result h

pub float_from_bits-y : goal.float_from_bits-y
float_from_bits-y c = let h : (0x5fe6_eb50_c7b5_37a9 - c.lowered-b.result / 2) % 2 ^ 63 ≤ 2047 * 2 ^ 52 = omega arith in bits_number binary64 (0x5fe6_eb50_c7b5_37a9 - c.lowered-b.result / 2) h

pub float_to_bits-result : goal.float_to_bits-result
float_to_bits-result c = no_nan _ c.if-g.false
