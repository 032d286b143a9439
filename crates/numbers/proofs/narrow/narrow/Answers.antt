-- `narrow::narrow` meets its contract: a NaN, an infinity, a rare magnitude and an everyday one are each converted as IEEE 754 asks.
use Rattle.std.proofs.Common.{◌≡◌, ℕ, ◌+◌, ◌-◌, ◌*◌, ◌^◌, ◌<◌, ◌≤◌, Bool, not, T, leb, sym, ap, ◌∙◌, subst, arith, pow_pos}
use lib.Ieee.{binary32, binary64, div, fits, nan_bits, of_bits, to_bits, round}
use mir.Facts.{Fits-of_lt}
use Rattle.laws.specs.FloatPack.{no_nan_bits, inf_bits}
use Rattle.laws.specs.FloatParts.{digits_of, power_of, field, finite_field, float_value, digits_lt, digits_ge}
use Rattle.numbers.specs.Numbers.{convert}
use Rattle.numbers.specs.Laws.{no_nan, convert_value, convert_nan, convert_inf}
use Rattle.numbers.proofs.Narrowing.{pattern_lt}
use Rattle.numbers.proofs.narrow.narrow.Goals as goal
use Rattle.numbers.proofs.narrow.narrow.Lts as lts
use Rattle.numbers.proofs.narrow.narrow.Tie as tie
use Rattle.numbers.proofs.narrow.narrow.Reads as reads

-- what is known where the code begins, and past the first two tests
abbrev Start : Type 0
Start = lts.Start tie.the-claims reads.Pre reads.Post tie.handed_clauses

abbrev Finite : Type 0
Finite = lts.Else2 tie.the-claims reads.Pre reads.Post tie.handed_clauses

-- x, its bits and its sign
held : (c : Start) → T (fits binary64 c.args.x)
held c = subst T (sym c.well_formed.0.1) tt

abbrev bits : Start → ℕ
bits c = to_bits binary64 c.args.x

abbrev sgn : Start → Bool
sgn c = leb 0x8000_0000_0000_0000 (bits c)

-- past the first two tests the exponent's field is below the infinity's, and the value is that of the bits
finite : (c : Finite) → field binary64 (bits c.before.before) < 2047
finite c = finite_field binary64 c.args.x (held c.before.before) (no_nan c.args.x c.if-x.false) c.if-magnitude-eq9218868437227405312.false

value : (c : Finite) → round binary32 (sgn c.before.before) (digits_of binary64 (bits c.before.before) * 2 ^ power_of binary64 (bits c.before.before)) (2 ^ 1074) ≡ convert binary32 c.args.x
value c =
    let a = c.before.before in
    sym (convert_value binary32 c.args.x (sgn a) (digits_of binary64 (bits a) * 2 ^ power_of binary64 (bits a)) (2 ^ 1074) (pow_pos 1074) (float_value binary64 c.args.x (held a) (finite c)))

power_le : (x : ℕ) → x < 2047 → x - 1 ≤ 2045
power_le x h = omega arith

pub returns-then-x : goal.returns-then-x
unfolding of_bits div
returns-then-x c = convert_nan binary32 c.args.x c.if-x.true

pub float_to_bits-b : goal.float_to_bits-b
float_to_bits-b c = no_nan c.args.x c.if-x.false

pub overflow_add-result : goal.overflow_add-result
overflow_add-result c = Fits-of_lt (subst (λ (x : ℕ). x + 0x7f80_0000 < 2 ^ 32) (sym c.sign32.ensures) (pattern_lt (sgn c.before.before.before) 0x7f80_0000 (omega arith)))

pub float_from_bits-result : goal.float_from_bits-result
float_from_bits-result c = subst (λ (x : ℕ). T (not (nan_bits binary32 (x + 0x7f80_0000)))) (sym c.sign32.ensures) (no_nan_bits binary32 (sgn c.before.before.before) 0x7f80_0000 (omega arith))

pub returns-then-magnitude-eq9218868437227405312 : goal.returns-then-magnitude-eq9218868437227405312
returns-then-magnitude-eq9218868437227405312 c =
    let a = c.before.before.before in
    ap (λ (x : ℕ). of_bits binary32 (x + 0x7f80_0000)) c.sign32.ensures ∙ inf_bits binary32 (sgn a) ∙ convert_inf binary32 binary64 c.args.x (held a) c.if-magnitude-eq9218868437227405312.true

pub narrow_finite-requires : goal.narrow_finite-requires
narrow_finite-requires c =
    let e = c.before.before.before.before in
    let b = bits e.before.before in
    let D = c.digits.ensures in
    let P = c.power.ensures in record { d_bound = subst (λ (x : ℕ). x < 2 ^ 53) (sym D) (digits_lt binary64 b); bound = (λ h. subst (λ (x : ℕ). 2 ^ 52 ≤ x) (sym D) (digits_ge binary64 b (subst (λ (x : ℕ). 0 < x) P h))); e_bound = subst (λ (x : ℕ). x ≤ 2045) (sym P) (power_le (field binary64 b) (finite e)) }

pub returns-then-is_rare : goal.returns-then-is_rare
returns-then-is_rare c =
    let e = c.before.before.before.before.before in
    let a = e.before.before in
    c.narrow_finite.ensures
    ∙ ap (λ (d : ℕ). round binary32 (sgn a) (d * 2 ^ c.power.result) (2 ^ 1074)) c.digits.ensures
    ∙ ap (λ (p : ℕ). round binary32 (sgn a) (digits_of binary64 (bits a) * 2 ^ p) (2 ^ 1074)) c.power.ensures
    ∙ value e

pub narrow_everyday-requires : goal.narrow_everyday-requires
narrow_everyday-requires c = sym c.is_rare.ensures ∙ c.if-is_rare.false

pub returns : goal.returns
returns c = c.narrow_everyday.ensures ∙ value c.before.before.before
