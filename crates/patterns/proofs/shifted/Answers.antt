-- `shifted` meets its contract: what is left is below a half, above it, or a half, which goes to the even quotient.
use mathlib.Core.Path.{sym, subst}
use Prim.Native.Nat.{ℕ, ◌/◌, ◌^◌, ◌<◌, ◌≤◌}
use lib.Pow.{pow_pos, pow_mono}
use native.Mathlib.Omega.{arith}
use Rattle.patterns.specs.Shift.{far, is_down, is_up, is_tie, quotient_lt}
use Rattle.patterns.proofs.shifted.Goals as goal

pub returns-then-shift-ge64 : goal.returns-then-shift-ge64
returns-then-shift-ge64 c = far c.args.n c.args.shift (c.requires.n_bound c.if-shift-ge64.true) c.if-shift-ge64.true

pub nonzero_div-quotient : goal.nonzero_div-quotient
nonzero_div-quotient c = subst (λ (x : ℕ). 0 < x) (sym c.pow2-unit.ensures) (pow_pos c.args.shift)

pub nonzero_rem-rest : goal.nonzero_rem-rest
nonzero_rem-rest c = nonzero_div-quotient c

-- the unit is 2 at least, so that the quotient leaves room for one more
room : (c : goal.After-pow2-unit) → c.args.n / c.pow2-unit.result < 2 ^ 63
room c = quotient_lt c.args.n c.pow2-unit.result (omega (arith, c.ranges.n)) (subst (λ (x : ℕ). 2 ≤ x) (sym c.pow2-unit.ensures) (pow_mono c.requires.shift_nonzero))

pub overflow_add-result : goal.overflow_add-result
overflow_add-result c = omega (arith, room c.before.before.before)

pub overflow_add-result-else-half-rest : goal.overflow_add-result-else-half-rest
overflow_add-result-else-half-rest c = omega (arith, room c.before.before.before)

pub returns-then-rest-half : goal.returns-then-rest-half
returns-then-rest-half c =
    is_down c.args.n c.args.shift c.pow2-unit.result c.pow2-half.result c.requires.shift_nonzero c.pow2-unit.ensures c.pow2-half.ensures c.if-rest-half.true

pub returns-then-half-rest : goal.returns-then-half-rest
returns-then-half-rest c =
    is_up c.args.n c.args.shift c.pow2-unit.result c.pow2-half.result c.requires.shift_nonzero c.pow2-unit.ensures c.pow2-half.ensures c.if-half-rest.true

pub returns-else-half-rest : goal.returns-else-half-rest
returns-else-half-rest c =
    is_tie c.args.n c.args.shift c.pow2-unit.result c.pow2-half.result c.requires.shift_nonzero c.pow2-unit.ensures c.pow2-half.ensures c.if-rest-half.false c.if-half-rest.false
