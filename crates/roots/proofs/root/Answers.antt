-- `root` meets its contract: after each digit the root so far and what is left make up the digits read so far.
use Rattle.std.proofs.Common.{ℕ, ◌+◌, ◌-◌, ◌*◌, ◌/◌, ◌^◌, ◌<◌, ◌≤◌, leb, subst, lt_of_lt_of_le, le_antisymm, arith, pow_mono, rules}
use Rattle.numbers.specs.Roots.{start, step, digits_root}
use Rattle.roots.proofs.Rooting.{digit_le, digit_takes}
use Rattle.roots.proofs.root.Goals as goal

-- in a turn q has fewer than 60 digits
short : (c : goal.In-loop-i) → c.loop-i.q < 2 ^ 60
short c = let h : c.loop-i.i ≤ 60 = omega (arith, c.loop-i-test.true, c.requires) in lt_of_lt_of_le c.loop-i.invariant.small (pow_mono h)

pub loop-i-init : goal.loop-i-init
loop-i-init c = start c.args.n (omega (arith, c.ranges.n))

pub overflow_mul-a : goal.overflow_mul-a
overflow_mul-a c = omega (arith, short c, c.loop-i.invariant.left)

pub overflow_add-a : goal.overflow_add-a
overflow_add-a c = omega (arith, short c, c.loop-i.invariant.left, c.loop-i.invariant.rest_lt)

pub overflow_mul-q : goal.overflow_mul-q
overflow_mul-q c = omega (arith, short c)

pub overflow_add-q : goal.overflow_add-q
overflow_add-q c = omega (arith, short c)

pub digit-g-requires : goal.digit-g-requires
digit-g-requires c = tt

pub overflow_mul-rem : goal.overflow_mul-rem
overflow_mul-rem c = omega (arith, short c.before)

pub overflow_add-rem : goal.overflow_add-rem
overflow_add-rem c = omega (arith, short c.before)

-- what is taken off
taken : (c : goal.After-digit-g) → c.digit-g.result * (c.loop-i.q * 4 + 1) ≤ c.loop-i.rem * 4 + c.loop-i.rest / 2 ^ 62
taken c = let l = c.loop-i in digit_takes (l.q * 4 + 1) (l.rem * 4 + l.rest / 2 ^ 62) c.digit-g.result c.digit-g.ensures

pub overflow_mul-rem-in-loop-i : goal.overflow_mul-rem-in-loop-i
overflow_mul-rem-in-loop-i c = omega (arith, taken c, short c.before, c.loop-i.invariant.left, c.loop-i.invariant.rest_lt)

pub overflow_sub-rem : goal.overflow_sub-rem
overflow_sub-rem c = taken c

pub overflow_mul-q-in-loop-i : goal.overflow_mul-q-in-loop-i
overflow_mul-q-in-loop-i c = omega (arith, short c.before)

pub overflow_add-q-in-loop-i : goal.overflow_add-q-in-loop-i
overflow_add-q-in-loop-i c = let l = c.loop-i in omega (arith, short c.before, digit_le (leb (l.q * 4 + 1) (l.rem * 4 + l.rest / 2 ^ 62)) c.digit-g.result c.digit-g.ensures)

pub overflow_mul-rest : goal.overflow_mul-rest
overflow_mul-rest c = omega arith

pub loop-i-preserved : goal.loop-i-preserved
loop-i-preserved c = let l = c.loop-i in step c.args.n l.i l.q l.rem l.rest c.digit-g.result c.digit-g.ensures l.invariant

pub returns : goal.returns
returns c =
    let l = c.loop-i in
    let a = c.args in
    let both = subst (λ (i : ℕ). (l.q * l.q * 2 ^ 64 ≤ a.n * 2 ^ (i + i)) × (a.n * 2 ^ (i + i) < (l.q + 1) * (l.q + 1) * 2 ^ 64)) (le_antisymm (search rules) c.loop-i-test.false) (digits_root a.n l.i l.q l.rem l.rest l.invariant) in
    record { least = both.0; most = both.1 }
