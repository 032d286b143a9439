-- `block` is safe and ends: each call uses a sample at least.
use Prim.Native.Nat.{◌-◌}
use native.Mathlib.Omega.{arith}
use borrow.Author.Rules.{rules}
use Rattle.replay_front.proofs.block.Goals as goal

pub loop-from-init : goal.loop-from-init
loop-from-init c = (c.requires.admitted, omega (arith, c.requires.index_bound))

pub front-f-requires : goal.front-f-requires
front-f-requires c =
    let inv = c.loop-from.invariant in
    let arm = inv.0.resampler.arm_high in
    record { admitted = inv.0; numbers = c.requires.numbers; arm_in_bounds = search (rules, arm); from_bound = omega (arith, c.requires.samples_len, inv.1); from_in_bounds = omega (arith, c.requires.samples_len, c.loop-from-test) }

pub mixed_row-h-requires : goal.mixed_row-h-requires
mixed_row-h-requires c = c.front-f.ensures.kept.room

pub overflow_add-from : goal.overflow_add-from
overflow_add-from c =
    let some_left = c.loop-from-test in
    let called = c.front-f in
    omega (arith, called.ensures.kept.most, c.requires.samples_len, some_left)

pub loop-from-smaller : goal.loop-from-smaller
loop-from-smaller c =
    let some_left = c.loop-from-test in
    let called = c.front-f in
    let some = called.ensures.kept.some (omega (arith, c.requires.samples_len, some_left)) in
    omega (arith, some, some_left)

pub loop-from-preserved : goal.loop-from-preserved
loop-from-preserved c =
    let inv = c.loop-from.invariant in
    let some_left = c.loop-from-test in
    let called = c.front-f in
    let kept = called.ensures.kept in
    (kept.next.admitted, omega (arith, kept.next.index, kept.most, inv.1, c.requires.samples_len, some_left))

pub returns : goal.returns
returns c = c.loop-from.invariant.0
