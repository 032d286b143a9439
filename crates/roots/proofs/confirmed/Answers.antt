-- `confirmed` meets its contract: the difference that the words show is the difference of the whole numbers, so a root that is confirmed is the half root.
use Rattle.std.proofs.Common.{ℕ, ◌+◌, ◌*◌, ◌/◌, ◌%◌, ◌^◌, ◌<◌, T, sym, subst, arith, leb→le}
use mathlib.Core.Bool.{false≢true}
use Rattle.roots.proofs.Guessed.{seen_half, unwrapped, product_lt}
use Rattle.roots.proofs.confirmed.Lts as lts
use Rattle.roots.proofs.confirmed.Reads as reads
use Rattle.roots.proofs.confirmed.Tie as tie
use Rattle.roots.proofs.confirmed.Goals as goal

-- what is known where the code begins
abbrev Start : Type 0
Start = lts.Start tie.the-claims reads.Pre reads.Post tie.handed_clauses

-- the halves of q are below 2 ^ 27, and their products fit
module _ (c : Start) where
  abbrev n : ℕ
  n = c.args.n

  abbrev q : ℕ
  q = c.args.q

  abbrev h : ℕ
  h = q / 0x800_0000

  abbrev l : ℕ
  l = q % 0x800_0000

  high_lt : h < 2 ^ 27
  high_lt = omega (arith, c.requires)

  low_lt : l < 2 ^ 27
  low_lt = omega arith

  upper_lt : h * h < 2 ^ 54
  upper_lt = product_lt h h high_lt high_lt

  cross_lt : h * l < 2 ^ 54
  cross_lt = product_lt h l high_lt low_lt

  lower_lt : l * l < 2 ^ 54
  lower_lt = product_lt l l low_lt low_lt

pub overflow_mul-high : goal.overflow_mul-high
overflow_mul-high c = omega (arith, upper_lt c)

pub returns-then-first-ge268435456 : goal.returns-then-first-ge268435456
returns-then-first-ge268435456 c = λ e. absurd (false≢true e)

pub overflow_mul-high-2 : goal.overflow_mul-high-2
overflow_mul-high-2 c = omega (arith, cross_lt c.before.before)

pub overflow_mul-high-3 : goal.overflow_mul-high-3
overflow_mul-high-3 c = omega (arith, cross_lt c.before.before)

pub returns-then-last-ge1073741824 : goal.returns-then-last-ge1073741824
returns-then-last-ge1073741824 c = λ e. absurd (false≢true e)

pub overflow_mul-lower : goal.overflow_mul-lower
overflow_mul-lower c = let entry = c.before.before.before.before in omega (arith, lower_lt entry)

pub overflow_add-lower : goal.overflow_add-lower
overflow_add-lower c = let entry = c.before.before.before.before in omega (arith, lower_lt entry)

pub returns-then-left-q : goal.returns-then-left-q
returns-then-left-q c = λ e. absurd (false≢true e)

pub returns : goal.returns
returns c = λ e.
    let s = c.before.before.before.before.before in
    let first = c.wrapping_sub_u64-first.result in
    let first_is = c.wrapping_sub_u64-first.ensures.value in
    let last = c.wrapping_sub_u64-last.result in
    let small : first < 2 ^ 30 = omega (arith, c.if-first-ge268435456.false) in
    let cross : h s * l s * 2 < 2 ^ 55 = omega (arith, cross_lt s) in
    let upper : h s * h s < 2 ^ 55 = omega (arith, upper_lt s) in
    seen_half (n s) (q s) first last
    (unwrapped first (n s / 4096 + 1) (h s * h s) first_is small upper)
    (unwrapped last (first * 0x800_0000 + n s % 4096 * 32768) (h s * l s * 2) c.wrapping_sub_u64-last.ensures.value c.if-last-ge1073741824.false cross)
    c.if-left-q.false
    (leb→le (last * 0x800_0000) (l s * l s + 2 ^ 54 + q s) (subst T (sym e) tt))
