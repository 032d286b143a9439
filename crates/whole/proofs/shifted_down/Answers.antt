-- `whole::shifted_down` meets its contract: a quotient, and one more where a value below zero leaves a rest.
use Rattle.std.proofs.Common.{◌≡◌, ℕ, ◌+◌, ◌/◌, ◌^◌, ◌<◌, true, false, sym, refl, ap, ◌∙◌, subst, true≢false, div-le_self, arith, pow_pos}
use mathlib.Core.Bool.{false≢true}
use Rattle.whole.proofs.ToWhole.{down_far, down_near, down_near_2}
use Rattle.whole.proofs.shifted_down.Goals as goal

pub returns-then-s : goal.returns-then-s
returns-then-s c = down_far c.args.s c.args.d c.args.shift c.min.result c.requires c.if-shift-ge64.true (λ _. c.min.ensures) (λ (e : c.args.s ≡ false). absurd (false≢true (sym e ∙ c.if-s.true)))

pub returns-else-s : goal.returns-else-s
returns-else-s c = down_far c.args.s c.args.d c.args.shift 0 c.requires c.if-shift-ge64.true (λ (e : c.args.s ≡ true). absurd (true≢false (sym e ∙ c.if-s.false))) (λ _. refl)

pub nonzero_div-q : goal.nonzero_div-q
nonzero_div-q c = subst (λ (x : ℕ). 0 < x) (sym c.pow2-u.ensures) (pow_pos c.args.shift)

pub nonzero_rem-d : goal.nonzero_rem-d
nonzero_rem-d c = nonzero_div-q c.before

pub overflow_add-result : goal.overflow_add-result
overflow_add-result c = omega (arith, div-le_self c.args.d c.pow2-u.result, c.min-then-s-2.ensures, c.requires)

pub returns-then-s-2 : goal.returns-then-s-2
returns-then-s-2 c = let u = c.pow2-u.result in ap (λ (x : ℕ). c.args.d / u + x) c.min-then-s-2.ensures ∙ down_near c.args.s c.args.d u (2 ^ c.args.shift) c.pow2-u.ensures c.if-s-2.true

pub returns-else-s-2 : goal.returns-else-s-2
returns-else-s-2 c = down_near_2 c.args.s c.args.d c.pow2-u.result (2 ^ c.args.shift) c.pow2-u.ensures c.if-s-2.false
