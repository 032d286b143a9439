-- `whole::shifted_away` meets its contract: a shift of 64 and more leaves nothing of 53 bits, and every other one rounds a half upwards.
use Rattle.std.proofs.Common.{ℕ, ◌-◌, ◌^◌, ◌<◌, ◌≤◌, sym, subst, arith, pow_pos, pow_mono}
use mir.Facts.{Fits-of_lt}
use Rattle.patterns.specs.Shift.{away_far, away_near, sum_fits}
use Rattle.whole.proofs.shifted_away.Goals as goal

pub returns-then-shift-ge64 : goal.returns-then-shift-ge64
returns-then-shift-ge64 c = away_far c.args.d c.args.shift c.requires.d_bound c.if-shift-ge64.true

low : (k : ℕ) → k < 64 → k - 1 ≤ 63
low k h = omega arith

pub overflow_add-result : goal.overflow_add-result
overflow_add-result c = Fits-of_lt (sum_fits c.args.d c.pow2.result c.requires.d_bound (subst (λ (x : ℕ). x ≤ 2 ^ 63) (sym c.pow2.ensures) (pow_mono (low c.args.shift c.if-shift-ge64.false))))

pub nonzero_div-result : goal.nonzero_div-result
nonzero_div-result c = subst (λ (x : ℕ). 0 < x) (sym c.pow2-2.ensures) (pow_pos c.args.shift)

pub returns : goal.returns
returns c = away_near c.args.d c.args.shift c.pow2-2.result c.pow2.result c.requires.shift_nonzero c.pow2-2.ensures c.pow2.ensures
