-- `narrow::narrow_finite` meets its contract: the digits are moved to a fixed place and rounded once, with a subnormal result and overflow.
use Rattle.std.proofs.Common.{ℕ, ◌+◌, ◌-◌, ◌*◌, ◌^◌, ◌<◌, ◌≤◌, min, cond, not, T, sym, refl, ap, ◌∙◌, subst, arith}
use lib.Count.{count_leading_zeros}
use lib.Ieee.{of_bits}
use lib.Ieee.{nan_bits}
use lib.Ieee.{binary32}
use lib.Ieee.Nearest.{closest}
use mir.Facts.{Fits-of_lt}
use Rattle.laws.specs.FloatPack.{no_nan_bits}
use Rattle.numbers.proofs.Narrowing.{Norm, norm, narrowed, kept_le, pattern_lt, min_le}
use Rattle.numbers.proofs.narrow.narrow_finite.Goals as goal

-- the count of leading zeros
abbrev zeros : goal.Start → ℕ
zeros c = count_leading_zeros 64 c.args.d

normal : (c : goal.Start) → Norm c.args.d (zeros c)
normal c = norm c.args.d c.requires.d_bound

pub overflow_sub-z : goal.overflow_sub-z
overflow_sub-z c = (normal c).least

-- d moved up stays below 2 ^ 63
moved : (c : goal.After-pow2) → c.args.d * c.pow2.result < 2 ^ 63
moved c = subst (λ (x : ℕ). c.args.d * x < 2 ^ 63) (sym c.pow2.ensures) (normal c.before).under

pub overflow_mul-n : goal.overflow_mul-n
overflow_mul-n c = omega (arith, moved c)

pub shifted-q-requires-clause-n_bound : goal.shifted-q-requires-clause-n_bound
shifted-q-requires-clause-n_bound c = λ _. moved c.before

-- what the shift keeps
kept : (c : goal.After-shifted-q) → c.shifted-q.result ≤ 2 ^ 24
kept c =
    let k = c.saturating_sub-k.result in
    let e = c.before.before.before in
    let a = c.args in
    subst (λ (x : ℕ). x ≤ 2 ^ 24) (sym (c.shifted-q.ensures ∙ ap (λ (x : ℕ). closest (a.d * x) (2 ^ (k + zeros e + 924 - a.e))) c.pow2.ensures))
    (kept_le a.d a.e (zeros e) c.requires.d_bound c.requires.bound (normal e) k (k + zeros e + 924 - a.e) c.saturating_sub-k.ensures refl)

pub overflow_add-k-3 : goal.overflow_add-k-3
overflow_add-k-3 c = omega (arith, kept c, c.saturating_sub-k.ensures, c.requires)

capped : (c : goal.After-sign32) → c.min-p.result ≤ 0x7f80_0000
capped c = subst (λ (x : ℕ). x ≤ 0x7f80_0000) (sym c.min-p.ensures) (min_le (c.saturating_sub-k.result * 8388608 + c.shifted-q.result) 0x7f80_0000)

pub float_from_bits-result : goal.float_from_bits-result
float_from_bits-result c = subst (λ (x : ℕ). T (not (nan_bits binary32 (x + c.min-p.result)))) (sym c.sign32.ensures) (no_nan_bits binary32 c.args.s c.min-p.result (capped c))

pub returns : goal.returns
returns c =
    let e = c.before.before.before.before.before in
    let a = c.args in
    let k = c.saturating_sub-k.result in
    let sh = k + zeros e + 924 - a.e in
    sym (narrowed a.d a.e (zeros e) c.requires.d_bound c.requires.bound (normal e) a.s k sh c.saturating_sub-k.ensures refl
    ∙ ap (λ (x : ℕ). of_bits binary32 (cond a.s 0x8000_0000 0 + min (k * 8388608 + closest (a.d * x) (2 ^ sh)) 0x7f80_0000)) (sym c.pow2.ensures)
    ∙ ap (λ (x : ℕ). of_bits binary32 (cond a.s 0x8000_0000 0 + min (k * 8388608 + x) 0x7f80_0000)) (sym c.shifted-q.ensures)
    ∙ ap (λ (x : ℕ). of_bits binary32 (cond a.s 0x8000_0000 0 + x)) (sym c.min-p.ensures)
    ∙ ap (λ (x : ℕ). of_bits binary32 (x + c.min-p.result)) (sym c.sign32.ensures))
