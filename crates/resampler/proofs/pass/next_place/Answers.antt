-- `next_place` meets its contract: the place after the last is the first, which is the remainder.
use Rattle.std.proofs.Common.{◌≡◌, ℕ, ◌+◌, ◌%◌, sym, ap, ◌∙◌, mod-eq_of_lt, arith}
use native.Mathlib.Nat.{mod_self}
use Rattle.resampler.proofs.pass.next_place.Goals as goal

pub returns-then-at-size : goal.returns-then-at-size
returns-then-at-size c = sym (mod-eq_of_lt c.if-at-size.true)

pub returns-else-at-size : goal.returns-else-at-size
returns-else-at-size c = let e : c.args.at + 1 ≡ c.args.size = omega arith in sym (ap (λ (n : ℕ). n % c.args.size) e ∙ mod_self _)
