-- `whole::round_ties_even` meets its contract: a value without digits below the point is whole, and of every other one a half goes to the even number.
use Rattle.std.proofs.Common.{ℕ, ◌^◌, ◌<◌, ◌≤◌, sym, ap, ◌∙◌, subst, arith, pow_mono}
use Rattle.std.specs.Float.{binary64}
use Rattle.std.specs.Float.Ieee.{round}
use Rattle.whole.specs.Whole.{to_even}
use Rattle.whole.proofs.ToWhole.{even_is, even_le, made_nothing, made_parts, parts_bounded}
use Rattle.whole.proofs.round_ties_even.Goals as goal

-- what the match learns
fit : (c : goal.In-Some) → (c.in-Some.f.digits < 2 ^ 53) × (0 < c.in-Some.f.shift)
fit c = parts_bounded binary64 c.args.x c.in-Some.f (sym c.split.ensures.value ∙ c.in-Some.is)

pub returns-in_default : goal.returns-in_default
returns-in_default c = made_nothing binary64 c.args.x to_even even_is c.split.ensures.held (sym c.split.ensures.value ∙ c.in_default.is)

pub shifted-requires : goal.shifted-requires
shifted-requires c = record { n_bound = (λ _. omega (arith, (fit c).0)); shift_nonzero = (fit c).1 }

pub signed-requires : goal.signed-requires
signed-requires c = let r = c.in-Some.f in subst (λ (n : ℕ). n ≤ 2 ^ 53) (sym c.shifted.ensures) (even_le r.digits (2 ^ r.shift) (fit c.before).0 (pow_mono (fit c.before).1))

pub returns : goal.returns
returns c =
    c.signed.ensures
    ∙ ap (λ (n : ℕ). round binary64 c.in-Some.f.negative n 1) c.shifted.ensures
    ∙ made_parts binary64 c.args.x to_even even_is c.split.ensures.held c.in-Some.f (sym c.split.ensures.value ∙ c.in-Some.is)
