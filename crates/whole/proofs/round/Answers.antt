-- `whole::round` meets its contract: a value without digits below the point is whole, and of every other one a half goes away from zero.
use Rattle.std.proofs.Common.{ℕ, ◌^◌, ◌<◌, ◌≤◌, sym, ap, ◌∙◌, subst, pow_pos}
use Rattle.patterns.specs.Shift.{away_le}
use Rattle.std.specs.Float.{binary64}
use Rattle.std.specs.Float.Ieee.{round}
use Rattle.whole.specs.Whole.{away}
use Rattle.whole.proofs.ToWhole.{away_is, made_nothing, made_parts, parts_bounded}
use Rattle.whole.proofs.round.Goals as goal

-- what the match learns
fit : (c : goal.In-Some) → (c.in-Some.f.digits < 2 ^ 53) × (0 < c.in-Some.f.shift)
fit c = parts_bounded binary64 c.args.x c.in-Some.f (sym c.split.ensures.value ∙ c.in-Some.is)

pub returns-in_default : goal.returns-in_default
returns-in_default c = made_nothing binary64 c.args.x away away_is c.split.ensures.held (sym c.split.ensures.value ∙ c.in_default.is)

pub shifted_away-requires : goal.shifted_away-requires
shifted_away-requires c = record { d_bound = (fit c).0; shift_nonzero = (fit c).1 }

pub signed-requires : goal.signed-requires
signed-requires c = let r = c.in-Some.f in subst (λ (n : ℕ). n ≤ 2 ^ 53) (sym c.shifted_away.ensures) (away_le r.digits (2 ^ r.shift) (fit c.before).0 (pow_pos r.shift))

pub returns : goal.returns
returns c =
    c.signed.ensures
    ∙ ap (λ (n : ℕ). round binary64 c.in-Some.f.negative n 1) c.shifted_away.ensures
    ∙ made_parts binary64 c.args.x away away_is c.split.ensures.held c.in-Some.f (sym c.split.ensures.value ∙ c.in-Some.is)
