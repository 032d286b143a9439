-- `whole::floor` meets its contract: a value without digits below the point is whole, and every other one goes toward minus infinity.
use Rattle.std.proofs.Common.{ℕ, ◌^◌, ◌≤◌, sym, ap, ◌∙◌, subst}
use Rattle.std.specs.Float.Ieee.{prec, round}
use Rattle.whole.specs.Whole.{downward}
use Rattle.whole.proofs.ToWhole.{down_is, down_le, made_nothing, made_parts, narrow_digits, parts_bounded}
use Rattle.whole.proofs.floor.Goals as goal

pub returns-in_default : goal.returns-in_default
returns-in_default g c =
    let w = g.F.Width in
    made_nothing w.format (w.number c.args.x) downward down_is c.split.ensures.held (sym c.split.ensures.value ∙ c.in_default.is)

pub shifted_down-requires : goal.shifted_down-requires
shifted_down-requires g c =
    let w = g.F.Width in
    narrow_digits w.format c.in-Some.f.digits (parts_bounded w.format (w.number c.args.x) c.in-Some.f (sym c.split.ensures.value ∙ c.in-Some.is)).0

pub signed-requires : goal.signed-requires
signed-requires g c =
    let w = g.F.Width in
    let r = c.in-Some.f in
    subst (λ (n : ℕ). n ≤ 2 ^ prec w.format) (sym c.shifted_down.ensures) (down_le w.format r.negative r.digits (2 ^ r.shift) (parts_bounded w.format (w.number c.args.x) r (sym c.split.ensures.value ∙ c.in-Some.is)).0)

pub returns : goal.returns
returns g c =
    let w = g.F.Width in
    c.signed.ensures
    ∙ ap (λ (n : ℕ). round w.format c.in-Some.f.negative n 1) c.shifted_down.ensures
    ∙ made_parts w.format (w.number c.args.x) downward down_is c.split.ensures.held c.in-Some.f (sym c.split.ensures.value ∙ c.in-Some.is)
