-- `sqrt` meets its contract: the number itself, a NaN, or the root of its digits.
use Rattle.std.proofs.Common.{sym, ◌∙◌}
use Rattle.roots.specs.declared.Radicand.TheVariants.{Itself, Negative, Digits}
use Rattle.roots.proofs.Rooting.{root_made, root_bounded}
use Rattle.roots.proofs.sqrt.Goals as goal

pub finite_root-requires : goal.finite_root-requires
finite_root-requires g c =
    let w = g.F.Width in
    let bounds = root_bounded w.format (w.number c.args.x) c.prepared.ensures.held (Digits c.in-Digits.d c.in-Digits.p) (sym c.prepared.ensures.value ∙ c.in-Digits.is) in
    record { d_nonzero = bounds.0; d_bound = bounds.1.0; p_bound = bounds.1.1 }

pub returns-in-Itself : goal.returns-in-Itself
returns-in-Itself g c =
    let w = g.F.Width in
    root_made w.format (w.number c.args.x) c.prepared.ensures.held Itself (sym c.prepared.ensures.value ∙ c.in-Itself.is)

pub returns-in-Negative : goal.returns-in-Negative
returns-in-Negative g c =
    let w = g.F.Width in
    c.not_a_number.ensures ∙ root_made w.format (w.number c.args.x) c.prepared.ensures.held Negative (sym c.prepared.ensures.value ∙ c.in-Negative.is)

pub returns-in-Digits : goal.returns-in-Digits
returns-in-Digits g c =
    let w = g.F.Width in
    c.finite_root.ensures ∙ root_made w.format (w.number c.args.x) c.prepared.ensures.held (Digits c.in-Digits.d c.in-Digits.p) (sym c.prepared.ensures.value ∙ c.in-Digits.is)
