-- `angle::quadrant_arc` meets its contract: each way out is one case of `quadrant_arc`.
use Rattle.routines.proofs.AngleLaws.{quadrant_1, quadrant_2, quadrant_3, quadrant_4}
use Rattle.std.proofs.Common.{sym, ◌∙◌}
use Rattle.routines.proofs.angle.quadrant_arc.Goals as goal

pub returns-then-h : goal.returns-then-h
returns-then-h c = quadrant_1 c.args.v c.args.h c.if-v-h.true c.if-h.true

pub returns-then-is_finite : goal.returns-then-is_finite
returns-then-is_finite c =
    let v = c.args.v in
    let h = c.args.h in
    let test1_holds = c.if-v-h.true in
    quadrant_2 v h _ test1_holds c.if-h.false (sym c.is_finite.ensures ∙ c.if-is_finite.true) c.arc.ensures

pub returns-else-is_finite : goal.returns-else-is_finite
returns-else-is_finite c =
    let v = c.args.v in
    let h = c.args.h in
    quadrant_3 v h c.if-v-h.true c.if-h.false (sym c.is_finite.ensures ∙ c.if-is_finite.false)

pub returns-else-v-h : goal.returns-else-v-h
returns-else-v-h c = quadrant_4 c.args.v c.args.h _ c.if-v-h.false c.arc-else-v-h.ensures
