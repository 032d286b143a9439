-- `angle::arctangent` meets its contract: a NaN comes through, and every other point is turned into the first quadrant, mirrored, narrowed and given its sign.
use Rattle.routines.proofs.AngleCode.{first_nan, second_nan, made_below, made_above}
use Rattle.routines.proofs.angle.arctangent.Goals as goal

pub returns-then-v : goal.returns-then-v
returns-then-v c = first_nan c.args.y c.args.x _ c.widen-v.ensures c.if-v.true

pub returns-then-h : goal.returns-then-h
returns-then-h c =
    let y = c.args.y in
    let x = c.args.x in
    second_nan y x _ c.widen-h.ensures c.if-h.true

pub returns-then-is_negative : goal.returns-then-is_negative
returns-then-is_negative c =
    let widen_says = c.widen-v.ensures in
    let widen2_says = c.widen-h.ensures in
    let abs_says = c.abs.ensures in
    let abs2_says = c.abs-2.ensures in
    let quadrant_arc_says = c.quadrant_arc-a.ensures in
    let is_negative_says = c.is_negative.ensures in
    let test1_fails = c.if-v.false in
    let test2_fails = c.if-h.false in
    made_below _ _ _ _ _ _ _ _ _ _ _ widen_says widen2_says abs_says abs2_says quadrant_arc_says is_negative_says c.mirrored.ensures c.narrow-r.ensures test1_fails test2_fails c.is_negative-2.ensures c.if-is_negative.true

pub returns-else-is_negative : goal.returns-else-is_negative
returns-else-is_negative c =
    let widen_says = c.widen-v.ensures in
    let widen2_says = c.widen-h.ensures in
    let abs_says = c.abs.ensures in
    let abs2_says = c.abs-2.ensures in
    let quadrant_arc_says = c.quadrant_arc-a.ensures in
    let is_negative_says = c.is_negative.ensures in
    let test1_fails = c.if-v.false in
    let test2_fails = c.if-h.false in
    made_above _ _ _ _ _ _ _ _ _ _ _ widen_says widen2_says abs_says abs2_says quadrant_arc_says is_negative_says c.mirrored.ensures c.narrow-r.ensures test1_fails test2_fails c.is_negative-2.ensures c.if-is_negative.false
