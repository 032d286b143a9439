-- `advance` meets its contract: a run, and what its last sample gave into the ring and the row, is its samples taken one by one.
use Rattle.front.specs.Draws.{advance_is, filled_on, moved_is, left_some}
use native.Mathlib.Omega.{arith}
use Rattle.front.proofs.advance.Goals as goal

pub draw-s-requires : goal.draw-s-requires
draw-s-requires c =
    record { admitted = c.requires.admitted; numbers = c.requires.numbers; from_in_bounds = c.requires.used_in_bounds }

pub overflow_add-used : goal.overflow_add-used
overflow_add-used c =
    omega (arith, c.draw-s.ensures.kept.most, c.requires, c.well_formed)

pub offered-l-requires : goal.offered-l-requires
offered-l-requires c =
    record { ring_admitted = c.requires.admitted.resampler; index_bound = c.requires.index_bound; arm_in_bounds = c.requires.arm_in_bounds; made_bound = c.requires.made_bound }

pub returns : goal.returns
returns c =
    let draw = c.draw-s in
    let offered = c.offered-l in
    let e = advance_is _ _ _ c.args.t c.args.from _ _ _ _ draw.result offered.result _ _ _ _ draw.ensures.same offered.ensures.same in
    record { same = e; left = filled_on _ _ _ _ _ c.requires.admitted c.requires.made_bound c.requires.used_in_bounds e; kept = moved_is c.args.t _ draw.result offered.result c.requires.admitted (left_some _ _ c.requires.used_in_bounds) draw.ensures.kept offered.ensures.kept }
