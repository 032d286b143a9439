-- `filtered` meets its contract: the last c values stand in one straight run or in two, and the sum goes run by run.
use Rattle.std.proofs.Common.{length, arith}
use Rattle.resampler.proofs.Window.{oldest_in, base_small, filtered_one, filtered_two}
use Rattle.laws.specs.Places.{row_ends}
use Rattle.resampler.proofs.pass.filtered.Goals as goal

pub overflow_mul-base : goal.overflow_mul-base
overflow_mul-base c = omega (arith, base_small c.args.phase c.args.r.arm c.requires.phase_bound c.requires.dimensioned.arm_high)

pub overflow_sub-straight : goal.overflow_sub-straight
overflow_sub-straight c = omega (arith, oldest_in c.args.r.arm c.args.r.write)

pub summed-requires : goal.summed-requires
summed-requires c =
    let base = base_small c.args.phase c.args.r.arm c.requires.phase_bound c.requires.dimensioned.arm_high in
    let oldest = oldest_in c.args.r.arm c.args.r.write in
    let ends = row_ends c.args.phase 32 c.args.r.arm (length c.args.table.now) c.requires.phase_bound c.requires.arm_in_bounds in
    record { count_bound = omega (arith, base, oldest, ends); count_in_bounds = omega (arith, base, oldest, ends) }

pub returns-then-straight-arm : goal.returns-then-straight-arm
returns-then-straight-arm c =
    filtered_one c.args.r c.args.table.now c.args.reals.now c.args.imaginaries.now c.args.phase c.zero-zero.result c.summed.result c.oldest_place-oldest.result
    c.requires.dimensioned.write_in c.zero-zero.ensures c.oldest_place-oldest.ensures c.if-straight-arm.true c.summed.ensures

pub summed-s-requires : goal.summed-s-requires
summed-s-requires c =
    let base = base_small c.args.phase c.args.r.arm c.requires.phase_bound c.requires.dimensioned.arm_high in
    let oldest = oldest_in c.args.r.arm c.args.r.write in
    let ends = row_ends c.args.phase 32 c.args.r.arm (length c.args.table.now) c.requires.phase_bound c.requires.arm_in_bounds in
    record { count_bound = omega (arith, base, oldest, ends); count_in_bounds = omega (arith, base, oldest, ends) }

pub overflow_add-base : goal.overflow_add-base
overflow_add-base c =
    let base = base_small c.args.phase c.args.r.arm c.requires.phase_bound c.requires.dimensioned.arm_high in
    let oldest = oldest_in c.args.r.arm c.args.r.write in
    let ends = row_ends c.args.phase 32 c.args.r.arm (length c.args.table.now) c.requires.phase_bound c.requires.arm_in_bounds in
    omega (arith, base, oldest, ends)

pub summed-requires-2 : goal.summed-requires-2
summed-requires-2 c =
    let base = base_small c.args.phase c.args.r.arm c.requires.phase_bound c.requires.dimensioned.arm_high in
    let oldest = oldest_in c.args.r.arm c.args.r.write in
    let ends = row_ends c.args.phase 32 c.args.r.arm (length c.args.table.now) c.requires.phase_bound c.requires.arm_in_bounds in
    record { count_bound = omega (arith, base, oldest, ends); count_in_bounds = omega (arith, base, oldest, ends) }

pub returns : goal.returns
returns c =
    let zero = c.zero-zero in
    filtered_two c.args.r c.args.table.now c.args.reals.now c.args.imaginaries.now c.args.phase zero.result c.summed-2.result c.oldest_place-oldest.result
    c.requires.dimensioned.write_in zero.ensures c.oldest_place-oldest.ensures c.summed-s.result c.if-straight-arm.false c.summed-s.ensures c.summed-2.ensures
