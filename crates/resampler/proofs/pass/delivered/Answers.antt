-- `delivered` meets its contract: at each turn what is left to do is what is left of the whole pass, and a third output is never due.
use Rattle.std.proofs.Common.{sym, ◌∙◌, arith}
use Rattle.resampler.specs.AdmittedLaws.{stands_first, stands_few, one_output, stands_next, stands_last}
use Rattle.resampler.proofs.pass.delivered.Goals as goal

pub loop-r-init : goal.loop-r-init
loop-r-init c = stands_first c.args.r c.requires.passing c.args.table.now c.args.reals.now c.args.imaginaries.now c.zero-zero.result c.zero-zero.ensures

pub placed-p-requires : goal.placed-p-requires
placed-p-requires c = c.loop-r.invariant.going.sound.range

pub is_waiting-requires : goal.is_waiting-requires
is_waiting-requires c =
    record { dimensioned = c.requires.dimensioned; near = c.placed-p.ensures.near }

pub filtered-v-requires : goal.filtered-v-requires
filtered-v-requires c =
    record { dimensioned = c.requires.dimensioned; phase_bound = c.placed-p.ensures.near.phase_in; arm_in_bounds = c.requires.arm_in_bounds }

pub emitted-d-requires : goal.emitted-d-requires
emitted-d-requires c =
    let loop = c.loop-r in
    let placed = c.placed-p in
    let due = sym c.is_waiting.ensures ∙ c.if-is_waiting.false in
    stands_few c.args.r c.requires.passing c.args.table.now c.args.reals.now c.args.imaginaries.now loop.d loop.invariant placed.result placed.ensures.same due

pub loop-r-smaller : goal.loop-r-smaller
loop-r-smaller c =
    let loop = c.loop-r in
    let placed = c.placed-p in
    let due = sym c.is_waiting.ensures ∙ c.if-is_waiting.false in
    let filtered = c.filtered-v in
    let few = stands_few c.args.r c.requires.passing c.args.table.now c.args.reals.now c.args.imaginaries.now loop.d loop.invariant placed.result placed.ensures.same due in
    let more = one_output c.args.r c.requires.passing c.args.table.now c.args.reals.now c.args.imaginaries.now loop.d loop.invariant placed.result placed.ensures.same due
    filtered.result c.emitted-d.result filtered.ensures c.emitted-d.ensures in
    omega arith

pub loop-r-preserved : goal.loop-r-preserved
loop-r-preserved c =
    let loop = c.loop-r in
    let placed = c.placed-p in
    let due = sym c.is_waiting.ensures ∙ c.if-is_waiting.false in
    let filtered = c.filtered-v in
    stands_next c.args.r c.requires.passing c.args.table.now c.args.reals.now c.args.imaginaries.now loop.d loop.invariant placed.result placed.ensures.same due
    filtered.result c.emitted-d.result filtered.ensures c.emitted-d.ensures

pub returns-then-is_waiting : goal.returns-then-is_waiting
returns-then-is_waiting c =
    let loop = c.loop-r in
    let placed = c.placed-p in
    stands_last c.args.r c.requires.passing c.args.table.now c.args.reals.now c.args.imaginaries.now loop.d loop.invariant placed.result placed.ensures.same (sym c.is_waiting.ensures ∙ c.if-is_waiting.true)
