-- `step` meets its contract: the trellis advances with the given channels, the row of parents is stored, and the walk back starts at the best state.
--
use native.Mathlib.Omega.{arith}
use Rattle.sequence.specs.Steps.{asked_table, step_meets}
use Rattle.sequence.proofs.step.step.Goals as goal

pub overflow_cast-prior : goal.overflow_cast-prior
overflow_cast-prior c =
    let advanced = c.advance-best.ensures in
    omega (arith, advanced.near.1.below _ advanced.near.0)

pub taps_at-survivor-requires : goal.taps_at-survivor-requires
taps_at-survivor-requires c =
    let advanced = c.advance-best.ensures in
    advanced.near.1.below _ advanced.near.0

pub overflow_cast-prior-2 : goal.overflow_cast-prior-2
overflow_cast-prior-2 c =
    let advanced = c.advance-best.ensures in
    omega (arith, advanced.near.1.below _ advanced.near.0)

pub observed-seen-requires : goal.observed-seen-requires
observed-seen-requires c =
    let advanced = c.advance-best.ensures in
    advanced.near.1.below _ advanced.near.0

pub store-requires : goal.store-requires
store-requires c =
    let given = c.requires.ranged in
    (given.place.write, given.parents_size)

pub walk-walked-requires : goal.walk-walked-requires
walk-walked-requires c =
    let given = c.requires.ranged in
    let advanced = c.advance-best.ensures in
    let table = asked_table _ _ _ _ c.store.ensures given.place.write given.parents_size given.table advanced.near.1 in
    (given.place.write, advanced.near.0, table, given.place.earlier)

pub reported-requires : goal.reported-requires
reported-requires c = let given = c.requires.ranged in given.place.write

pub returns : goal.returns
returns c =
    let given = c.requires.ranged in
    let advanced = c.advance-best.ensures in
    let survivor = c.taps_at-survivor.ensures in
    let seen = c.observed-seen.ensures in
    let stored = c.store.ensures in
    step_meets _ _ _ _ _ _ _ _ _ _ _ _ _ _ _ _ advanced.reads survivor seen stored c.walk-walked.ensures c.reported.ensures given
