-- `step` meets its contract: the answer told, and its label noted.
use native.Mathlib.Omega.{arith}
use Rattle.delivery.specs.Laws.{delivered_is}
use Rattle.delivery.proofs.step.step.Goals as goal

pub told-s-requires : goal.told-s-requires
told-s-requires c =
    let given = c.requires in
    record { symbols_lt_most_symbols = omega (arith, given.symbols); locked_le_symbols = given.place.locked }

pub noted-written-requires : goal.noted-written-requires
noted-written-requires c =
    let given = c.requires in
    given.room

pub returns : goal.returns
returns c =
    let told_is = c.told-s.ensures in
    let noted_is = c.noted-written.ensures in
    delivered_is _ _ _ _ _ told_is noted_is
