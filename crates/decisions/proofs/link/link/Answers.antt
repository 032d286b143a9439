-- `link` meets its contract: the step with the oldest record, the symbol's record in its place, and the answer put into the row.
use Rattle.decisions.specs.Laws.{linked_is}
use borrow.Author.Rules.{rules}
use Rattle.decisions.proofs.link.link.Goals as goal

pub oldest-last-requires : goal.oldest-last-requires
oldest-last-requires c =
    let given = c.requires in
    given.given_row.state.carrier.detector.skeleton.place.write

pub step-s-requires : goal.step-s-requires
step-s-requires c =
    let given = c.requires in
    given.given_row.state

pub offset_bounds-records-slot : goal.offset_bounds-records-slot
offset_bounds-records-slot c =
    let given = c.requires in
    search (rules, given.given_row.state.carrier.detector.skeleton.place.write)

pub bounds-records-slot : goal.bounds-records-slot
bounds-records-slot c =
    let given = c.requires in
    search (rules, given.given_row.state.carrier.detector.skeleton.place.write)

pub put-requires : goal.put-requires
put-requires c =
    let given = c.requires in
    given.at_bound

pub returns : goal.returns
returns c =
    let oldest_is = c.oldest-last.ensures in
    let step_is = c.step-s.ensures in
    linked_is _ _ _ _ _ _ _ oldest_is step_is c.put.ensures
