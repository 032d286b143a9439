-- `link` meets its contract: the step with the oldest record, the symbol's record in its place, and the answer put into the row.
use Rattle.second.specs.Laws.{link_meets}
use borrow.Author.Rules.{rules}
use Rattle.second.proofs.link.link.Goals as goal

pub offset_bounds-records-slot : goal.offset_bounds-records-slot
offset_bounds-records-slot c =
    let given = c.requires in
    search (rules, given.given_link.state.detector.skeleton.place.write)

pub bounds-records-slot : goal.bounds-records-slot
bounds-records-slot c =
    let given = c.requires in
    search (rules, given.given_link.state.detector.skeleton.place.write)

pub returns : goal.returns
returns c =
    let given = c.requires in
    link_meets _ _ _ _ _ _ _ c.oldest-last.ensures c.step-c.ensures.0 c.put.ensures given.given_link.state.detector.skeleton given.given_link.answers
