-- `decide` meets its contract: the parts taken out, the row, and the parts put back.
use Rattle.second.specs.Parts.{long_enough}
use Rattle.second.specs.Laws.{taken_asks, held_parts, first_held, row_packed}
use borrow.Author.Rules.{rules}
use Rattle.second.proofs.decide.Goals as goal

pub take_out-requires : goal.take_out-requires
take_out-requires c =
    let given = c.requires in
    record { in_bounds = long_enough _ given.given.state.detector.skeleton.costs_size; given_parts = search rules }

pub run-second-requires : goal.run-second-requires
run-second-requires c =
    let taken = c.take_out.ensures in
    let given = c.requires in
    record { given_link = taken_asks _ _ given.given taken.0 taken.1; odd_len = search rules; count_bound = given.count_bound }

pub put_back-requires : goal.put_back-requires
put_back-requires c =
    let ran = c.run-second.ensures in
    let given = c.requires in
    record { in_bounds = long_enough _ given.given.state.detector.skeleton.costs_size; given_parts = held_parts _ _ ran.leaves_turns.1 ran.whole.0; odd_len = ran.whole.1 }

pub returns : goal.returns
returns c =
    let ran = c.run-second.ensures in
    let taken = c.take_out.ensures in
    record { leaves = row_packed _ _ _ _ _ _ _ _ (first_held _ _ _ taken.0) taken.1 ran.leaves_turns.0 ran.leaves_turns.1 c.put_back.ensures; whole = search rules }
