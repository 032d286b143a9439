-- `turned` meets its contract: a link from one array of inverses into the other.
use Rattle.second.specs.Laws.{holding_asks, turned_even, turned_odd}
use Rattle.second.proofs.link.turned.Goals as goal

pub link-requires : goal.link-requires
link-requires c =
    let given = c.requires in
    record { given_link = holding_asks _ _ given.given_link given.odd_len; at_bound = given.at_bound }

pub link-requires-else-at-eq0 : goal.link-requires-else-at-eq0
link-requires-else-at-eq0 c =
    let given = c.requires in
    record { given_link = given.given_link; at_bound = given.at_bound }

pub returns-then-at-eq0 : goal.returns-then-at-eq0
returns-then-at-eq0 c =
    let given = c.requires in
    let next = c.link.ensures in
    record { leaves_turns = turned_even _ _ _ _ _ _ c.if-at-eq0.true next.0; whole = (given.given_link.state.detector.memory.inverse_size, next.1.state.detector.memory.inverse_size) }

pub returns-else-at-eq0 : goal.returns-else-at-eq0
returns-else-at-eq0 c =
    let given = c.requires in
    let next = c.link-else-at-eq0.ensures in
    record { leaves_turns = turned_odd _ _ _ _ _ _ c.if-at-eq0.false next.0; whole = (next.1.state.detector.memory.inverse_size, given.odd_len) }
