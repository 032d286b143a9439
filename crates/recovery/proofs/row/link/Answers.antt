-- `recovery::row::link` meets its contract: it is a step, and its symbol put into the row.
use Rattle.recovery.specs.Laws.{linked_is}
use Rattle.recovery.proofs.row.link.Goals as goal

pub step-s-requires : goal.step-s-requires
step-s-requires c =
    let asked = c.requires in
    record { given = asked.given_row.state; sizes_value = asked.sizes_value }

pub put-requires : goal.put-requires
put-requires c =
    let asked = c.requires in
    asked.given_row.symbols

pub returns : goal.returns
returns c =
    let is_stepped = c.step-s.ensures in
    (linked_is _ _ _ _ _ _ is_stepped.0 c.put.ensures, is_stepped.1)
