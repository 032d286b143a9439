-- `recovery::recover` meets its contract: it is the row with the tables that `both_tables` gives; the sizes are the keeper's envelopes.
use Rattle.recovery.specs.Laws.{recovered_is}
use Rattle.recovery.proofs.recover.Goals as goal

pub row-requires : goal.row-requires
row-requires c =
    let asked = c.requires in
    let is_envelopes = c.envelopes.ensures in
    record { given_row = asked; sizes_value = is_envelopes }

pub returns : goal.returns
returns c =
    let is_tables = c.both_tables-tables.ensures in
    (recovered_is _ _ _ _ _ _ is_tables.same c.row.ensures.0, c.row.ensures.1)
