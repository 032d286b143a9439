-- `fresh` meets its contract: a fresh carrier and fresh records.
use Rattle.second.specs.Second.{fresh_second}
use Rattle.second.proofs.fresh.Goals as goal

pub returns : goal.returns
unfolding fresh_second
returns c = rw (c.fresh_records.ensures, c.fresh.ensures)
