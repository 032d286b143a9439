-- `record` meets its contract: of two observations that are present, what `recorded` makes of them.
use Rattle.answers.proofs.soft.record.Goals as goal

pub returns : goal.returns
returns c = rw (c.in_ok-now.was, c.in_ok-before.was, c.recorded.ensures)
