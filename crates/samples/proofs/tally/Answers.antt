-- `tally` meets its contract: one more where a part is at an end.
use Rattle.samples.specs.Samples.{is_at_end}
use Rattle.samples.specs.Laws.{tally_more, tally_same}
use borrow.Author.Rules.{rules}
use Rattle.samples.proofs.tally.Goals as goal

pub returns-then-is_at_end : goal.returns-then-is_at_end
returns-then-is_at_end c = record { same = tally_more is_at_end _ _ _ _ _ c.is_at_end.ensures c.is_at_end-2.ensures c.if-is_at_end.true; more = search rules }

pub returns-else-is_at_end : goal.returns-else-is_at_end
returns-else-is_at_end c = record { same = tally_same is_at_end _ _ _ _ _ c.is_at_end.ensures c.is_at_end-2.ensures c.if-is_at_end.false; more = search rules }
