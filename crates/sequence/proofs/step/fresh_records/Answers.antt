-- `fresh_records` meets its contract: 32 slots without a record.
use Rattle.sequence.specs.Sequence.{fresh_records}
use borrow.Author.Rules.{rules}
use Rattle.sequence.proofs.step.fresh_records.Goals as goal

pub returns : goal.returns
unfolding fresh_records
returns c = search rules
