-- `program::answer::closed` meets its contract.
use Rattle.program.specs.Laws.{closed_is}
use borrow.Author.Rules.{rules}
use Rattle.program.proofs.answer.closed.Goals as goal

pub returns : goal.returns
returns c =
    record { same = closed_is _ _ c.snapshot_of-s.result _ _ c.snapshot_of-s.ensures c.closing.ensures.same; near = search rules; kept = c.closing.ensures.kept }
