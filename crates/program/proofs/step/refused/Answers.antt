-- `program::step::refused` meets its contract.
use Rattle.program.specs.StepLaws.{refused_is}
use borrow.Author.Rules.{rules}
use Rattle.program.proofs.step.refused.Goals as goal

pub returns : goal.returns
returns c =
    record { same = refused_is _ _ _ _ _ _ _ _ c.from.ensures c.refused-end.ensures.same; near = search rules; kept = c.refused-end.ensures.kept }
