-- `copy_family` meets its contract: one place stands for four that are one.
use Rattle.inheriting.specs.Laws.{fours_alike}
use Rattle.inheriting.proofs.copied.copy_family.Goals as goal

pub returns-then-are_alike : goal.returns-then-are_alike
returns-then-are_alike c =
    fours_alike _ _ _ _ _ _ _ _ _ c.are_alike.ensures c.if-are_alike.true c.copy_four.ensures
