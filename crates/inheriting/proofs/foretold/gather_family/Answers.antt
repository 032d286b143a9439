-- `gather_family` meets its contract: one place stands for four that are one.
use Rattle.inheriting.specs.Foretold.{foretold_alike}
use Rattle.inheriting.proofs.foretold.gather_family.Goals as goal

pub returns-then-are_alike : goal.returns-then-are_alike
returns-then-are_alike c =
    foretold_alike _ _ _ _ _ _ _ _ _ c.are_alike.ensures c.if-are_alike.true c.gather_one.ensures
