-- `tell` meets its contract: the first row delivered, and the second by the same place where both are asked for.
use mathlib.Core.Path.{refl}
use Rattle.chain.specs.LaterLaws.{other_asks, told_both, told_one}
use Rattle.chain.proofs.later.tell.Goals as goal

pub deliver-requires : goal.deliver-requires
deliver-requires c =
    record { given = other_asks _ _ _ _ c.requires.given_rooms c.if-both.true; count_bound = c.requires.count_bound }

pub returns-then-both : goal.returns-then-both
returns-then-both c =
    told_both _ _ _ _ _ _ refl c.deliver-t.ensures.0 _ c.deliver.ensures.0

pub returns-else-both : goal.returns-else-both
returns-else-both c =
    told_one _ _ _ _ _ _ refl c.deliver-t.ensures.0 _ c.requires.given_rooms.other c.if-both.false
