-- `moved` meets its contract: by gain times error where the denominator is usable.
use Rattle.least_squares.specs.Laws.{moved_is}
use Rattle.least_squares.proofs.step.moved.Goals as goal

pub returns : goal.returns
returns c =
    moved_is _ _ _ _ _ _ _ _ c.multiplied.ensures c.added-z.ensures c.chosen.ensures c.chosen-2.ensures
