-- `draw` meets its contract: each of the two ways draws the run of the definition, and a run keeps the ranges.
use Rattle.front.specs.Runs.{drew_is}
use Rattle.front.proofs.draw.Goals as goal

pub returns-then-p-gt1 : goal.returns-then-p-gt1
returns-then-p-gt1 c =
    record { same = c.several.ensures; kept = drew_is _ _ _ _ c.requires.admitted _ _ c.several.ensures }

pub returns-else-p-gt1 : goal.returns-else-p-gt1
returns-else-p-gt1 c =
    record { same = c.single.ensures; kept = drew_is _ _ _ _ c.requires.admitted _ _ c.single.ensures }
