-- `several` meets its contract: a run that ends before the d-th sample waits, and one that ends at it gives the value of the combs.
use Rattle.front.specs.Runs.{waits_is, whole_is}
use Rattle.front.proofs.several.Goals as goal

pub returns-then-run-needed : goal.returns-then-run-needed
returns-then-run-needed c =
    let least = c.min-run in
    let gather = c.gather-g in
    waits_is _ _ _ _ c.requires.admitted c.requires.lt_decimation _ _ _ least.ensures gather.ensures c.if-run-needed.true

pub returns : goal.returns
returns c =
    let least = c.min-run in
    let gather = c.gather-g in
    whole_is _ _ _ _ c.requires.admitted c.requires.lt_decimation _ _ _ least.ensures gather.ensures _ c.if-run-needed.false c.decimate-e.ensures
