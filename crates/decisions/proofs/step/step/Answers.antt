-- `step` meets its contract: the carrier's step, and its observation pushed into the view.
use Rattle.decisions.specs.Laws.{decided_is}
use Rattle.decisions.proofs.step.step.Goals as goal

pub step-c-requires : goal.step-c-requires
step-c-requires c =
    let given = c.requires in
    given.carrier

pub push-view-requires : goal.push-view-requires
push-view-requires c =
    let given = c.requires in
    given.view.head

pub returns : goal.returns
returns c =
    let step_is = c.step-c.ensures in
    decided_is _ _ _ _ _ _ step_is.0 c.push-view.ensures
