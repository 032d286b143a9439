-- `step` meets its contract: the corrected sample through the detector, and the loop that follows.
use Rattle.drift_carrier.specs.Laws.{step_meets}
use Rattle.drift_carrier.proofs.step.Goals as goal

pub step-d-requires : goal.step-d-requires
step-d-requires c =
    let given = c.requires in
    given.detector

pub carry-requires : goal.carry-requires
carry-requires c =
    let given = c.requires in
    given.alternation

pub returns : goal.returns
returns c =
    let corrected_is = c.corrected-input.ensures in
    let given = c.requires in
    step_meets _ _ _ _ _ _ _ _ _ _ corrected_is c.step-d.ensures.0 c.carry.ensures given.detector.skeleton
