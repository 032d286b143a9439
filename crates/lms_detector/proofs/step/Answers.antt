-- `step` meets its contract: the skeleton's step reads the channels, and then they follow by its row and its predictions.
use Rattle.lms_detector.specs.Laws.{step_meets}
use Rattle.lms_detector.proofs.step.Goals as goal

pub returns : goal.returns
returns c =
    let stepped = c.step-detected.ensures in
    let given = c.requires in
    step_meets _ _ _ _ _ _ _ _ _ stepped.0 c.follow.ensures given
