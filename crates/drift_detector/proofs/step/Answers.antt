-- `step` meets its contract: the taps go on, the skeleton's step reads the channels, and then the memory follows by its row and its predictions.
use Rattle.drift_detector.specs.Laws.{step_meets}
use borrow.Author.Rules.{rules}
use Rattle.drift_detector.proofs.step.Goals as goal

pub ready-requires : goal.ready-requires
ready-requires c =
    let sizes = c.requires.memory in
    (sizes.real_size, sizes.imaginary_size)

pub step-detected-requires : goal.step-detected-requires
step-detected-requires c = record { ranged = c.requires.skeleton; roomy = search rules }

pub follow-requires : goal.follow-requires
follow-requires c = c.step-detected.ensures.1.1

pub returns : goal.returns
returns c = step_meets _ _ _ _ _ _ _ _ _ _ c.ready.ensures c.step-detected.ensures.0 c.follow.ensures c.requires.skeleton
