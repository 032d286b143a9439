-- `follow::follow` meets its contract: where the input is reliable the taps that `learn` lays out, limited, and else those that `inherit` lays out.
use Rattle.lms_tracker.specs.Laws.{followed_yes, followed_no}
use Rattle.lms_tracker.proofs.follow.Goals as goal

pub returns-then-reliable : goal.returns-then-reliable
returns-then-reliable c =
    let reliable = c.if-reliable.true in
    let learnt = c.learn.ensures in
    followed_yes _ _ _ _ _ _ _ _ _ _ reliable learnt.0 learnt.1 learnt.2 c.limit.ensures.real_after c.limit.ensures.imaginary_after

pub returns-else-reliable : goal.returns-else-reliable
returns-else-reliable c =
    let unreliable = c.if-reliable.false in
    followed_no _ _ _ _ _ _ _ unreliable c.inherit.ensures.0 c.inherit.ensures.1
