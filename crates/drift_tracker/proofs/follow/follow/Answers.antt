-- `follow` meets its contract: where the input is reliable every state learns, and else it is its parent.
use mathlib.Core.Path.{refl}
use Rattle.drift_tracker.specs.Laws.{followed_yes, followed_no}
use Rattle.drift_tracker.proofs.follow.follow.Goals as goal

pub returns-then-reliable : goal.returns-then-reliable
returns-then-reliable c =
    let learnt = c.before.before.before.before in
    followed_yes _ _ _ _ _ _ _ c.requires c.join.ensures c.inherit.ensures c.inherit-2.ensures _ _ _ _ _ _ _
    c.if-reliable.true c.learn_all.ensures.0 c.split.ensures c.learn_all.ensures.1 c.learn_all.ensures.2

pub returns-else-reliable : goal.returns-else-reliable
returns-else-reliable c =
    let kept = c.before.before.before.before in
    followed_no _ _ _ _ _ _ _ c.requires c.join.ensures c.inherit.ensures c.inherit-2.ensures _ _ _ _ _ _ _
    c.if-reliable.false c.split-else-reliable.ensures c.inherit_all.ensures refl refl
