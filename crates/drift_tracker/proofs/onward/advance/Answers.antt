-- `advance` meets its contract: after k turns the first k taps have gone on.
use Prim.Native.Nat.{◌+◌}
use Rattle.drift_tracker.specs.Laws.{onward_start, onward_step, advanced_is}
use borrow.Author.Rules.{rules}
use Rattle.drift_tracker.proofs.onward.advance.Goals as goal

pub loop-k-init : goal.loop-k-init
loop-k-init c = (onward_start _ _ _, onward_start _ _ _)

pub loop-k-preserved : goal.loop-k-preserved
loop-k-preserved c =
    let on = c.loop-k.invariant in
    (onward_step _ (λ k. k) _ _ _ on.0, onward_step _ (λ k. k + 256) _ _ _ on.1)

pub returns : goal.returns
returns c =
    let on = c.loop-k.invariant in
    advanced_is _ _ _ _ _ _ on.0 on.1 (search rules) (search rules) (search rules) (search rules)
