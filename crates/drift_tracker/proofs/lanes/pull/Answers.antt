-- `pull` meets its contract: after t rows of l lanes the first 16 t + l numbers are moved.
use Rattle.drift_tracker.specs.Laws.{put_start, put_none, pull_step, put_row, put_end}
use borrow.Author.Rules.{rules}
use Rattle.drift_tracker.proofs.lanes.pull.Goals as goal

pub loop-t-init : goal.loop-t-init
loop-t-init c = put_start _ _ _ (search rules)

pub loop-l-init : goal.loop-l-init
loop-l-init c = λ given e. put_none _ _ _ _ _ e

pub loop-l-preserved : goal.loop-l-preserved
loop-l-preserved c =
    let asked = c.requires in
    λ given e. pull_step given _ _ _ _ _ _ _ (search rules) asked.from_of_row asked.g_of_four (search rules) _ _ _ _ _ _
    c.number-tap.ensures c.number.ensures c.number-in-loop-l.ensures c.is_usable.ensures c.moved-z.ensures (c.loop-l.invariant given e)

pub loop-t-preserved : goal.loop-t-preserved
loop-t-preserved c =
    let row = c.loop-l.invariant in
    let rows = c.loop-t.invariant in
    put_row _ _ _ _ _ _ (row _ rows) (search rules)

pub returns : goal.returns
returns c = put_end _ _ _ _ _ c.loop-t.invariant (search rules)
