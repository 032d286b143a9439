-- `recovery::row::row` meets its contract: the invariant is the stage and its row after i values, and the sizes that go with it.
use native.Mathlib.Omega.{arith}
use Rattle.recovery.specs.Laws.{row_start, row_step, row_asks, row_end}
use borrow.Author.Rules.{rules}
use Rattle.recovery.proofs.row.row.Goals as goal

pub loop-i-init : goal.loop-i-init
loop-i-init c = (c.requires.sizes_value, row_start _ _ _ _ _)

pub link-t-requires : goal.link-t-requires
link-t-requires c =
    let asked = c.requires in
    let so_far = c.loop-i.invariant in
    let more = c.loop-i-test in
    record { given_row = row_asks _ _ _ _ _ _ _ _ asked.given_row so_far.1 (omega (arith, more)); sizes_value = so_far.0 }

pub loop-i-preserved : goal.loop-i-preserved
loop-i-preserved c =
    let so_far = c.loop-i.invariant in
    (c.link-t.ensures.1, row_step _ _ _ _ _ _ _ _ c.link-t.ensures.0 so_far.1)

pub returns : goal.returns
returns c = row_end _ _ _ _ _ _ _ _ c.requires.given_row c.loop-i.invariant.1 (search rules) (search rules)
