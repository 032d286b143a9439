-- `settling::quad::settle_quad` meets its contract.
use Rattle.settling.specs.Sweeps.{swept_start}
use Rattle.settling.specs.Quads.{row_turn, row_end, quad_end}
use borrow.Author.Rules.{rules}
use Rattle.settling.proofs.quad.settle_quad.Goals as goal

pub loop-i-init : goal.loop-i-init
loop-i-init c = swept_start _ _ _ (search rules)

pub loop-j-init : goal.loop-j-init
loop-j-init c = λ l h. h

pub loop-j-preserved : goal.loop-j-preserved
loop-j-preserved c =
    λ l h. row_turn _ _ _ _ _ _ _ c.settle_pair.ensures (c.loop-j.invariant l h)

pub loop-i-preserved : goal.loop-i-preserved
loop-i-preserved c =
    let row = c.loop-j.invariant in
    let rows = c.loop-i.invariant in
    row_end _ _ _ _ _ _ (row _ (row_turn _ _ _ _ _ _ _ c.settle_diagonal.ensures rows)) (search rules) (search rules) (search rules)

pub returns : goal.returns
returns c = quad_end _ _ _ _ _ c.loop-i.invariant (search rules) (search rules)
