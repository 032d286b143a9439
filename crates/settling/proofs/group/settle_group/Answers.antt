-- `settling::group::settle_group` meets its contract.
use Rattle.settling.specs.Sweeps.{swept_start, swept_fits}
use Rattle.settling.specs.Groups.{quad_step, mend_step, group_end}
use borrow.Author.Rules.{rules}
use Rattle.settling.proofs.group.settle_group.Goals as goal

pub loop-m-init : goal.loop-m-init
loop-m-init c = swept_start _ _ _ (search rules)

pub loop-m-preserved : goal.loop-m-preserved
loop-m-preserved c = quad_step _ _ _ _ _ _ c.settle_quad.ensures c.loop-m.invariant (search rules)

pub loop-l-init : goal.loop-l-init
loop-l-init c = swept_start _ _ _ (swept_fits _ _ _ _ _ c.loop-m.invariant)

pub loop-l-preserved : goal.loop-l-preserved
loop-l-preserved c =
    mend_step _ _ _ _ _ _ _ _ _ _ c.loop-m.invariant c.loop-l.invariant (search rules) (search rules) _ c.mend.ensures c.requires (search rules)

pub returns : goal.returns
returns c = group_end _ _ _ _ _ _ _ _ _ _ c.loop-m.invariant c.loop-l.invariant (search rules) (search rules) (search rules) (search rules)
