-- `settling::group::renew` meets its contract.
use Rattle.settling.specs.Sweeps.{swept_start, swept_fits}
use Rattle.settling.specs.Groups.{renew_step, renew_end}
use borrow.Author.Rules.{rules}
use Rattle.settling.proofs.group.renew.Goals as goal

pub loop-e-init : goal.loop-e-init
loop-e-init c = swept_start _ _ _ (search rules)

pub loop-e-preserved : goal.loop-e-preserved
loop-e-preserved c =
    let asks = c.requires in
    renew_step _ _ _ _ asks.base_of_lane asks.base_of_half (search rules) (swept_fits _ _ _ _ _ c.loop-e.invariant) c.prior_of.ensures _ c.loop-e.invariant

pub returns : goal.returns
returns c = renew_end _ _ _ _ _ c.loop-e.invariant (search rules) (search rules)
