-- `settling::group::mend` meets its contract.
use Rattle.settling.specs.Groups.{mend_keeps, mend_renews}
use Rattle.settling.proofs.group.mend.Goals as goal

pub returns-then-is_usable-is_bounded : goal.returns-then-is_usable-is_bounded
returns-then-is_usable-is_bounded c = mend_keeps _ _ _ _ _ _ c.is_usable.ensures c.trace.ensures c.is_bounded.ensures c.if-is_usable-is_bounded.true

pub returns-else-is_usable-is_bounded : goal.returns-else-is_usable-is_bounded
returns-else-is_usable-is_bounded c = mend_renews _ _ _ _ _ _ c.is_usable.ensures c.trace.ensures c.is_bounded.ensures _ c.if-is_usable-is_bounded.false c.renew.ensures
