-- `told` meets its contract: both counts, and the label by the profile.
use mir.Facts.{to_z-of_z}
use mir.Val.{SFits}
use mir.Syntax.{w32}
use Rattle.delivery.specs.Laws.{told_is}
use borrow.Author.Rules.{rules}
use Rattle.delivery.proofs.step.told.Goals as goal

pub returns : goal.returns
returns c =
    let args = c.args in
    let counted_is = c.counted.ensures in
    let counted2_is = c.counted-2.ensures in
    let h : SFits w32 args.p.profile = search rules in told_is _ _ _ _ _ _ _ _ (to_z-of_z h) counted_is counted2_is c.is_rearranged.ensures c.labelled.ensures
