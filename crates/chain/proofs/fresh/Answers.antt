-- `chain::fresh` meets its contract.
use Rattle.chain.specs.Laws.{fresh_is}
use mir.Facts.{to_z-of_z}
use mir.Val.{SFits}
use mir.Syntax.{w32}
use borrow.Author.Rules.{rules}
use Rattle.chain.proofs.fresh.Goals as goal

pub returns : goal.returns
returns c =
    let h : SFits w32 c.args.profile = search rules in
    fresh_is _ _ _ _ _ _ (to_z-of_z h) c.fresh.ensures c.fresh-2.ensures c.fresh-3.ensures c.fresh-4.ensures
