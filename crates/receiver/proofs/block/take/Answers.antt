-- `take` meets its contract: it is the call for either stream, with no room for the second.
use mathlib.Core.Path.{refl}
use borrow.Author.Rules.{rules}
use Rattle.receiver.proofs.BlockLaws.{none_lent}
use Rattle.receiver.proofs.block.take.Goals as goal

pub take_any-requires : goal.take_any-requires
take_any-requires c = record { no_dibits = λ e. refl; no_reliabilities = λ e. refl }

pub returns-clause-same : goal.returns-clause-same
returns-clause-same c =
    none_lent c.take_any.result _ _ _ c.take_any.new.others c.take_any.new.other_reliabilities _ (search rules) (search rules) c.take_any.ensures.same
