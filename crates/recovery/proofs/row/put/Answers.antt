-- `recovery::row::put` meets its contract: the two ways, by whether there is a symbol, are the definition's.
use Rattle.recovery.specs.Laws.{put_none, put_here}
use Rattle.recovery.proofs.row.put.Goals as goal

pub returns-in_default : goal.returns-in_default
returns-in_default c = put_none _ _ c.in_default.is

pub returns : goal.returns
returns c = put_here _ _ _ c.in-Some.is
