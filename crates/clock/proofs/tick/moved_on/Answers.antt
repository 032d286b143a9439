-- `clock::tick::moved_on` meets its contract: dropping at once what lies before position 12 is the definition's loop.
use Rattle.clock.proofs.Laws.{dropped_is}
use Rattle.std.proofs.Common.{arith, rules}
use Rattle.clock.proofs.tick.moved_on.Goals as goal

pub returns : goal.returns
returns c = dropped_is _ _ _ _ _ _ (search rules) (omega (arith, c.saturating_sub-dropped.ensures, c.requires))
