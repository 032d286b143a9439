-- `fresh_memory` meets its contract: the five parts put into zeros.
use Rattle.second.specs.FreshLaws.{fresh_put}
use Rattle.second.proofs.fresh_memory.Goals as goal

pub returns : goal.returns
returns c = fresh_put _ _ _ c.fresh_channels-real.ensures c.inverses-inverse.ensures c.put_in.ensures
