-- `peak::followed` meets its contract: it is what `max` answers.
use Rattle.peak.specs.Peak.{followed_of}
use Rattle.peak.proofs.followed.Goals as goal

pub returns : goal.returns
unfolding followed_of
returns c = cc
