-- `peak::gain` meets its contract: it is what the two calls of `max` answer, in the definition's formula.
use Rattle.peak.specs.Peak.{gain_of}
use Rattle.peak.proofs.gain.Goals as goal

pub returns : goal.returns
unfolding gain_of
returns c = cc
