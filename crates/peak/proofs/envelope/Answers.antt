-- `peak::envelope` meets its contract: it is what the four calls answer, in the definition's formula.
use Rattle.peak.specs.Peak.{envelope_of}
use Rattle.peak.proofs.envelope.Goals as goal

pub returns : goal.returns
unfolding envelope_of
returns c = cc
