-- `peak::quarter` meets its contract: it is four calls of `top`, from 0 up.
use Rattle.peak.specs.Columns.{quarter_of}
use Rattle.peak.proofs.quarter.Goals as goal

pub returns : goal.returns
unfolding quarter_of
returns c = cc
