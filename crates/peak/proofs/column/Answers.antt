-- `peak::column` meets its contract: it is four calls of `top`, from 0 up.
use Rattle.peak.specs.Columns.{column_of}
use Rattle.peak.proofs.column.Goals as goal

pub returns : goal.returns
unfolding column_of
returns c = cc
