-- `gathered` meets its contract: the sample is quantised and absorbed.
use Rattle.decimator.proofs.gathered.Goals as goal

pub returns : goal.returns
returns c = rw (c.absorbed.ensures, c.counted.ensures)
