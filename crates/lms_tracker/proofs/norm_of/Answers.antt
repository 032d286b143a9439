-- `follow::norm_of` meets its contract: the sum of the four powers from 0 on, main tap first.
use Rattle.lms_tracker.specs.Tracker.{norm_of}
use Rattle.lms_tracker.proofs.norm_of.Goals as goal

pub returns : goal.returns
unfolding norm_of
returns c = rw (c.power-4.ensures, c.power-3.ensures, c.power-2.ensures, c.power.ensures)
