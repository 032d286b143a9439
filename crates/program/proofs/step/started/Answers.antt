-- `program::step::started` meets its contract.
use Rattle.program.proofs.step.started.Goals as goal

pub returns : goal.returns
returns c = rw c.zero.ensures
