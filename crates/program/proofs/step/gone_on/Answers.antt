-- `program::step::gone_on` meets its contract.
use Rattle.program.proofs.step.gone_on.Goals as goal

pub returns-then-written : goal.returns-then-written
returns-then-written c = rw c.if-written.true

pub returns : goal.returns
returns c = rw c.if-written.false
