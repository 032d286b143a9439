-- `agreed` meets its contract: the byte where the sign is the decided bit, and 0.
use Rattle.answers.proofs.soft.agreed.Goals as goal

pub returns-then-negative-decided : goal.returns-then-negative-decided
returns-then-negative-decided c = rw c.if-negative-decided.true c.byte.ensures

pub returns-else-negative-decided : goal.returns-else-negative-decided
returns-else-negative-decided c = rw c.if-negative-decided.false
