-- `enable` meets its contract: a state that is admitted and not enabled gets a fresh second tracker, every other stays as it is.
use Rattle.receiver.specs.Ways.{enable_again, enable_started, enable_refused}
use Rattle.receiver.proofs.enable.enable.Goals as goal

pub returns-then-not-is_admitted : goal.returns-then-not-is_admitted
returns-then-not-is_admitted c = enable_refused _ _ c.is_admitted.ensures c.if-not-is_admitted.true

pub returns-then-not-r : goal.returns-then-not-r
returns-then-not-r c = enable_started _ _ c.is_admitted.ensures _ _ c.if-not-is_admitted.false c.if-not-r.true c.fresh-r.ensures c.fresh_memory-r.ensures

pub returns-else-not-r : goal.returns-else-not-r
returns-else-not-r c = enable_again _ _ c.is_admitted.ensures c.if-not-is_admitted.false c.if-not-r.false
