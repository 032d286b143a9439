-- `ready` meets its contract: the taps go on by their drift where the input is reliable.
use Rattle.drift_detector.specs.Laws.{ready_yes, ready_no}
use Rattle.drift_detector.proofs.ready.Goals as goal

pub returns-then-reliable : goal.returns-then-reliable
returns-then-reliable c = ready_yes _ _ _ _ c.if-reliable.true c.advance.ensures

pub returns-else-reliable : goal.returns-else-reliable
returns-else-reliable c = ready_no _ _ _ c.if-reliable.false
