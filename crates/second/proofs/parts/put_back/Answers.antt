-- `put_back` meets its contract: the inverses from the array that holds them.
use Rattle.second.specs.Laws.{put_even, put_odd}
use Rattle.second.proofs.parts.put_back.Goals as goal

pub returns-then-count-eq0 : goal.returns-then-count-eq0
returns-then-count-eq0 c = put_even _ _ _ _ _ _ c.if-count-eq0.true c.put_in.ensures

pub returns-else-count-eq0 : goal.returns-else-count-eq0
returns-else-count-eq0 c = put_odd _ _ _ _ _ _ c.if-count-eq0.false c.put_in-else-count-eq0.ensures
