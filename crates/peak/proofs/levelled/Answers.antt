-- `peak::levelled` meets its contract: it is what the five calls answer, in the definition's record.
use Rattle.peak.proofs.Laws.{levelled_is}
use Rattle.peak.proofs.levelled.Goals as goal

pub returns : goal.returns
returns c =
    let is_followed = c.followed-next.ensures in
    levelled_is _ _ _ _ _ _ _ _ _ is_followed c.floor-least.ensures c.gain.ensures c.scaled.ensures c.is_reliable.ensures
