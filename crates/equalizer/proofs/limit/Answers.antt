-- `equalizer::limit` meets its contract: the two ways, by whether the norm is above 16, are the definition's.
use Rattle.equalizer.specs.Laws.{limited_found, limited_kept}
use Rattle.equalizer.proofs.limit.Goals as goal

pub returns-then-size : goal.returns-then-size
returns-then-size c =
    let is_norm = c.norm-size.ensures in
    let above = c.if-size.true in
    limited_found _ _ is_norm _ _ above c.sqrt.ensures c.scale.ensures

pub returns-else-size : goal.returns-else-size
returns-else-size c = limited_kept _ _ c.norm-size.ensures c.if-size.false
