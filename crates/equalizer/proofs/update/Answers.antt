-- `equalizer::update` meets its contract: the two ways, by whether the equalizer learns from this symbol, are the definition's.
use Rattle.equalizer.specs.Laws.{updated_found, updated_kept}
use Rattle.equalizer.proofs.update.Goals as goal

pub returns-then-learns : goal.returns-then-learns
returns-then-learns c =
    let is_power = c.power-power.ensures in
    let is_learning = c.learns.ensures in
    let learning = c.if-learns.true in
    let is_step = c.step_of.ensures in
    updated_found _ _ _ _ _ _ is_power is_learning _ _ _ learning is_step c.adapt.ensures c.limit.ensures

pub returns-else-learns : goal.returns-else-learns
returns-else-learns c = updated_kept _ _ _ _ _ _ c.power-power.ensures c.learns.ensures c.if-learns.false
