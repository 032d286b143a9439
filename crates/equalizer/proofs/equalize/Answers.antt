-- `equalizer::equalize` meets its contract: the sums, the weights after them and the timing error make up the definition's step.
use Rattle.equalizer.specs.Laws.{step_made}
use Rattle.equalizer.proofs.equalize.Goals as goal

pub returns : goal.returns
returns c =
    let is_sums = c.tap_sums-s.ensures in
    step_made _ _ _ _ _ _ _ is_sums c.update.ensures c.timing_error.ensures
