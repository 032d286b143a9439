-- `learn` meets its contract: each room from those before it, and what the lanes learn in its place.
use Rattle.drift_tracker.specs.Laws.{taps_learnt, drift_learnt, inverse_learnt}
use Rattle.drift_tracker.proofs.follow.learn.Goals as goal

pub returns : goal.returns
returns c =
    let symbols = c.regress.ensures in
    let missed = c.miss.ensures in
    let weights = c.weigh.ensures in (
      taps_learnt _ _ _ _ _ _ _ _ _ _ _ _ symbols missed weights.gain_after weights.row_after weights.d_after _ c.pull.ensures,
      drift_learnt _ _ _ _ _ _ _ _ _ _ _ _ symbols missed weights.gain_after weights.row_after weights.d_after _ c.pull-2.ensures,
      inverse_learnt _ _ _ _ _ _ _ _ _ _ _ _ symbols missed weights.gain_after weights.row_after weights.d_after _ _ c.settle_group.ensures,
    )
