-- `learn_all` meets its contract: after g turns the first g groups have learnt.
use Rattle.drift_tracker.specs.Laws.{fours_start, fours_end, inverses_start, inverses_end, taps_turn, drift_turn, inverse_turn}
use borrow.Author.Rules.{rules}
use Rattle.drift_tracker.proofs.follow.learn_all.Goals as goal

pub loop-g-init : goal.loop-g-init
loop-g-init c = (fours_start _ _ (search rules), fours_start _ _ (search rules), inverses_start _ _ (search rules))

pub loop-g-preserved : goal.loop-g-preserved
loop-g-preserved c =
    let laid = c.loop-g.invariant in
    let w = c.take_foretold.ensures in
    let learnt = c.learn.ensures in (
      taps_turn _ _ _ _ _ (search rules) _ _ _ _ _ w laid.0 laid.1 _ learnt.0,
      drift_turn _ _ _ _ _ (search rules) _ _ _ _ _ w laid.0 laid.1 _ learnt.1,
      inverse_turn _ _ _ _ _ (search rules) _ _ _ _ _ w laid.0 laid.1 _ _ _ learnt.2 laid.2,
    )

pub returns : goal.returns
returns c =
    let laid = c.loop-g.invariant in
    (fours_end _ _ _ _ laid.0 (search rules), fours_end _ _ _ _ laid.1 (search rules), inverses_end _ _ _ _ laid.2 (search rules))
