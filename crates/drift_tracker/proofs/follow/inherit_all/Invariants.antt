-- `inherit_all` meets its contract: after g turns the first g groups have their parents' inverses.
use mathlib.Core.Path.{◌≡◌}
use Rattle.least_squares.specs.Lanes.{inverse_of}
use Rattle.drift_tracker.specs.Drift.{parent_of}
use Rattle.drift_tracker.specs.Laws.{inverses_to}
use Rattle.drift_tracker.proofs.follow.inherit_all.Given as goal

abbrev pub invariant-loop-g : goal.invariant-loop-g
invariant-loop-g l = l.next ≡ inverses_to (λ s. inverse_of l.inverse (parent_of l.parents s)) l.g l.initial.next
