-- `denominators` meets its contract: after l turns the first l lanes are done.
use mathlib.Core.Path.{◌≡◌}
use Rattle.laws.specs.Places.{fill}
use Rattle.least_squares.specs.Lanes.{row_in, four_in}
use Rattle.least_squares.specs.LeastSquares.{denominator_of}
use Rattle.lane_sums.proofs.sums.denominators.Given as goal

abbrev pub invariant-loop-l : goal.invariant-loop-l
invariant-loop-l l = l.d ≡ fill (λ n. denominator_of (four_in l.u n) (row_in l.v n)) l.l l.initial.d
