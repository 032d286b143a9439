-- `inherit` meets its contract: after k turns the first k numbers are the parents'.
use mathlib.Core.Path.{◌≡◌}
use Prim.Native.Nat.{◌/◌, ◌%◌}
use Rattle.least_squares.specs.LeastSquares.{number_of}
use Rattle.lane_sums.specs.LaneLaws.{pairs_to}
use Rattle.drift_tracker.specs.Drift.{drift_at, parent_of}
use Rattle.drift_tracker.proofs.lanes.inherit.Given as goal

abbrev pub invariant-loop-k : goal.invariant-loop-k
invariant-loop-k l = l.new ≡ pairs_to 256 (λ n. number_of (drift_at l.all (parent_of l.parents (n % 64))) (n / 64)) l.k l.initial.new
