-- `regress` meets its contract: after t rows of l lanes the first 16 t + l symbols are laid.
use mathlib.Core.Path.{◌≡◌}
use Prim.Native.Nat.{◌+◌, ◌*◌}
use Rattle.least_squares.specs.Lanes.{in_lanes}
use Rattle.lane_sums.specs.LaneLaws.{pairs_to, pairs_from}
use Rattle.drift_tracker.specs.Drift.{parent_of, symbols_of}
use Rattle.drift_tracker.proofs.regressor.regress.Given as goal

abbrev pub invariant-loop-l : goal.invariant-loop-l
invariant-loop-l l = l.u ≡ pairs_from 64 (in_lanes (λ n. symbols_of (16 * l.g + n) (parent_of l.parents (16 * l.g + n)))) (16 * l.t) l.l l.initial.u

abbrev pub invariant-loop-t : goal.invariant-loop-t
invariant-loop-t l = l.u ≡ pairs_to 64 (in_lanes (λ n. symbols_of (16 * l.g + n) (parent_of l.parents (16 * l.g + n)))) (16 * l.t) l.initial.u
