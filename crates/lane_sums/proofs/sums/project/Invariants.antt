-- `project` meets its contract: after i rows of l lanes the first 16 i + l sums are laid.
use mathlib.Core.Path.{◌≡◌}
use Prim.Native.Nat.{◌*◌}
use Rattle.least_squares.specs.Lanes.{in_lanes, inverse_in, four_in}
use Rattle.least_squares.specs.LeastSquares.{projected_of}
use Rattle.lane_sums.specs.LaneLaws.{pairs_to, pairs_from}
use Rattle.lane_sums.proofs.sums.project.Given as goal

abbrev pub invariant-loop-l : goal.invariant-loop-l
invariant-loop-l l = l.v ≡ pairs_from 128 (in_lanes (λ n. projected_of (inverse_in l.w n) (four_in l.u n))) (16 * l.i) l.l l.initial.v

abbrev pub invariant-loop-i : goal.invariant-loop-i
invariant-loop-i l = l.v ≡ pairs_to 128 (in_lanes (λ n. projected_of (inverse_in l.w n) (four_in l.u n))) (16 * l.i) l.initial.v
