-- `cross` meets its contract: after j rows of l lanes the first 16 j + l sums are laid.
use mathlib.Core.Path.{◌≡◌}
use Prim.Native.Nat.{◌*◌}
use Rattle.least_squares.specs.Lanes.{in_lanes, inverse_in, four_in}
use Rattle.least_squares.specs.LeastSquares.{crossed_of}
use Rattle.lane_sums.specs.LaneLaws.{pairs_to, pairs_from}
use Rattle.lane_sums.proofs.sums.cross.Given as goal

abbrev pub invariant-loop-l : goal.invariant-loop-l
invariant-loop-l l = l.row ≡ pairs_from 128 (in_lanes (λ n. crossed_of (inverse_in l.w n) (four_in l.u n))) (16 * l.j) l.l l.initial.row

abbrev pub invariant-loop-j : goal.invariant-loop-j
invariant-loop-j l = l.row ≡ pairs_to 128 (in_lanes (λ n. crossed_of (inverse_in l.w n) (four_in l.u n))) (16 * l.j) l.initial.row
