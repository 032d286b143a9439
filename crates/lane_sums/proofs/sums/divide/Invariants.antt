-- `divide` meets its contract: after i rows of l lanes the first 16 i + l quotients are laid.
use mathlib.Core.Path.{◌≡◌}
use Prim.Native.Nat.{◌*◌}
use Rattle.least_squares.specs.Lanes.{in_lanes, row_in, real_in}
use Rattle.least_squares.specs.LeastSquares.{gain_of}
use Rattle.lane_sums.specs.LaneLaws.{pairs_to, pairs_from}
use Rattle.lane_sums.proofs.sums.divide.Given as goal

abbrev pub invariant-loop-l : goal.invariant-loop-l
invariant-loop-l l = l.gain ≡ pairs_from 128 (in_lanes (λ n. gain_of (row_in l.v n) (real_in l.d n))) (16 * l.i) l.l l.initial.gain

abbrev pub invariant-loop-i : goal.invariant-loop-i
invariant-loop-i l = l.gain ≡ pairs_to 128 (in_lanes (λ n. gain_of (row_in l.v n) (real_in l.d n))) (16 * l.i) l.initial.gain
