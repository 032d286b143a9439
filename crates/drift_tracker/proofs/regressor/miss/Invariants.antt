-- `miss` meets its contract: after l turns the first l errors are laid.
use mathlib.Core.Path.{◌≡◌}
use Prim.Native.Nat.{◌+◌, ◌*◌}
use Rattle.complex.specs.Complex.{difference_of}
use Rattle.complex.specs.Planes.{point_at}
use Rattle.lane_sums.specs.LaneLaws.{pairs_to}
use Rattle.drift_tracker.proofs.regressor.miss.Given as goal

abbrev pub invariant-loop-l : goal.invariant-loop-l
invariant-loop-l l = l.error ≡ pairs_to 16 (λ n. difference_of l.input (point_at (record { real = l.prediction_real; imaginary = l.prediction_imaginary }) (16 * l.g + n))) l.l l.initial.error
