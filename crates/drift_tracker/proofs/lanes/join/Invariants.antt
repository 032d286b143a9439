-- `join` meets its contract: after k turns the first k points are laid.
use mathlib.Core.Path.{◌≡◌}
use Rattle.complex.specs.Planes.{point_at}
use Rattle.lane_sums.specs.LaneLaws.{pairs_to}
use Rattle.drift_tracker.proofs.lanes.join.Given as goal

abbrev pub invariant-loop-k : goal.invariant-loop-k
invariant-loop-k l = l.all ≡ pairs_to 256 (point_at (record { real = l.real; imaginary = l.imaginary })) l.k l.initial.all
