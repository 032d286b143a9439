-- `split` meets its contract: after k turns the first k points are apart.
use mathlib.Core.Path.{◌≡◌}
use Prim.Native.Nat.{◌+◌}
use lib.ListN.{get_or}
use lib.Ieee.{nan}
use Rattle.laws.specs.Places.{fill}
use Rattle.drift_tracker.proofs.lanes.split.Given as goal

abbrev pub invariant-loop-k : goal.invariant-loop-k
invariant-loop-k l = (l.real ≡ fill (λ n. get_or l.all n nan) l.k l.initial.real) × (l.imaginary ≡ fill (λ n. get_or l.all (n + 256) nan) l.k l.initial.imaginary)
