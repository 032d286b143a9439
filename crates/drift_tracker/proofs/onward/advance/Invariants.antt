-- `advance` meets its contract: after k turns the first k taps have gone on.
use mathlib.Core.Path.{◌≡◌}
use Prim.Native.Nat.{◌+◌}
use Rattle.drift_tracker.specs.Laws.{onward}
use Rattle.drift_tracker.proofs.onward.advance.Given as goal

abbrev pub invariant-loop-k : goal.invariant-loop-k
invariant-loop-k l = (l.real ≡ onward l.drift (λ n. n) l.k l.initial.real) × (l.imaginary ≡ onward l.drift (λ n. n + 256) l.k l.initial.imaginary)
