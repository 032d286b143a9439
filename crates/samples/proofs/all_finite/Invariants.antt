-- `all_finite` meets its contract: each turn looks at both parts of a sample.
use mathlib.Core.Path.{◌≡◌}
use mathlib.Core.Bool.{true}
use Rattle.laws.specs.Turns.{turns}
use Rattle.samples.specs.Samples.{finite_turn}
use Rattle.samples.proofs.all_finite.Given as goal

abbrev pub invariant-loop-i : goal.invariant-loop-i
invariant-loop-i l = l.ok ≡ turns (finite_turn l.samples) l.i true
