-- `all_inside` meets its contract: each turn looks at one part.
use mathlib.Core.Path.{◌≡◌}
use mathlib.Core.Bool.{true}
use Rattle.laws.specs.Turns.{turns}
use Rattle.samples.specs.Inside.{inside_turn}
use Rattle.samples.proofs.all_inside.Given as goal

abbrev pub invariant-loop-part : goal.invariant-loop-part
invariant-loop-part l = l.ok ≡ turns (inside_turn l.samples) l.part-index true
