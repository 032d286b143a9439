-- `largest` meets its contract: 2,048 turns of the larger of two.
use mathlib.Core.Path.{◌≡◌}
use Rattle.laws.specs.Turns.{turns}
use Rattle.sequence.specs.Admitted.{largest_turn}
use Rattle.sequence.proofs.admitted.largest.Given as goal

abbrev pub invariant-loop-parent : goal.invariant-loop-parent
invariant-loop-parent l = l.found ≡ turns (largest_turn l.parents) l.parent-index 0
