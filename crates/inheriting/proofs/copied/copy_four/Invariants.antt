-- `copy_four` meets its contract: after e turns the first e numbers of the four inverses are laid.
use mathlib.Core.Path.{◌≡◌}
use Rattle.inheriting.specs.Inheriting.{fours_put}
use Rattle.inheriting.proofs.copied.copy_four.Given as goal

abbrev pub invariant-loop-e : goal.invariant-loop-e
invariant-loop-e l = l.next ≡ fours_put l.old l.a l.b l.c l.d l.to l.e l.initial.next
