-- `gather_four` meets its contract: after x turns the first x numbers of each quarter are laid.
use mathlib.Core.Path.{◌≡◌}
use Rattle.inheriting.specs.Inheriting.{foretold_put}
use Rattle.inheriting.proofs.foretold.gather_four.Given as goal

abbrev pub invariant-loop-x : goal.invariant-loop-x
invariant-loop-x l = l.room ≡ foretold_put l.old l.a l.b l.c l.d l.to l.x l.initial.room
