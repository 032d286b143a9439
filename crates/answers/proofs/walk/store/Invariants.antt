-- `store` meets its contract: 64 turns lay the row in its place.
use mathlib.Core.Path.{◌≡◌}
use lib.ListN.{get_or}
use Rattle.laws.specs.Places.{laid}
use Rattle.answers.proofs.walk.store.Given as goal

abbrev pub invariant-loop-s : goal.invariant-loop-s
invariant-loop-s l = l.parents ≡ laid (λ k. get_or l.row k 0) l.from l.s l.initial.parents
