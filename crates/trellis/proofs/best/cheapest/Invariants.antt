-- `best::cheapest` meets its contract: the first cheapest of each quarter of the states, and of these four the first cheapest, is the first cheapest of all.
use mathlib.Core.Path.{◌≡◌}
use Rattle.trellis.specs.Best.{scan}
use Rattle.trellis.proofs.best.cheapest.Given as goal

abbrev pub invariant-loop-k : goal.invariant-loop-k
invariant-loop-k l = (l.a ≡ scan l.costs 0 l.k) × (l.b ≡ scan l.costs 16 l.k) × (l.c ≡ scan l.costs 32 l.k) × (l.d ≡ scan l.costs 48 l.k)
