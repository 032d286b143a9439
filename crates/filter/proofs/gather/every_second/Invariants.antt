-- `filter::gather::every_second` meets its contract: the invariant is the first j samples filled.
use mathlib.Core.Path.{◌≡◌}
use Rattle.laws.specs.Places.{fill}
use Rattle.filter.specs.Fast.{second_at}
use Rattle.filter.proofs.gather.every_second.Given as goal

abbrev pub invariant-loop-j : goal.invariant-loop-j
invariant-loop-j l = l.out ≡ fill (second_at l.ring l.from) l.j l.initial.out
