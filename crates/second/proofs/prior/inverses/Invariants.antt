-- `inverses` meets its contract: 8,192 turns, each storing the number of its place.
use mathlib.Core.Path.{◌≡◌}
use Rattle.laws.specs.Places.{fill}
use Rattle.second.specs.Prior.{number_at}
use Rattle.second.proofs.prior.inverses.Given as goal

abbrev pub invariant-loop-k : goal.invariant-loop-k
invariant-loop-k l = l.inverse ≡ fill number_at l.k l.initial.inverse
