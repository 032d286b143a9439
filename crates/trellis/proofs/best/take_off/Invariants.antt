-- `best::take_off` meets its contract: each turn of the loop takes the cost off one state.
use mathlib.Core.Path.{◌≡◌}
use Rattle.laws.specs.Turns.{turns}
use Rattle.trellis.specs.Laws.{off_turn}
use Rattle.trellis.proofs.best.take_off.Given as goal

abbrev pub invariant-loop-cost : goal.invariant-loop-cost
invariant-loop-cost l = l.costs ≡ turns (off_turn l.least) l.cost-index l.initial.costs
