-- `state_before` meets its contract: 31 turns, each to a parent below 64.
use mathlib.Core.Path.{◌≡◌}
use Prim.Native.Nat.{◌<◌}
use Rattle.laws.specs.Turns.{turns}
use Rattle.answers.specs.Walk.{parent_before}
use Rattle.answers.proofs.walk.state_before.Given as goal

abbrev pub invariant-loop-k : goal.invariant-loop-k
invariant-loop-k l = (l.state ≡ turns (parent_before l.parents l.newest) l.k l.best) × (l.state < 64)
