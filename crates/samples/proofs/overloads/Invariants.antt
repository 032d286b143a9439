-- `overloads` meets its contract: each turn counts a sample that has a part at an end.
use Prim.Native.Nat.{◌≤◌}
use mathlib.Core.Path.{◌≡◌}
use lib.Ieee.{nan}
use Rattle.laws.specs.Turns.{turns}
use Rattle.samples.specs.Samples.{tally_turn, is_at_end}
use Rattle.samples.proofs.overloads.Given as goal

abbrev pub invariant-loop-i : goal.invariant-loop-i
invariant-loop-i l = (l.count ≤ l.i) × (l.count ≡ turns (tally_turn is_at_end nan l.samples) l.i 0)
