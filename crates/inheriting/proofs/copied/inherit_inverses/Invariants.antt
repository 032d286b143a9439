-- `inherit_inverses` meets its contract: after m turns the first 4 m states have their parents' inverses.
use mathlib.Core.Path.{◌≡◌}
use Prim.Native.Nat.{◌*◌}
use Rattle.inheriting.specs.Laws.{inherited_to}
use Rattle.inheriting.proofs.copied.inherit_inverses.Given as goal

abbrev pub invariant-loop-m : goal.invariant-loop-m
invariant-loop-m l = l.next ≡ inherited_to l.old l.parents l.g (64 * l.m) l.initial.next
