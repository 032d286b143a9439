-- `take_foretold` meets its contract: after m turns the room holds the inverses of the parents of the first 4 m states, one symbol on.
use mathlib.Core.Path.{◌≡◌}
use Prim.Native.Nat.{◌*◌}
use Rattle.inheriting.specs.Foretold.{taken_to}
use Rattle.inheriting.proofs.foretold.take_foretold.Given as goal

abbrev pub invariant-loop-m : goal.invariant-loop-m
invariant-loop-m l = l.room ≡ taken_to l.old l.parents l.g (64 * l.m) l.initial.room
