-- `gather` meets its contract: each turn is a sample into the integrators, and the counter of turns stays below 4,096.
use Prim.Native.Nat.{◌<◌}
use mathlib.Core.Path.{◌≡◌}
use Rattle.laws.specs.Turns.{turns}
use Rattle.front.specs.Front.{gather_turn}
use Rattle.front.proofs.gather.Given as goal

abbrev pub invariant-loop-i : goal.invariant-loop-i
invariant-loop-i l = (l.h.oscillator.renormalize < 4096) × (l.h ≡ turns (gather_turn l.conjugated l.samples l.from) l.i l.initial.h)
