-- `filter::sums::four_sums` meets its contract: the invariant is the sums over the first 2 j taps.
use Prim.Native.Nat.{◌*◌}
use mathlib.Core.Path.{◌≡◌}
use Rattle.filter.proofs.Laws.{four_to}
use Rattle.filter.proofs.sums.four_sums.Given as goal

abbrev pub invariant-loop-j : goal.invariant-loop-j
invariant-loop-j l = l.s ≡ four_to l.even.real l.odd.real l.even.imaginary l.odd.imaginary l.arm.taps l.arm.derivatives l.k (2 * l.j)
