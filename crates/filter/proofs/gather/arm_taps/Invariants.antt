-- `filter::gather::arm_taps` meets its contract: the invariant is the first i taps filled.
use mathlib.Core.Path.{◌≡◌}
use Rattle.laws.specs.Places.{fill}
use Rattle.filter.specs.Filter.{arm_tap}
use Rattle.filter.proofs.gather.arm_taps.Given as goal

abbrev pub invariant-loop-i : goal.invariant-loop-i
invariant-loop-i l = l.taps ≡ fill (arm_tap l.table l.arm) l.i l.initial.taps
