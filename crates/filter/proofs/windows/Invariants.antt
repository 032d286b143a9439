-- `filter::windows` meets its contract: the invariant is that the planes hold the windows that are made before group g.
use Rattle.filter.specs.Fast.{woven}
use Rattle.filter.proofs.Laws.{Made}
use Rattle.filter.proofs.windows.Given as goal

abbrev pub invariant-loop-g : goal.invariant-loop-g
invariant-loop-g l = Made (woven l.even.real l.odd.real) (woven l.even.imaginary l.odd.imaginary) l.arm.taps l.arm.derivatives l.g l.value_real l.value_imaginary l.derivative_real l.derivative_imaginary
