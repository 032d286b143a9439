-- `branch::branches` meets its contract: each turn of the loop writes one prior's sum and the two parts of its prediction.
use mathlib.Core.Path.{◌≡◌}
use Rattle.laws.specs.Places.{fill}
use Rattle.arrivals.specs.Layout.{sum_with, real_with, imaginary_with}
use Rattle.arrivals.proofs.branch.branches.Given as goal

abbrev pub invariant-loop-p : goal.invariant-loop-p
invariant-loop-p l = (l.sums ≡ fill (sum_with (record { real = l.real; imaginary = l.imaginary }) (record { real = l.past_real; imaginary = l.past_imaginary }) l.costs l.s l.input l.reliable) l.p l.initial.sums)
    × (l.prediction_real ≡ fill (real_with (record { real = l.real; imaginary = l.imaginary }) (record { real = l.past_real; imaginary = l.past_imaginary }) l.s) l.p l.initial.prediction_real)
    × (l.prediction_imaginary ≡ fill (imaginary_with (record { real = l.real; imaginary = l.imaginary }) (record { real = l.past_real; imaginary = l.past_imaginary }) l.s) l.p l.initial.prediction_imaginary)
