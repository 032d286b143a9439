-- `learn_all` meets its contract: after g turns the first g groups have learnt.
use mathlib.Core.Path.{◌≡◌}
use Rattle.drift_tracker.specs.Layout.{learnt_from}
use Rattle.drift_tracker.specs.Laws.{fours_to, inverses_to}
use Rattle.drift_tracker.proofs.follow.learn_all.Given as goal

abbrev pub invariant-loop-g : goal.invariant-loop-g
invariant-loop-g l = (l.taps ≡ fours_to (λ s. (learnt_from l.initial.taps l.initial.drift l.inverse l.parents (record { real = l.prediction_real; imaginary = l.prediction_imaginary }) l.input s).taps) l.g l.initial.taps)
    × (l.drift ≡ fours_to (λ s. (learnt_from l.initial.taps l.initial.drift l.inverse l.parents (record { real = l.prediction_real; imaginary = l.prediction_imaginary }) l.input s).drift) l.g l.initial.drift)
    × (l.next ≡ inverses_to (λ s. (learnt_from l.initial.taps l.initial.drift l.inverse l.parents (record { real = l.prediction_real; imaginary = l.prediction_imaginary }) l.input s).inverse) l.g l.initial.next)
