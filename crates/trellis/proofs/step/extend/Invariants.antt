-- `step::extend` meets its contract: four sweeps, one for each symbol, give each state's first cheapest branch, and these are brought into the order of the states.
use mathlib.Core.Path.{◌≡◌}
use Rattle.arrivals.specs.Runs.{tiers}
use Rattle.arrivals.specs.Layout.{swept_of}
use Rattle.trellis.proofs.step.extend.Given as goal

abbrev pub invariant-loop-k : goal.invariant-loop-k
invariant-loop-k l = (l.cost ≡ tiers (λ i q. (swept_of (record { real = l.real; imaginary = l.imaginary }) (record { real = l.past_real; imaginary = l.past_imaginary }) l.costs l.input l.reliable i q).cost) l.k l.initial.cost)
    × (l.prior ≡ tiers (λ i q. (swept_of (record { real = l.real; imaginary = l.imaginary }) (record { real = l.past_real; imaginary = l.past_imaginary }) l.costs l.input l.reliable i q).prior) l.k l.initial.prior)
    × (l.chosen_real ≡ tiers (λ i q. (swept_of (record { real = l.real; imaginary = l.imaginary }) (record { real = l.past_real; imaginary = l.past_imaginary }) l.costs l.input l.reliable i q).real) l.k l.initial.chosen_real)
    × (l.chosen_imaginary ≡ tiers (λ i q. (swept_of (record { real = l.real; imaginary = l.imaginary }) (record { real = l.past_real; imaginary = l.past_imaginary }) l.costs l.input l.reliable i q).imaginary) l.k l.initial.chosen_imaginary)
