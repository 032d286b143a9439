-- `choice::choose` meets its contract: each turn of the loop lays the choice for one q at its place of the four planes.
use mathlib.Core.Path.{◌≡◌}
use Rattle.laws.specs.Places.{laid}
use Rattle.arrivals.specs.Layout.{first_cheapest_of}
use Rattle.arrivals.proofs.choice.choose.Given as goal

abbrev pub invariant-loop-q : goal.invariant-loop-q
invariant-loop-q l = (l.cost ≡ laid (λ k. (first_cheapest_of l.sums l.real l.imaginary k).cost) l.from l.q l.initial.cost)
    × (l.prior ≡ laid (λ k. (first_cheapest_of l.sums l.real l.imaginary k).prior) l.from l.q l.initial.prior)
    × (l.chosen_real ≡ laid (λ k. (first_cheapest_of l.sums l.real l.imaginary k).real) l.from l.q l.initial.chosen_real)
    × (l.chosen_imaginary ≡ laid (λ k. (first_cheapest_of l.sums l.real l.imaginary k).imaginary) l.from l.q l.initial.chosen_imaginary)
