-- `choice::first_cheapest` meets its contract: the four priors are compared one after the other, from the first on.
use Rattle.arrivals.specs.Layout.{first_cheapest_of}
use Rattle.arrivals.proofs.choice.first_cheapest.Goals as goal

pub returns : goal.returns
unfolding first_cheapest_of
returns c = rw (c.cheaper.ensures, c.cheaper-c.ensures, c.cheaper-b.ensures, c.cheaper-a.ensures)
