-- `peak::envelopes` meets its contract: the invariant is the first k envelopes filled.
use mathlib.Core.Path.{◌≡◌}
use lib.ListN.{get_or}
use lib.Ieee.{nan}
use Rattle.laws.specs.Places.{fill}
use Rattle.peak.specs.Peak.{envelope_of}
use Rattle.peak.proofs.envelopes.Given as goal

abbrev pub invariant-loop-k : goal.invariant-loop-k
invariant-loop-k l = l.out ≡ fill (λ i. envelope_of (get_or l.real i nan) (get_or l.imaginary i nan)) l.k l.initial.out
