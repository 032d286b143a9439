-- `settling::group::renew` meets its contract.
use mathlib.Core.Path.{◌≡◌}
use Rattle.least_squares.specs.Lanes.{state_at}
use Rattle.settling.specs.Layout.{swept, number_turn, prior_number}
use Rattle.settling.proofs.group.renew.Given as goal

abbrev pub invariant-loop-e : goal.invariant-loop-e
invariant-loop-e l = l.next ≡ swept (number_turn (state_at l.base)) l.e prior_number l.initial.next
