-- `replay_drift::set_places` is safe: the array keeps its length.
use mathlib.Core.Path.{◌≡◌}
use lib.ListN.{length}
use Rattle.replay_drift.proofs.set_places.Given as goal

abbrev pub invariant-loop : goal.invariant-loop
invariant-loop l = length l.inverse ≡ 8192
