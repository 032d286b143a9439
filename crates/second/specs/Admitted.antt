-- Whether a second stream may be run, be it from a run or handed in. Definitions only.
use Rattle.std.specs.Prelude.{ℕ, Bool, true, cond, ◌&&◌, List}
use Rattle.sequence.specs.Admitted.{are_states}
use Rattle.carrier.specs.Carrier as Carrier
use Rattle.second.specs.declared.Second.{Second}

-- while it is not enabled nothing of it is looked at; then its carrier's place may be run, and the stored parents are states
unfoldable pub admitted_of : Second → List ℕ → Bool
admitted_of s parents = cond s.enabled (Carrier.admitted_of s.carrier && are_states parents) true
