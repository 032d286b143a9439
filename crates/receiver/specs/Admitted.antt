-- Which states are admitted, and what a block's checks say of a state: by what they look at of it. Definitions only.
use Rattle.std.specs.Prelude.{ℕ, Bool, List, Float}
use Rattle.receiver_state.specs.declared.state.Receiver.{Receiver}
use Rattle.checks.specs.Admitted.{state_fits}
use Rattle.checks.specs.Checks.{Judged, stated_of}

abbrev pub admitted_of : Receiver → Bool
admitted_of r = state_fits r.total r.front r.chain r.second r.planes.decisions.parents r.ancestors

abbrev pub judged_of : Receiver → List Float → ℕ → ℕ → ℕ → Judged
judged_of r xs table dibits reliabilities = stated_of r.total r.front r.chain r.second r.planes.decisions.parents r.ancestors xs table dibits reliabilities
