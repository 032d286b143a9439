-- The admitted state, clause by clause: the totals, the places as each crate admits its own, the stored parents, and the second tracker. Definitions only.
use Rattle.std.specs.Prelude.{ℕ, ◌*◌, ◌^◌, Bool, ◌&&◌, List, leb}
use Rattle.front.specs.Admitted as Front
use Rattle.peak.specs.Peak as Peak
use Rattle.clock.specs.Clock as Clock
use Rattle.carrier.specs.Carrier as Carrier
use Rattle.signal.specs.Signal as Signal
use Rattle.second.specs.Admitted as Second
use Rattle.sequence.specs.Admitted.{are_states}
use Rattle.chain.specs.declared.ChainPlace.{ChainPlace}
use Rattle.front.specs.declared.FrontPlace.{FrontPlace}
use Rattle.second.specs.declared.Second.{Second}

-- total taken 0..2^52; input index 0..total; 0 <= locked <= symbols <= 2 x total
unfoldable pub totals_fit : ℕ → ℕ → ℕ → ℕ → Bool
totals_fit total index symbols locked = leb total (2 ^ 52) && (leb index total && (leb locked symbols && leb symbols (2 * total)))

-- peak keeper, clock, carrier with detector, view
unfoldable pub chain_fits : ChainPlace → Bool
chain_fits c = Peak.admitted_of c.keeper && (Clock.admitted_of c.clock && (Carrier.admitted_of c.carrier && Signal.admitted_of c.view))

-- oscillator, decimator and resampler in the front's test; stored parents below 64; the second tracker by its own test, which passes where it is not enabled
unfoldable pub state_fits : ℕ → FrontPlace → ChainPlace → Second → List ℕ → List ℕ → Bool
state_fits total front chain second parents ancestors =
    totals_fit total front.resampler.index chain.symbols chain.locked && (Front.admitted_of front && (chain_fits chain && (are_states parents && Second.admitted_of second ancestors)))
