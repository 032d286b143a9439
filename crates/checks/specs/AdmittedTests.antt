-- What the tests' code gives is what their definitions say. Assumes nothing.
use Rattle.std.specs.Prelude.{◌≡◌, Bool, false, ◌&&◌, List, ℕ, ◌*◌, ◌^◌, ◌≤◌, ◌<◌, leb}
use Rattle.std.proofs.Common.{le-leb}
use Rattle.std.proofs.lemmas.Bool.{lt-leb}
use Rattle.front.specs.Admitted as Front
use Rattle.peak.specs.Peak as Peak
use Rattle.clock.specs.Clock as Clock
use Rattle.carrier.specs.Carrier as Carrier
use Rattle.signal.specs.Signal as Signal
use Rattle.second.specs.Admitted as Second
use Rattle.sequence.specs.Admitted.{are_states}
use Rattle.chain.specs.declared.ChainPlace.{ChainPlace}
use Rattle.front.specs.declared.FrontPlace.{FrontPlace}
use Rattle.second.specs.declared.Second.{Second}
use Rattle.checks.specs.Admitted.{totals_fit, chain_fits, state_fits}

pub totals_beyond : (total index symbols locked : ℕ) → 2 ^ 52 < total → false ≡ totals_fit total index symbols locked
unfolding totals_fit
totals_beyond total index symbols locked l = rw (lt-leb total (2 ^ 52) l)

pub totals_within : (total index symbols locked : ℕ) → total ≤ 2 ^ 52 → (leb index total && (leb locked symbols && leb symbols (2 * total))) ≡ totals_fit total index symbols locked
unfolding totals_fit
totals_within total index symbols locked l = rw (le-leb total (2 ^ 52) l)

pub chain_is : (p : ChainPlace) (a b c d : Bool) → a ≡ Peak.admitted_of p.keeper → b ≡ Clock.admitted_of p.clock → c ≡ Carrier.admitted_of p.carrier → d ≡ Signal.admitted_of p.view
    → (a && (b && (c && d))) ≡ chain_fits p
unfolding chain_fits
chain_is p a b c d e f g h = rw (e, f, g, h)

pub state_is : (total : ℕ) (front : FrontPlace) (chain : ChainPlace) (second : Second) (parents ancestors : List ℕ) (a b c d e : Bool)
    → a ≡ totals_fit total front.resampler.index chain.symbols chain.locked → b ≡ Front.admitted_of front → c ≡ chain_fits chain → d ≡ are_states parents → e ≡ Second.admitted_of second ancestors
    → (a && (b && (c && (d && e)))) ≡ state_fits total front chain second parents ancestors
unfolding state_fits
state_is total front chain second parents ancestors a b c d e p q r s t = rw (p, q, r, s, t)
