-- The admitted test as facts: it passes exactly where they hold. Assumes nothing.
use Rattle.std.specs.Prelude.{◌≡◌, true, ◌&&◌, List, ℕ, ◌*◌, ◌^◌, ◌≤◌, leb}
use Rattle.std.proofs.Common.{leb-true, le-leb}
use Rattle.laws.specs.Branches.{and_true}
use Rattle.front.specs.Admitted as Front
use Rattle.front.specs.AdmittedLaws as FrontLaws
use Rattle.peak.specs.Peak as Peak
use Rattle.peak.proofs.Laws as PeakLaws
use Rattle.clock.specs.Clock as Clock
use Rattle.clock.specs.Ranges as ClockRanges
use Rattle.clock.specs.AdmittedLaws as ClockLaws
use Rattle.carrier.specs.Carrier as Carrier
use Rattle.carrier.specs.Ranges as CarrierRanges
use Rattle.carrier.specs.AdmittedLaws as CarrierLaws
use Rattle.signal.specs.Signal as Signal
use Rattle.signal.proofs.Laws as SignalLaws
use Rattle.second.specs.Admitted as Second
use Rattle.second.specs.Ranges as SecondRanges
use Rattle.second.specs.AdmittedLaws as SecondLaws
use Rattle.answers.specs.Walk.{Table}
use Rattle.sequence.specs.Admitted.{are_states}
use Rattle.sequence.specs.AdmittedLaws.{states_table, table_states}
use Rattle.chain.specs.declared.ChainPlace.{ChainPlace}
use Rattle.front.specs.declared.FrontPlace.{FrontPlace}
use Rattle.second.specs.declared.Second.{Second}
use Rattle.checks.specs.Admitted.{totals_fit, chain_fits, state_fits}

pub record ChainFits (c : ChainPlace) : Type 0 where
  pub keeper : Peak.Admitted c.keeper
  pub clock : ClockRanges.Admitted c.clock
  pub carrier : CarrierRanges.PlaceRanged c.carrier
  pub view : Signal.Admitted c.view

pub record Fits (total : ℕ) (front : FrontPlace) (chain : ChainPlace) (second : Second) (parents ancestors : List ℕ) : Type 0 where
  pub total_in : total ≤ 2 ^ 52
  pub index_in : front.resampler.index ≤ total
  pub locked_in : chain.locked ≤ chain.symbols
  pub symbols_in : chain.symbols ≤ 2 * total
  pub front_fits : Front.Admitted front
  pub chain_fits_lem : ChainFits chain
  pub table : Table parents
  pub second_fits : second.enabled ≡ true → SecondRanges.PlaceRanged second ancestors

-- ---- from the test
chain_from : (c : ChainPlace) → chain_fits c ≡ true → ChainFits c
unfolding chain_fits
chain_from c h =
    let rest = Carrier.admitted_of c.carrier && Signal.admitted_of c.view in
    let first = and_true (Peak.admitted_of c.keeper) (Clock.admitted_of c.clock && rest) h in
    let second = and_true (Clock.admitted_of c.clock) rest first.1 in
    let third = and_true (Carrier.admitted_of c.carrier) (Signal.admitted_of c.view) second.1 in
    record {
      keeper = PeakLaws.admitted_facts c.keeper first.0;
      clock = ClockLaws.admitted_facts c.clock second.0;
      carrier = CarrierLaws.admitted_ranged c.carrier third.0;
      view = SignalLaws.admitted_facts c.view third.1;
    }

pub fits_from : (total : ℕ) (front : FrontPlace) (chain : ChainPlace) (second : Second) (parents ancestors : List ℕ) → state_fits total front chain second parents ancestors ≡ true
    → Fits total front chain second parents ancestors
unfolding state_fits totals_fit
fits_from total front chain second parents ancestors h =
    let i = front.resampler.index in
    let s = chain.symbols in
    let l = chain.locked in
    let rest = are_states parents && Second.admitted_of second ancestors in
    let t = and_true (totals_fit total i s l) (Front.admitted_of front && (chain_fits chain && rest)) h in
    let u = and_true (Front.admitted_of front) (chain_fits chain && rest) t.1 in
    let v = and_true (chain_fits chain) rest u.1 in
    let w = and_true (are_states parents) (Second.admitted_of second ancestors) v.1 in
    let a = and_true (leb total (2 ^ 52)) (leb i total && (leb l s && leb s (2 * total))) t.0 in
    let b = and_true (leb i total) (leb l s && leb s (2 * total)) a.1 in
    let d = and_true (leb l s) (leb s (2 * total)) b.1 in
    record {
      total_in = leb-true total (2 ^ 52) a.0;
      index_in = leb-true i total b.0;
      locked_in = leb-true l s d.0;
      symbols_in = leb-true s (2 * total) d.1;
      front_fits = FrontLaws.admitted_facts front u.0;
      chain_fits_lem = chain_from chain v.0;
      table = states_table parents w.0;
      second_fits = SecondLaws.admitted_ranged second ancestors w.1;
    }

-- ---- and to it
totals_to : (total index symbols locked : ℕ) → total ≤ 2 ^ 52 → index ≤ total → locked ≤ symbols → symbols ≤ 2 * total → totals_fit total index symbols locked ≡ true
unfolding totals_fit
totals_to total index symbols locked a b c d = rw (le-leb total (2 ^ 52) a, le-leb index total b, le-leb locked symbols c, le-leb symbols (2 * total) d)

chain_to : (c : ChainPlace) → ChainFits c → chain_fits c ≡ true
unfolding chain_fits
chain_to c k =
    rw (PeakLaws.facts_admitted c.keeper k.keeper, ClockLaws.facts_admitted c.clock k.clock, CarrierLaws.ranged_admitted c.carrier k.carrier, SignalLaws.facts_admitted c.view k.view)

pub fits_to : (total : ℕ) (front : FrontPlace) (chain : ChainPlace) (second : Second) (parents ancestors : List ℕ) → Fits total front chain second parents ancestors
    → state_fits total front chain second parents ancestors ≡ true
unfolding state_fits
fits_to total front chain second parents ancestors k =
    let totals = totals_to total front.resampler.index chain.symbols chain.locked k.total_in k.index_in k.locked_in k.symbols_in in
    rw (totals, FrontLaws.facts_admitted front k.front_fits, chain_to chain k.chain_fits_lem, table_states parents k.table, SecondLaws.ranged_admitted second ancestors k.second_fits)
