-- From an accepted setup, through any calls, each of the detector's 64 costs stays within 0 to 48, exactly in f32 and whatever the samples are; and so does each of the second detector's from its enabling on. Assumes nothing.
use Rattle.std.specs.Prelude.{◌≡◌, refl, Bool, true, cond, ℕ, ◌<◌, eqb, ℤ, get_or, Option, Some, None, Float}
use Rattle.std.proofs.Math.Path.{sym, subst}
use Rattle.std.proofs.Common.{◌∙◌, eqb-true}
use Rattle.std.proofs.Math.Bool.{false}
use mathlib.Core.List.{List, [], ◌∷◌}
use Rattle.std.proofs.lemmas.List.{get_or-replicate}
use Rattle.std.specs.Float.Ieee.{nan}
use Rattle.std.proofs.lemmas.Bool.{eqb-false}
use Rattle.laws.specs.FloatSums.{In}
use Rattle.numbers.specs.Constants.{zero32}
use Rattle.complex.specs.declared.Complex32.{Complex32}
use Rattle.taps.specs.Taps.{both_tables}
use Rattle.trellis.specs.Metric.{c0, nought}
use Rattle.trellis.specs.Costs.{c48, Good}
use Rattle.trellis.proofs.CostsLaws.{fresh_good, good_same}
use Rattle.lms_detector.specs.Detector as lms_detector
use Rattle.sequence.specs.Theorems.{costs_stepped}
use Rattle.carrier.specs.Carrier as carrier
use Rattle.lms_carrier.specs.Carrier as lms_carrier
use Rattle.recovery.specs.declared.step.Found.{Found}
use Rattle.recovery.specs.Recovery as recovery
use Rattle.decisions.specs.Decisions as decisions
use Rattle.answers.specs.declared.soft.Soft.{Soft}
use Rattle.answers.specs.Observed.{record_before}
use Rattle.drift_detector.specs.Detector as drift_detector
use Rattle.drift_carrier.specs.Carrier as drift_carrier
use Rattle.second.specs.Second.{SecondState, costs_of, fresh_floats, other_of}
use Rattle.second.specs.Second as second
use Rattle.delivery.specs.declared.DeliveryPlace.{DeliveryPlace}
use Rattle.chain.specs.Chain.{ChainState, recovery_of, decisions_of, delivery_of, heard_of, stepped_of}
use Rattle.chain.specs.Rows.{Told, start, slot_at, told, ran_of, chain_of}
use Rattle.receiver_state.specs.declared.state.Receiver.{Receiver}
use Rattle.receiver_state.specs.State.{fresh_receiver}
use Rattle.run.specs.Run.{whole_run_of}
use Rattle.receiver.specs.Setup.{setup_of}
use Rattle.receiver.specs.Block.{one, start_of, Outcome}
use Rattle.promises.specs.Deliveries.{values_of, after_of}
use Rattle.promises.proofs.DeliveriesLaws.{accepted_is}
use Rattle.promises.proofs.WrittenLaws.{refused_keeps}
use Rattle.promises.specs.Tables.{setup_fresh}
use Rattle.promises.specs.Taken.{Call, answered_of}
use Rattle.promises.specs.Calls.{state_after}
use Rattle.promises.specs.Accepts.{Typed}
use Rattle.promises.proofs.AcceptsLaws.{accepted_passes, passes_back, block_kept}
use Rattle.promises.proofs.Enabling.{started_is, enabled_typed, fresh_costs}
use Rattle.receiver.specs.Enable.{started_of, enabled_of}

-- the invariant that a step of the trellis keeps
abbrev GoodCosts : List Float → Type 0
GoodCosts costs = Good (λ s. get_or costs s nan)

-- ---- a value: the costs stay as they are, or the trellis takes a step
heard_keeps : (f : Option Found) (r : recovery.RecoveryState) (d : decisions.DecisionsState) (s : SecondState) (p : DeliveryPlace) (oldest : Option Soft) → GoodCosts d.costs → GoodCosts (heard_of f r d s p oldest).state.costs
unfolding heard_of decisions.decided_of lms_carrier.carried_of lms_detector.detected_of lms_detector.detected_with
heard_keeps None r d s p oldest g = g
heard_keeps (Some found) r d s p oldest g =
    costs_stepped d.place.carrier.detector (carrier.corrected_of d.place.carrier.turn found.symbol) found.reliable oldest d.channels d.costs d.parents g

module _ (taps derivatives : List Float) where
  step_keeps : (s : ChainState) (z : Complex32) (oldest : Option Soft) → GoodCosts s.costs → GoodCosts (stepped_of taps derivatives s z oldest).state.costs
  unfolding stepped_of
  step_keeps s z oldest g = let k = recovery.stepped_of taps derivatives (recovery_of s) z in heard_keeps k.found k.state (decisions_of s) s.second (delivery_of s.place) oldest g

  values_keep : (values : List Complex32) (t : Told) → GoodCosts t.state.costs → GoodCosts (ran_of taps derivatives values t).state.costs
  unfolding ran_of told
  values_keep [] t g = g
  values_keep (z ∷ values) t g = values_keep values (told taps derivatives t z) (step_keeps t.state z _ g)

-- ---- a call, and calls one after the other
after_keeps : (r : Receiver) (table xs : List Float) → GoodCosts r.planes.decisions.costs → GoodCosts (after_of r table xs).planes.decisions.costs
unfolding after_of whole_run_of chain_of
after_keeps r table xs g = values_keep both_tables.taps both_tables.derivatives (values_of r table xs) (start (start_of r (one [] [])).lent.state r.records.slots) g

call_keeps : (r : Receiver) (c : Call) → GoodCosts r.planes.decisions.costs → GoodCosts (answered_of r c).receiver.planes.decisions.costs
call_keeps r c g = go (eqb (answered_of r c).number 0) refl
  where
    go : (b : Bool) → eqb (answered_of r c).number 0 ≡ b → GoodCosts (answered_of r c).receiver.planes.decisions.costs
    go true e =
        let is = accepted_is r c.table c.samples c.rooms (eqb-true (answered_of r c).number 0 e) in
        subst (λ (o : Outcome). GoodCosts o.receiver.planes.decisions.costs) (sym is) (after_keeps r c.table c.samples g)
    go false e =
        let is = (refused_keeps r c.table c.samples c.rooms (eqb-false (answered_of r c).number 0 e)).0 in
        subst (λ (q : Receiver). GoodCosts q.planes.decisions.costs) (sym is) g

calls_keep : (r : Receiver) (cs : List Call) → GoodCosts r.planes.decisions.costs → GoodCosts (state_after r cs).planes.decisions.costs
unfolding state_after
calls_keep r [] g = g
calls_keep r (c ∷ cs) g = calls_keep (answered_of r c).receiver cs (call_keeps r c g)

setup_keeps : (rate offset : Float) (profile : ℤ) (table : List Float) → (setup_of rate offset profile table).number ≡ 0 → GoodCosts (setup_of rate offset profile table).receiver.planes.decisions.costs
unfolding fresh_receiver
setup_keeps rate offset profile table h =
    subst (λ (r : Receiver). GoodCosts r.planes.decisions.costs) (sym (setup_fresh rate offset profile table h).receiver)
    (good_same (λ s. c0) _ (λ s l. sym (get_or-replicate 64 s zero32 nan l ∙ nought)) fresh_good)

-- THE THEOREM: after an accepted setup and any calls, refused ones among them, each cost lies within 0 to 48
pub costs_kept : (rate offset : Float) (profile : ℤ) (table : List Float) → (setup_of rate offset profile table).number ≡ 0
    → (cs : List Call) (s : ℕ) → s < 64 → In c0 c48 (get_or (state_after (setup_of rate offset profile table).receiver cs).planes.decisions.costs s nan)
costs_kept rate offset profile table h cs s l = (calls_keep (setup_of rate offset profile table).receiver cs (setup_keeps rate offset profile table h)).ranged s l

-- ---- THE SECOND STREAM'S COSTS, from enabling on
heard_keeps_second : (f : Option Found) (r : recovery.RecoveryState) (d : decisions.DecisionsState) (s : SecondState) (p : DeliveryPlace) (oldest : Option Soft) → GoodCosts s.costs → GoodCosts (heard_of f r d s p oldest).state.second.costs
heard_keeps_second None r d s p oldest g = unfold heard_of in g
heard_keeps_second (Some found) r d s p oldest g = unfold heard_of in unfold other_of in go s.enabled
  where
    stepped : GoodCosts (second.decided_of s found.symbol found.reliable).state.costs
    stepped =
        unfold second.decided_of in unfold drift_carrier.carried_of in unfold drift_detector.detected_of in unfold drift_detector.detected_with in
        costs_stepped s.carrier.detector (carrier.corrected_of s.carrier.turn found.symbol) found.reliable (record_before s.records (second.slot_at s)) (drift_detector.ready_of s.memory found.reliable).channels s.costs s.parents g

    go : (b : Bool) → GoodCosts (cond b (second.decided_of s found.symbol found.reliable) (record { state = s; answer = (decisions.decided_of d found.symbol found.reliable oldest).answer })).state.costs
    go true = stepped
    go false = g

module _ (taps derivatives : List Float) where
  values_keep_second : (values : List Complex32) (t : Told) → GoodCosts t.state.second.costs → GoodCosts (ran_of taps derivatives values t).state.second.costs
  unfolding ran_of told stepped_of
  values_keep_second [] t g = g
  values_keep_second (z ∷ values) t g =
      let s = t.state in
      let k = recovery.stepped_of taps derivatives (recovery_of s) z in
      values_keep_second values (told taps derivatives t z) (heard_keeps_second k.found k.state (decisions_of s) s.second (delivery_of s.place) (record_before t.records (slot_at s)) g)

-- a state whose second stream's costs are so, and what the type of a state says of it
record Kept (r : Receiver) : Type 0 where
  typed : Typed r
  costs : GoodCosts (costs_of r.memory)

call_keeps_second : (r : Receiver) (c : Call) → Kept r → Kept (answered_of r c).receiver
call_keeps_second r c k = go (eqb (answered_of r c).number 0) refl
  where
    go : (b : Bool) → eqb (answered_of r c).number 0 ≡ b → Kept (answered_of r c).receiver
    go true e =
        let h = eqb-true (answered_of r c).number 0 e in
        let is = accepted_is r c.table c.samples c.rooms h in
        let passes = accepted_passes r c.table c.samples c.rooms h in
        let back = passes_back r c.table c.samples c.rooms k.typed passes in
        let ran = values_keep_second both_tables.taps both_tables.derivatives (values_of r c.table c.samples) (start (start_of r (one [] [])).lent.state r.records.slots) k.costs in
        record {
          typed = (block_kept r c.table c.samples c.rooms k.typed h).typed;
          costs = subst (λ (o : Outcome). GoodCosts (costs_of o.receiver.memory)) (sym is) (unfold after_of whole_run_of chain_of in subst GoodCosts (sym back.costs) ran);
        }
    go false e =
        let is = (refused_keeps r c.table c.samples c.rooms (eqb-false (answered_of r c).number 0 e)).0 in
        subst Kept (sym is) k

calls_keep_second : (r : Receiver) (cs : List Call) → Kept r → Kept (state_after r cs)
unfolding state_after
calls_keep_second r [] k = k
calls_keep_second r (c ∷ cs) k = calls_keep_second (answered_of r c).receiver cs (call_keeps_second r c k)

started_kept : (r : Receiver) → Typed r → r.second.enabled ≡ false → Kept (enabled_of r)
started_kept r t off = record { typed = enabled_typed r t; costs = subst (λ (q : Receiver). GoodCosts (costs_of q.memory)) (sym (started_is r off)) (unfold started_of in fresh_good_costs) }
  where
    fresh_good_costs : GoodCosts (costs_of fresh_floats)
    fresh_good_costs = subst GoodCosts (sym fresh_costs) (good_same (λ s. c0) _ (λ s l. sym (get_or-replicate 64 s zero32 nan l ∙ nought)) fresh_good)

-- THE THEOREM: from the enabling of a state, through any calls, refused ones among them, each of the second detector's costs lies within 0 to 48
pub second_costs_kept : (r : Receiver) → Typed r → r.second.enabled ≡ false → (cs : List Call) (s : ℕ) → s < 64 → In c0 c48 (get_or (costs_of (state_after (enabled_of r) cs).memory) s nan)
second_costs_kept r t off cs s l = (calls_keep_second (enabled_of r) cs (started_kept r t off)).costs.ranged s l
