-- The counts of a state: symbols is the number of dibits delivered since setup, and locked the number of those delivered under lock; from a state handed in both
-- count on from its values. Assumes nothing.
use Rattle.std.specs.Prelude.{◌≡◌, refl, Bool, true, false, cond, ℕ, ◌+◌, eqb, ℤ, Option, Some, None, Float}
use Rattle.std.proofs.Common.{sym, ◌∙◌, subst, eqb-true}
use Rattle.std.proofs.Math.Path.{ap}
use mathlib.Core.List.{List, [], ◌∷◌, ◌++◌}
use native.Mathlib.Omega.{arith}
use Rattle.std.proofs.Math.ListN.{length, length-append}
use Rattle.std.proofs.lemmas.Bool.{eqb-false}
use Rattle.complex.specs.declared.Complex32.{Complex32}
use Rattle.taps.specs.Taps.{both_tables}
use Rattle.answers.specs.declared.soft.Soft.{Soft}
use Rattle.answers.specs.declared.walk.Dibit.{Dibit}
use Rattle.answers.specs.Observed.{record_before}
use Rattle.lms_carrier.specs.Carrier as lms_carrier
use Rattle.labels.specs.Labels.{rearranges, labelled_of, counted_of}
use Rattle.recovery.specs.declared.step.Found.{Found}
use Rattle.recovery.specs.Recovery as recovery
use Rattle.decisions.specs.Decisions as decisions
use Rattle.answer_row.specs.AnswerRow.{is_dibit}
use Rattle.second.specs.Second.{other_of}
use Rattle.delivery.specs.Delivery as delivery
use Rattle.delivery.specs.Delivery.{paired_of}
use Rattle.chain.specs.Chain as chain
use Rattle.chain.specs.Chain.{ChainState, recovery_of, decisions_of, Quiet, Step, heard_of, stepped_of}
use Rattle.chain.specs.Rows.{records_after, Told, start, slot_at, next_of, told, ran_of, chain_of}
use Rattle.receiver_state.specs.declared.state.Receiver.{Receiver}
use Rattle.receiver_state.specs.State.{fresh_receiver, snapshot_of}
use Rattle.run.specs.Run.{whole_run_of}
use Rattle.receiver.specs.Setup.{setup_of}
use Rattle.receiver.specs.Block.{Rooms, one, start_of, Outcome, refused_of, block_of}
use Rattle.promises.specs.Deliveries.{answer_delivery, delivery_of, delivered_by, deliveries, values_of, deliveries_of, after_of, outcome_of}
use Rattle.promises.proofs.DeliveriesLaws.{length_dibits, accepted_is}
use Rattle.promises.specs.Compose.{delivered_dibits}
use Rattle.promises.proofs.ComposeLaws.{dibits_are}
use Rattle.promises.proofs.WrittenLaws.{refused_is}
use Rattle.promises.specs.Tables.{setup_fresh}
use Rattle.promises.specs.Taken.{Call, answered_of}
use Rattle.promises.specs.Calls.{state_after, dibits_over, count_over, is_locked, locked_delivery, locked_deliveries, locked_deliveries_of, locked_over}

counts_add : (m n x y both : ℕ) → m ≡ n + x → both ≡ x + y → m + y ≡ n + both
counts_add m n x y both e f = omega arith

-- ---- one value: symbols grows by what it delivers, locked by what it delivers under lock
record Counting (s : ChainState) (n : Step) : Type 0 where
  symbols : n.state.place.symbols ≡ s.place.symbols + length (delivery_of n.outcome)
  locked : n.state.place.locked ≡ s.place.locked + length (locked_delivery n)

answer_counts : (n : ℕ) (a : Option Dibit) (counts rearranged : Bool) → counted_of n a counts ≡ n + length (cond counts (answer_delivery (labelled_of rearranged a)) [])
answer_counts n None true rearranged = omega arith
answer_counts n None false rearranged = omega arith
answer_counts n (Some d) true true = refl
answer_counts n (Some d) true false = refl
answer_counts n (Some d) false rearranged = omega arith

heard_counts : (f : Option Found) (s : ChainState) (r : recovery.RecoveryState) (oldest : Option Soft) → Counting s (heard_of f r (decisions_of s) s.second (chain.delivery_of s.place) oldest)
unfolding heard_of decisions.decided_of delivery.told_of
heard_counts None s r oldest = record { symbols = omega arith; locked = none (is_locked (heard_of None r (decisions_of s) s.second (chain.delivery_of s.place) oldest)) s.place.locked }
  where
    none : (b : Bool) (n : ℕ) → n ≡ n + length (cond b (delivery_of Quiet) [])
    none true n = omega arith
    none false n = omega arith
heard_counts (Some found) s r oldest =
    let c = (lms_carrier.carried_of s.place.carrier found.symbol found.reliable oldest s.channels s.costs s.parents).carried in
    let rearranged = rearranges s.place.profile in
    let told = paired_of c.answer (is_dibit (other_of s.second c.answer found.symbol found.reliable).answer) in
    record {
      symbols = answer_counts s.place.symbols told true rearranged;
      locked = answer_counts s.place.locked told c.place.turn.locked rearranged;
    }

-- ---- values: the chain over them
module _ (taps derivatives : List Float) where
  step_counts : (s : ChainState) (z : Complex32) (oldest : Option Soft) → Counting s (stepped_of taps derivatives s z oldest)
  unfolding stepped_of
  step_counts s z oldest = let k = recovery.stepped_of taps derivatives (recovery_of s) z in heard_counts k.found s k.state oldest

  record Grown (values : List Complex32) (t : Told) : Type 0 where
    symbols : (ran_of taps derivatives values t).state.place.symbols ≡ t.state.place.symbols + length (deliveries taps derivatives values t.state t.records)
    locked : (ran_of taps derivatives values t).state.place.locked ≡ t.state.place.locked + length (locked_deliveries taps derivatives values t.state t.records)

  grown : (values : List Complex32) (t : Told) → Grown values t
  unfolding ran_of told delivered_by locked_deliveries
  grown [] t = record { symbols = omega arith; locked = omega arith }
  grown (z ∷ values) t =
      let n = next_of taps derivatives t.state t.records z in
      let k = step_counts t.state z (record_before t.records (slot_at t.state)) in
      let g = grown values (told taps derivatives t z) in
      let records = records_after n.outcome (slot_at t.state) t.records in
      let a = length-append (delivery_of n.outcome) (deliveries taps derivatives values n.state records) in
      let b = length-append (locked_delivery n) (locked_deliveries taps derivatives values n.state records) in
      record { symbols = g.symbols ∙ counts_add _ _ _ _ _ k.symbols a; locked = g.locked ∙ counts_add _ _ _ _ _ k.locked b }

-- ---- a block

-- what an accepted block adds: its k to symbols, and to locked the dibits delivered under lock; the Snapshot shows both
pub record Counted (r : Receiver) (table xs : List Float) (o : Outcome) : Type 0 where
  pub delivered : length (delivered_dibits o) ≡ o.count
  pub symbols : o.receiver.chain.symbols ≡ r.chain.symbols + o.count
  pub locked : o.receiver.chain.locked ≡ r.chain.locked + length (locked_deliveries_of r table xs)
  pub shown_symbols : o.snapshot.symbols ≡ o.receiver.chain.symbols
  pub shown_locked : o.snapshot.locked_symbols ≡ o.receiver.chain.locked

module _ (r : Receiver) (table xs : List Float) (lent : Rooms) where
  outcome_counts : Counted r table xs (outcome_of r table xs lent)
  unfolding after_of whole_run_of chain_of deliveries_of locked_deliveries_of snapshot_of
  outcome_counts =
      let g = grown both_tables.taps both_tables.derivatives (values_of r table xs) (start (start_of r (one [] [])).lent.state r.records.slots) in
      record {
        delivered = ap length (dibits_are r table xs lent) ∙ length_dibits (deliveries_of r table xs);
        symbols = g.symbols;
        locked = g.locked;
        shown_symbols = refl;
        shown_locked = refl;
      }

  -- AN ACCEPTED BLOCK
  pub block_counts : (block_of r table xs lent).number ≡ 0 → Counted r table xs (block_of r table xs lent)
  block_counts h = subst (Counted r table xs) (sym (accepted_is r table xs lent h)) outcome_counts

-- ---- calls one after the other

-- what a call adds; a refused one adds nothing
record Added (r : Receiver) (c : Call) : Type 0 where
  delivered : length (delivered_dibits (answered_of r c)) ≡ (answered_of r c).count
  symbols : (answered_of r c).receiver.chain.symbols ≡ r.chain.symbols + (answered_of r c).count
  locked : (answered_of r c).receiver.chain.locked ≡ r.chain.locked + length (cond (eqb (answered_of r c).number 0) (locked_deliveries_of r c.table c.samples) [])

record NothingAdded (r : Receiver) (o : Outcome) : Type 0 where
  delivered : length (delivered_dibits o) ≡ o.count
  symbols : o.receiver.chain.symbols ≡ r.chain.symbols + o.count
  locked : o.receiver.chain.locked ≡ r.chain.locked + 0

refused_adds : (number : ℕ) (r : Receiver) (lent : Rooms) → NothingAdded r (refused_of number r lent)
refused_adds number r lent = record { delivered = refl; symbols = omega arith; locked = omega arith }

added : (r : Receiver) (c : Call) → Added r c
added r c = go (eqb (answered_of r c).number 0) refl
  where
    go : (b : Bool) → eqb (answered_of r c).number 0 ≡ b → Added r c
    go true e =
        let k = block_counts r c.table c.samples c.rooms (eqb-true (answered_of r c).number 0 e) in
        record { delivered = k.delivered; symbols = k.symbols; locked = rw e k.locked }
    go false e =
        let is = refused_is r c.table c.samples c.rooms (eqb-false (answered_of r c).number 0 e) in
        let k = subst (NothingAdded r) (sym is) (refused_adds (answered_of r c).number r c.rooms) in
        record { delivered = k.delivered; symbols = k.symbols; locked = rw e k.locked }

-- FROM ANY STATE both count on from its values, whatever is called and refused
pub record CountedOn (r : Receiver) (cs : List Call) : Type 0 where
  pub delivered : length (dibits_over r cs) ≡ count_over r cs
  pub symbols : (state_after r cs).chain.symbols ≡ r.chain.symbols + length (dibits_over r cs)
  pub locked : (state_after r cs).chain.locked ≡ r.chain.locked + length (locked_over r cs)

pub calls_count : (r : Receiver) (cs : List Call) → CountedOn r cs
unfolding state_after dibits_over count_over locked_over
calls_count r [] = record { delivered = refl; symbols = omega arith; locked = omega arith }
calls_count r (c ∷ cs) =
    let o = answered_of r c in
    let k = added r c in
    let n = calls_count o.receiver cs in
    let held = cond (eqb o.number 0) (locked_deliveries_of r c.table c.samples) [] in
    let a = length-append (delivered_dibits o) (dibits_over o.receiver cs) in
    let b = length-append held (locked_over o.receiver cs) in
    record {
      delivered = a ∙ (λ i. k.delivered i + n.delivered i);
      symbols = n.symbols ∙ counts_add _ _ _ _ _ (k.symbols ∙ ap (λ (x : ℕ). r.chain.symbols + x) (sym k.delivered)) a;
      locked = n.locked ∙ counts_add _ _ _ _ _ k.locked b;
    }

state_one_call_on : (r : Receiver) (cs : List Call) (c : Call) → state_after r (cs ++ (c ∷ [])) ≡ (answered_of (state_after r cs) c).receiver
unfolding state_after
state_one_call_on r [] c = refl
state_one_call_on r (d ∷ cs) c = state_one_call_on (answered_of r d).receiver cs c

-- ---- since setup
module _ (rate offset : Float) (profile : ℤ) (table : List Float) where
  abbrev pub fresh : Receiver
  fresh = (setup_of rate offset profile table).receiver

  -- symbols is the number of dibits delivered, which is the sum of all k, and locked the number delivered under lock
  pub record SinceSetup (cs : List Call) : Type 0 where
    pub delivered : length (dibits_over fresh cs) ≡ count_over fresh cs
    pub symbols : (state_after fresh cs).chain.symbols ≡ length (dibits_over fresh cs)
    pub locked : (state_after fresh cs).chain.locked ≡ length (locked_over fresh cs)

  -- and an accepted call's Snapshot shows both, the call itself among them
  pub record ShownSinceSetup (cs : List Call) (o : Outcome) : Type 0 where
    pub symbols : o.snapshot.symbols ≡ length (dibits_over fresh cs)
    pub locked : o.snapshot.locked_symbols ≡ length (locked_over fresh cs)

  module _ (accepted : (setup_of rate offset profile table).number ≡ 0) where
    none_counted : (fresh.chain.symbols ≡ 0) × (fresh.chain.locked ≡ 0)
    unfolding fresh_receiver
    none_counted =
        let e = (setup_fresh rate offset profile table accepted).receiver in
        (ap (λ (r : Receiver). r.chain.symbols) e, ap (λ (r : Receiver). r.chain.locked) e)

    -- AFTER AN ACCEPTED SETUP, whatever is called
    pub counts_since_setup : (cs : List Call) → SinceSetup cs
    counts_since_setup cs =
        let k = calls_count fresh cs in
        let z = none_counted in
        record { delivered = k.delivered; symbols = k.symbols ∙ from_none _ _ z.0; locked = k.locked ∙ from_none _ _ z.1 }
      where
        from_none : (m n : ℕ) → m ≡ 0 → m + n ≡ n
        from_none m n e = omega arith

    pub shown_since_setup : (cs : List Call) (c : Call) → (answered_of (state_after fresh cs) c).number ≡ 0 → ShownSinceSetup (cs ++ (c ∷ [])) (answered_of (state_after fresh cs) c)
    shown_since_setup cs c h =
        let k = block_counts (state_after fresh cs) c.table c.samples c.rooms h in
        let n = counts_since_setup (cs ++ (c ∷ [])) in
        let e = sym (state_one_call_on fresh cs c) in
        record {
          symbols = k.shown_symbols ∙ ap (λ (r : Receiver). r.chain.symbols) e ∙ n.symbols;
          locked = k.shown_locked ∙ ap (λ (r : Receiver). r.chain.locked) e ∙ n.locked;
        }
