-- What a block delivers: a list that depends on the state, the table and the samples, and not on the rooms. An accepted block lays it at their start. Assumes nothing.
use Rattle.std.specs.Prelude.{◌≡◌, Bool, ℕ, ◌+◌, ◌*◌, ◌≤◌, eqb, drop, Option, Some, None, Float}
use Rattle.std.proofs.Math.Path.{refl, sym, ap}
use Rattle.std.proofs.Common.{◌∙◌, eqb-true}
use Rattle.std.proofs.Math.Bool.{true, false}
use mathlib.Core.List.{List, [], ◌∷◌, ◌++◌, append_assoc, append-nil}
use native.Mathlib.Omega.{arith}
use Rattle.std.proofs.Math.ListN.{length, length-append}
use Rattle.std.proofs.lemmas.List.Edits.{sets, sets-eq}
use Rattle.complex.specs.declared.Complex32.{Complex32}
use Rattle.taps.specs.Taps.{both_tables}
use Rattle.answers.specs.declared.soft.Soft.{Soft}
use Rattle.answers.specs.declared.walk.Dibit.{Dibit}
use Rattle.answers.specs.Observed.{record_before}
use Rattle.answer_row.specs.AnswerRow.{is_dibit}
use Rattle.labels.specs.Labels.{rearranges, labelled_of}
use Rattle.recovery.specs.declared.step.Found.{Found}
use Rattle.recovery.specs.Recovery as recovery
use Rattle.decisions.specs.Decisions as decisions
use Rattle.second.specs.Second.{SecondState, other_of}
use Rattle.delivery.specs.declared.DeliveryPlace.{DeliveryPlace}
use Rattle.delivery.specs.Delivery as delivery
use Rattle.delivery.specs.Delivery.{paired_of, answer_dibits, answer_pair}
use Rattle.oscillator.specs.Oscillator.{conjugated_of}
use Rattle.chain.specs.Chain as chain
use Rattle.chain.specs.Chain.{ChainState, recovery_of, decisions_of, Outcome as Result, Quiet, Heard, heard_of, stepped_of}
use Rattle.chain.specs.Rows.{dibits_of, pair_of, others_of, other_pair_of, records_after, Told, start, slot_at, next_of, told, ran_of, Room, laid_in, chain_of}
use Rattle.receiver_state.specs.declared.state.Receiver.{Receiver}
use Rattle.receiver_state.specs.State.{snapshot_of}
use Rattle.samples.specs.Samples.{count_of, overload_of}
use Rattle.run.specs.Run.{whole_run_of}
use Rattle.run.specs.Delivered.{values_most}
use Rattle.receiver.specs.Accepted.{ready_block}
use Rattle.checks.specs.Checks.{Judged, judged_by, stated_of}
use Rattle.receiver.specs.Admitted.{judged_of}
use Rattle.receiver.specs.Block.{Rooms, one, dibit_room, reliability_room, start_of, Outcome, accepted_of, block_by, block_of}
use Rattle.receiver.proofs.BlockLaws.{room_in}
use Rattle.promises.specs.Deliveries.{Delivery, after_of, answer_delivery, bytes_in, delivered_by, deliveries, deliveries_of, delivery_of, dibits_in, other_deliveries, other_deliveries_of, other_delivery_of, outcome_of, values_of}

-- ---- laws of the list
pub length_dibits : (l : List Delivery) → length (dibits_in l) ≡ length l
length_dibits [] = refl
length_dibits (d ∷ l) = let e = length_dibits l in omega arith

pub length_bytes : (l : List Delivery) → length (bytes_in l) ≡ 2 * length l
length_bytes [] = refl
length_bytes (d ∷ l) = let e = length_bytes l in omega arith

pub dibits_append : (l m : List Delivery) → dibits_in (l ++ m) ≡ dibits_in l ++ dibits_in m
dibits_append [] m = refl
dibits_append (d ∷ l) m = ap (λ (k : List ℕ). d.dibit ∷ k) (dibits_append l m)

pub bytes_append : (l m : List Delivery) → bytes_in (l ++ m) ≡ bytes_in l ++ bytes_in m
bytes_append [] m = refl
bytes_append (d ∷ l) m = ap (λ (k : List ℕ). d.high ∷ d.low ∷ k) (bytes_append l m)

-- of an answer
dibits_one : (a : Option Dibit) → dibits_in (answer_delivery a) ≡ answer_dibits a
dibits_one None = refl
dibits_one (Some d) = refl

bytes_one : (a : Option Dibit) → bytes_in (answer_delivery a) ≡ answer_pair a
bytes_one None = refl
bytes_one (Some d) = refl

-- a pick gives one delivery at most
abbrev pub AtMostOne : (Result → List Delivery) → Type 0
AtMostOne pick = (o : Result) → length (pick o) ≤ 1

answer_one : (a : Option Dibit) → length (answer_delivery a) ≤ 1
answer_one None = omega arith
answer_one (Some d) = omega arith

pub first_one : AtMostOne delivery_of
first_one Quiet = omega arith
first_one (Heard soft answer other) = answer_one answer

pub other_one : AtMostOne other_delivery_of
other_one Quiet = omega arith
other_one (Heard soft answer other) = answer_one other

-- ---- the chain tells its deliveries
module _ (taps derivatives : List Float) where
  -- a list that grows with each value by what its outcome has of it is what was delivered, written down
  module _ (field : Told → List ℕ) (part : Result → List ℕ) (pick : Result → List Delivery) (laid : List Delivery → List ℕ)
      (grows : (t : Told) (z : Complex32) → field (told taps derivatives t z) ≡ field t ++ part (next_of taps derivatives t.state t.records z).outcome)
      (none : laid [] ≡ []) (joins : (l m : List Delivery) → laid (l ++ m) ≡ laid l ++ laid m) (is : (o : Result) → laid (pick o) ≡ part o) where
    told_all : (values : List Complex32) (t : Told) → field (ran_of taps derivatives values t) ≡ field t ++ laid (delivered_by pick taps derivatives values t.state t.records)
    unfolding ran_of told delivered_by
    told_all [] t = sym (append-nil (field t)) ∙ ap (λ (l : List ℕ). field t ++ l) (sym none)
    told_all (z ∷ values) t =
        let n = next_of taps derivatives t.state t.records z in
        let rest = delivered_by pick taps derivatives values n.state (records_after n.outcome (slot_at t.state) t.records) in
        told_all values (told taps derivatives t z)
        ∙ ap (λ (l : List ℕ). l ++ laid rest) (grows t z)
        ∙ append_assoc (field t) (part n.outcome) (laid rest)
        ∙ ap (λ (l : List ℕ). field t ++ l) (ap (λ (l : List ℕ). l ++ laid rest) (sym (is n.outcome)) ∙ sym (joins (pick n.outcome) rest))

  told_dibits : (values : List Complex32) (t : Told) → (ran_of taps derivatives values t).dibits ≡ t.dibits ++ dibits_in (deliveries taps derivatives values t.state t.records)
  unfolding told
  told_dibits = told_all (λ t. t.dibits) dibits_of delivery_of dibits_in (λ t z. refl) refl dibits_append dibits_are
    where
      dibits_are : (o : Result) → dibits_in (delivery_of o) ≡ dibits_of o
      dibits_are Quiet = refl
      dibits_are (Heard soft answer other) = dibits_one answer

  told_bytes : (values : List Complex32) (t : Told) → (ran_of taps derivatives values t).reliabilities ≡ t.reliabilities ++ bytes_in (deliveries taps derivatives values t.state t.records)
  unfolding told
  told_bytes = told_all (λ t. t.reliabilities) pair_of delivery_of bytes_in (λ t z. refl) refl bytes_append bytes_are
    where
      bytes_are : (o : Result) → bytes_in (delivery_of o) ≡ pair_of o
      bytes_are Quiet = refl
      bytes_are (Heard soft answer other) = bytes_one answer

  told_others : (values : List Complex32) (t : Told) → (ran_of taps derivatives values t).others ≡ t.others ++ dibits_in (other_deliveries taps derivatives values t.state t.records)
  unfolding told
  told_others = told_all (λ t. t.others) others_of other_delivery_of dibits_in (λ t z. refl) refl dibits_append others_are
    where
      others_are : (o : Result) → dibits_in (other_delivery_of o) ≡ others_of o
      others_are Quiet = refl
      others_are (Heard soft answer other) = dibits_one other

  told_other_bytes : (values : List Complex32) (t : Told)
      → (ran_of taps derivatives values t).other_reliabilities ≡ t.other_reliabilities ++ bytes_in (other_deliveries taps derivatives values t.state t.records)
  unfolding told
  told_other_bytes = told_all (λ t. t.other_reliabilities) other_pair_of other_delivery_of bytes_in (λ t z. refl) refl bytes_append other_bytes_are
    where
      other_bytes_are : (o : Result) → bytes_in (other_delivery_of o) ≡ other_pair_of o
      other_bytes_are Quiet = refl
      other_bytes_are (Heard soft answer other) = bytes_one other

  -- one a value at most
  at_most_one_each : (pick : Result → List Delivery) → AtMostOne pick → (values : List Complex32) (s : ChainState) (records : List (Option Soft)) → length (delivered_by pick taps derivatives values s records) ≤ length values
  unfolding delivered_by
  at_most_one_each pick single [] s records = omega arith
  at_most_one_each pick single (z ∷ values) s records =
      let n = next_of taps derivatives s records z in
      let a = single n.outcome in
      let b = at_most_one_each pick single values n.state (records_after n.outcome (slot_at s) records) in
      simp length-append (omega arith)

  -- as many of the second stream as of the first: a dibit is delivered only where both answer
  step_as_many : (s : ChainState) (records : List (Option Soft)) (z : Complex32) → length (other_delivery_of (next_of taps derivatives s records z).outcome) ≡ length (delivery_of (next_of taps derivatives s records z).outcome)
  unfolding stepped_of
  step_as_many s records z =
      let k = recovery.stepped_of taps derivatives (recovery_of s) z in
      heard k.found k.state (decisions_of s) s.second (chain.delivery_of s.place) (record_before records (slot_at s))
    where
      labelled : (a b : Option Dibit) (c : Bool) → length (answer_delivery (labelled_of c (paired_of b (is_dibit a)))) ≡ length (answer_delivery (labelled_of c (paired_of a (is_dibit b))))
      labelled None None c = refl
      labelled None (Some e) c = refl
      labelled (Some d) None c = refl
      labelled (Some d) (Some e) true = refl
      labelled (Some d) (Some e) false = refl

      heard : (f : Option Found) (r : recovery.RecoveryState) (d : decisions.DecisionsState) (q : SecondState) (p : DeliveryPlace) (oldest : Option Soft)
          → length (other_delivery_of (heard_of f r d q p oldest).outcome) ≡ length (delivery_of (heard_of f r d q p oldest).outcome)
      heard None r d q p oldest = unfold heard_of in refl
      heard (Some found) r d q p oldest =
          unfold heard_of in unfold delivery.told_of in
          (let first = decisions.decided_of d found.symbol found.reliable oldest in labelled first.answer (other_of q first.answer found.symbol found.reliable).answer (rearranges p.profile))

  pub as_many : (values : List Complex32) (s : ChainState) (records : List (Option Soft)) → length (other_deliveries taps derivatives values s records) ≡ length (deliveries taps derivatives values s records)
  unfolding delivered_by
  as_many [] s records = refl
  as_many (z ∷ values) s records =
      let n = next_of taps derivatives s records z in
      let rest = records_after n.outcome (slot_at s) records in
      length-append (other_delivery_of n.outcome) (other_deliveries taps derivatives values n.state rest)
      ∙ (λ i. step_as_many s records z i + as_many values n.state rest i)
      ∙ sym (length-append (delivery_of n.outcome) (deliveries taps derivatives values n.state rest))

-- THE LAW of the chain: what it leaves in each room is what that stream delivers, put there from the first place that is not written on
module _ (values : List Complex32) (s : ChainState) (records : List (Option Soft)) (room other : Room) where
  pub chain_lays : (chain_of values s records room other).room
      ≡ laid_in room (dibits_in (deliveries both_tables.taps both_tables.derivatives values s records)) (bytes_in (deliveries both_tables.taps both_tables.derivatives values s records))
  unfolding chain_of
  chain_lays =
      let a = told_dibits both_tables.taps both_tables.derivatives values (start s records) in
      let b = told_bytes both_tables.taps both_tables.derivatives values (start s records) in
      λ i. laid_in room (a i) (b i)

  pub chain_lays_others : (chain_of values s records room other).other
      ≡ laid_in other (dibits_in (other_deliveries both_tables.taps both_tables.derivatives values s records)) (bytes_in (other_deliveries both_tables.taps both_tables.derivatives values s records))
  unfolding chain_of
  chain_lays_others =
      let a = told_others both_tables.taps both_tables.derivatives values (start s records) in
      let b = told_other_bytes both_tables.taps both_tables.derivatives values (start s records) in
      λ i. laid_in other (a i) (b i)

-- ---- the block
pub total_after : (r : Receiver) (table xs : List Float) → (after_of r table xs).total ≡ r.total + count_of xs
unfolding after_of
total_after r table xs = refl

-- k is at most 2n
pub delivered_few : (r : Receiver) (table xs : List Float) → length (deliveries_of r table xs) ≤ 2 * count_of xs
unfolding deliveries_of
delivered_few r table xs =
    let a = at_most_one_each both_tables.taps both_tables.derivatives delivery_of first_one (values_of r table xs) (start_of r (one [] [])).lent.state r.records.slots in
    let b : length (values_of r table xs) ≤ 0 + 2 * count_of xs = values_most (conjugated_of r.chain.profile) table xs (count_of xs) (record { rung = (start_of r (one [] [])).rung; values = [] }) in
    omega arith

pub as_many_delivered : (r : Receiver) (table xs : List Float) → length (other_deliveries_of r table xs) ≡ length (deliveries_of r table xs)
unfolding deliveries_of other_deliveries_of
as_many_delivered r table xs = as_many both_tables.taps both_tables.derivatives (values_of r table xs) (start_of r (one [] [])).lent.state r.records.slots

-- the number that a block answers is that of its checks
pub number_is : (r : Receiver) (table xs : List Float) (lent : Rooms) → (block_of r table xs lent).number ≡ (judged_of r xs (length table) (dibit_room lent) (reliability_room lent)).number
unfolding block_of accepted_of
number_is r table xs lent = go (judged_of r xs (length table) (dibit_room lent) (reliability_room lent)) (eqb (judged_of r xs (length table) (dibit_room lent) (reliability_room lent)).number 0) refl
  where
    go : (j : Judged) (b : Bool) → eqb j.number 0 ≡ b → (block_by j r table xs lent).number ≡ j.number
    go j true e = rw e (sym (eqb-true j.number 0 e))
    go j false e = rw e

accepted_so : (number : ℕ) (r : Receiver) (table xs : List Float) (lent : Rooms) → number ≡ 0 → block_by (judged_by number xs) r table xs lent ≡ accepted_of r table xs (overload_of xs) lent
accepted_so number r table xs lent e = rw e

pub laid_front : (vs l : List ℕ) (k : ℕ) → length vs ≡ k → k ≤ length l → sets l 0 vs ≡ vs ++ drop k l
laid_front vs l k e h =
    let m : 0 + length vs ≡ k = omega arith in
    sets-eq vs l 0 (omega arith) ∙ ap (λ (j : ℕ). vs ++ drop j l) m

laid : (r : Receiver) (table xs : List Float) (lent : Rooms) → length (deliveries_of r table xs) ≤ length lent.dibits → 2 * length (deliveries_of r table xs) ≤ length lent.reliabilities
    → accepted_of r table xs (overload_of xs) lent ≡ outcome_of r table xs lent
unfolding accepted_of whole_run_of chain_of deliveries_of other_deliveries_of after_of
laid r table xs lent h k =
    let l = deliveries_of r table xs in
    let a = length_dibits l in
    let from = (start_of r lent).lent in
    let e = chain_lays (values_of r table xs) from.state r.records.slots from.room from.other in
    let f = chain_lays_others (values_of r table xs) from.state r.records.slots from.room from.other in
    let count : 0 + length (dibits_in l) ≡ length l = omega arith in
    let dibits = laid_front (dibits_in l) lent.dibits (length l) a h in
    let reliabilities = laid_front (bytes_in l) lent.reliabilities (2 * length l) (length_bytes l) k in
    (λ i. outcome_with (e i).written (e i).dibits (e i).reliabilities (f i).dibits (f i).reliabilities)
    ∙ (λ i. outcome_with (count i) (dibits i) (reliabilities i) (sets lent.others 0 (dibits_in (other_deliveries_of r table xs))) (sets lent.other_reliabilities 0 (bytes_in (other_deliveries_of r table xs))))
  where
    outcome_with : ℕ → List ℕ → List ℕ → List ℕ → List ℕ → Outcome
    outcome_with n es qs gs us = record {
      number = 0;
      receiver = after_of r table xs;
      count = n;
      overload = overload_of xs;
      snapshot = snapshot_of (after_of r table xs).chain;
      dibits = es;
      reliabilities = qs;
      others = gs;
      other_reliabilities = us;
    }

-- the rooms of an accepted block hold what it delivers
pub delivered_fits : (r : Receiver) (table xs : List Float) (lent : Rooms) → (block_of r table xs lent).number ≡ 0
    → (length (deliveries_of r table xs) ≤ length lent.dibits) × (2 * length (deliveries_of r table xs) ≤ length lent.reliabilities)
delivered_fits r table xs lent h =
    let k = ready_block r table xs (dibit_room lent) (reliability_room lent) (sym (number_is r table xs lent) ∙ h) in
    let a = (room_in lent.both (length lent.dibits) (length lent.others) _ k.dibits_in).0 in
    let b = (room_in lent.both (length lent.reliabilities) (length lent.other_reliabilities) _ k.reliabilities_in).0 in
    let c = delivered_few r table xs in
    (omega arith, omega arith)

-- and so do the second stream's, where they are lent
pub others_fit : (r : Receiver) (table xs : List Float) (lent : Rooms) → (block_of r table xs lent).number ≡ 0 → lent.both ≡ true
    → (length (other_deliveries_of r table xs) ≤ length lent.others) × (2 * length (other_deliveries_of r table xs) ≤ length lent.other_reliabilities)
others_fit r table xs lent h t =
    let k = ready_block r table xs (dibit_room lent) (reliability_room lent) (sym (number_is r table xs lent) ∙ h) in
    let a = (room_in lent.both (length lent.dibits) (length lent.others) _ k.dibits_in).1 t in
    let b = (room_in lent.both (length lent.reliabilities) (length lent.other_reliabilities) _ k.reliabilities_in).1 t in
    let c = delivered_few r table xs in
    let d = as_many_delivered r table xs in
    (omega arith, omega arith)

-- THE LAW of the block: an accepted block by what it delivers
pub accepted_is : (r : Receiver) (table xs : List Float) (lent : Rooms) → (block_of r table xs lent).number ≡ 0 → block_of r table xs lent ≡ outcome_of r table xs lent
unfolding block_of stated_of
accepted_is r table xs lent h =
    let k = delivered_fits r table xs lent h in
    accepted_so _ r table xs lent (sym (number_is r table xs lent) ∙ h) ∙ laid r table xs lent k.0 k.1
