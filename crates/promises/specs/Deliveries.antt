-- What a block delivers: a list that depends on the state, the table and the samples, and not on the rooms. An accepted block lays it at their start. What holds of it stands in proofs/.
use Rattle.std.specs.Prelude.{ℕ, ◌+◌, ◌*◌, drop, Float, Option, None, Some}
use mathlib.Core.List.{List, [], ◌∷◌, ◌++◌}
use Rattle.std.proofs.Math.ListN.{length}
use Rattle.std.proofs.lemmas.List.Edits.{sets}
use Rattle.complex.specs.declared.Complex32.{Complex32}
use Rattle.taps.specs.Taps.{both_tables}
use Rattle.oscillator.specs.Oscillator.{conjugated_of}
use Rattle.chain.specs.Chain as chain
use Rattle.chain.specs.Chain.{ChainState, Outcome as Result, Quiet, Heard}
use Rattle.chain.specs.Rows.{records_after, start, slot_at, next_of}
use Rattle.receiver_state.specs.declared.state.Receiver.{Receiver}
use Rattle.receiver_state.specs.State.{snapshot_of}
use Rattle.samples.specs.Samples.{count_of, overload_of}
use Rattle.run.specs.Run.{front_at, whole_run_of}
use Rattle.receiver.specs.Block.{Rooms, one, start_of, receiver_of, Outcome}
use Rattle.answers.specs.declared.soft.Soft.{Soft}
use Rattle.answers.specs.declared.walk.Dibit.{Dibit}

-- ---- the list

-- a dibit, and the reliabilities of its higher and lower bit
pub record Delivery : Type 0 where
  pub dibit : ℕ
  pub high : ℕ
  pub low : ℕ

abbrev pub answer_delivery : Option Dibit → List Delivery
answer_delivery None = []
answer_delivery (Some d) = record { dibit = d.value; high = d.high; low = d.low } ∷ []

-- what a value delivers of the first stream, and of the second
abbrev pub delivery_of : Result → List Delivery
delivery_of Quiet = []
delivery_of (Heard soft answer other) = answer_delivery answer

abbrev pub other_delivery_of : Result → List Delivery
other_delivery_of Quiet = []
other_delivery_of (Heard soft answer other) = answer_delivery other

-- of the chain over values, one after the other
unfoldable pub delivered_by : (Result → List Delivery) → List Float → List Float → List Complex32 → ChainState → List (Option Soft) → List Delivery
delivered_by pick taps derivatives [] s records = []
delivered_by pick taps derivatives (z ∷ values) s records =
    let n = next_of taps derivatives s records z in
    pick n.outcome ++ delivered_by pick taps derivatives values n.state (records_after n.outcome (slot_at s) records)

abbrev pub deliveries : List Float → List Float → List Complex32 → ChainState → List (Option Soft) → List Delivery
deliveries = delivered_by delivery_of

abbrev pub other_deliveries : List Float → List Float → List Complex32 → ChainState → List (Option Soft) → List Delivery
other_deliveries = delivered_by other_delivery_of

abbrev pub dibits_in : List Delivery → List ℕ
dibits_in [] = []
dibits_in (d ∷ l) = d.dibit ∷ dibits_in l

abbrev pub bytes_in : List Delivery → List ℕ
bytes_in [] = []
bytes_in (d ∷ l) = d.high ∷ d.low ∷ bytes_in l

-- ---- a block: the front's values, what they deliver, and the state that is returned
abbrev pub values_of : Receiver → List Float → List Float → List Complex32
values_of r table xs = (front_at (conjugated_of r.chain.profile) table xs (start_of r (one [] [])) (count_of xs)).values

unfoldable pub deliveries_of : Receiver → List Float → List Float → List Delivery
deliveries_of r table xs = deliveries both_tables.taps both_tables.derivatives (values_of r table xs) (start_of r (one [] [])).lent.state r.records.slots

unfoldable pub other_deliveries_of : Receiver → List Float → List Float → List Delivery
other_deliveries_of r table xs = other_deliveries both_tables.taps both_tables.derivatives (values_of r table xs) (start_of r (one [] [])).lent.state r.records.slots

unfoldable pub after_of : Receiver → List Float → List Float → Receiver
after_of r table xs = receiver_of (r.total + count_of xs) (whole_run_of (conjugated_of r.chain.profile) table xs (start_of r (one [] [])))

-- an accepted block by what it delivers: laid over the rooms' start, and after it what lay there; of the second stream, what its rooms have place for
abbrev pub outcome_of : Receiver → List Float → List Float → Rooms → Outcome
outcome_of r table xs lent =
    let l = deliveries_of r table xs in
    let m = other_deliveries_of r table xs in
    record {
      number = 0;
      receiver = after_of r table xs;
      count = length l;
      overload = overload_of xs;
      snapshot = snapshot_of (after_of r table xs).chain;
      dibits = dibits_in l ++ drop (length l) lent.dibits;
      reliabilities = bytes_in l ++ drop (2 * length l) lent.reliabilities;
      others = sets lent.others 0 (dibits_in m);
      other_reliabilities = sets lent.other_reliabilities 0 (bytes_in m);
    }
