-- A block: what it gives for each state, table, samples and lent rooms, of one stream or of both. Definitions only.
use Rattle.std.specs.Prelude.{◌≡◌, ℕ, ◌+◌, min, Bool, true, false, cond, List, [], eqb, length, Float, Result, Ok, Err}
use Rattle.oscillator.specs.Oscillator.{conjugated_of}
use Rattle.second.specs.Second.{second_of, joined_of}
use Rattle.chain.specs.Chain.{state_of, planes_now}
use Rattle.checks.specs.declared.refusal.Refusal.{Refusal}
use Rattle.receiver_state.specs.declared.state.Receiver.{Receiver}
use Rattle.receiver_state.specs.declared.state.Snapshot.{Snapshot}
use Rattle.receiver.specs.declared.block.Block.{Block}
use Rattle.receiver_state.specs.State.{zero_snapshot, snapshot_of}
use Rattle.run.specs.Run.{Whole, whole_run_of}
use Rattle.checks.specs.Refusal.{number_of}
use Rattle.samples.specs.Samples.{count_of}
use Rattle.checks.specs.Checks.{Judged}
use Rattle.receiver.specs.Admitted.{judged_of}

-- ---- the rooms that a call is lent

-- the one-stream call lends none to the second stream
pub record Rooms : Type 0 where
  pub dibits : List ℕ
  pub reliabilities : List ℕ
  pub both : Bool
  pub others : List ℕ
  pub other_reliabilities : List ℕ

abbrev pub rooms_of : Bool → List ℕ → List ℕ → List ℕ → List ℕ → Rooms
rooms_of both ds rs es qs = record { dibits = ds; reliabilities = rs; both = both; others = es; other_reliabilities = qs }

abbrev pub one : List ℕ → List ℕ → Rooms
one ds rs = rooms_of false ds rs [] []

abbrev pub two : List ℕ → List ℕ → List ℕ → List ℕ → Rooms
two ds rs es qs = rooms_of true ds rs es qs

pub record NoneLent (o : Rooms) : Type 0 where
  pub no_dibits : o.both ≡ false → o.others ≡ []
  pub no_reliabilities : o.both ≡ false → o.other_reliabilities ≡ []

-- what check 6 looks at: the shorter of the two rooms, where both streams are asked for
abbrev pub room_of : Bool → ℕ → ℕ → ℕ
room_of both first other = cond both (min first other) first

abbrev pub dibit_room : Rooms → ℕ
dibit_room o = room_of o.both (length o.dibits) (length o.others)

abbrev pub reliability_room : Rooms → ℕ
reliability_room o = room_of o.both (length o.reliabilities) (length o.other_reliabilities)

-- ---- an accepted block: the front over all samples, and the chain over all its values

-- with these floats in the place of the second stream's
abbrev pub start_with : Receiver → List Float → Rooms → Whole
start_with r memory o = record {
  rung = record { place = r.front; real = r.ring.real; imaginary = r.ring.imaginary };
  lent = record {
    state = state_of r.chain r.planes (second_of r.second memory r.ancestors);
    records = r.records.slots;
    room = record { dibits = o.dibits; reliabilities = o.reliabilities; written = 0 };
    other = record { dibits = o.others; reliabilities = o.other_reliabilities; written = 0 };
  };
  from = 0;
}

abbrev pub start_of : Receiver → Rooms → Whole
start_of r o = start_with r r.memory o

abbrev pub receiver_with : ℕ → Whole → List Float → Receiver
receiver_with total w memory = record {
  total = total;
  front = w.rung.place;
  chain = w.lent.state.place;
  records = record { slots = w.lent.records };
  ring = record { real = w.rung.real; imaginary = w.rung.imaginary };
  planes = planes_now w.lent.state;
  second = record { enabled = w.lent.state.second.enabled; carrier = w.lent.state.second.carrier; records = record { slots = w.lent.state.second.records } };
  memory = memory;
  ancestors = w.lent.state.second.parents;
}

abbrev pub floats_of : Whole → List Float
floats_of w = joined_of w.lent.state.second.memory w.lent.state.second.costs

abbrev pub receiver_of : ℕ → Whole → Receiver
receiver_of total w = receiver_with total w (floats_of w)

-- the refusal's number or 0, the state, k, the overload, the snapshot, and the lent rooms
pub record Outcome : Type 0 where
  pub number : ℕ
  pub receiver : Receiver
  pub count : ℕ
  pub overload : ℕ
  pub snapshot : Snapshot
  pub dibits : List ℕ
  pub reliabilities : List ℕ
  pub others : List ℕ
  pub other_reliabilities : List ℕ

-- by the answer, and the state and the rooms after the call
abbrev pub outcome_now : Result Block Refusal → Receiver → List ℕ → List ℕ → List ℕ → List ℕ → Outcome
outcome_now (Ok b) r ds rs es qs = record {
  number = 0;
  receiver = r;
  count = b.count;
  overload = b.overload;
  snapshot = b.snapshot;
  dibits = ds;
  reliabilities = rs;
  others = es;
  other_reliabilities = qs;
}
outcome_now (Err e) r ds rs es qs = record {
  number = number_of e;
  receiver = r;
  count = 0;
  overload = 0;
  snapshot = zero_snapshot;
  dibits = ds;
  reliabilities = rs;
  others = es;
  other_reliabilities = qs;
}

abbrev pub ended_with : ℕ → ℕ → Whole → List Float → Outcome
ended_with total overload w memory = record {
  number = 0;
  receiver = receiver_with total w memory;
  count = w.lent.room.written;
  overload = overload;
  snapshot = snapshot_of w.lent.state.place;
  dibits = w.lent.room.dibits;
  reliabilities = w.lent.room.reliabilities;
  others = w.lent.other.dibits;
  other_reliabilities = w.lent.other.reliabilities;
}

abbrev pub ended_of : ℕ → ℕ → Whole → Outcome
ended_of total overload w = ended_with total overload w (floats_of w)

unfoldable pub accepted_of : Receiver → List Float → List Float → ℕ → Rooms → Outcome
accepted_of r table xs overload o = ended_of (r.total + count_of xs) overload (whole_run_of (conjugated_of r.chain.profile) table xs (start_of r o))

-- ---- a refused one: everything as it was

abbrev pub refused_of : ℕ → Receiver → Rooms → Outcome
refused_of number r o = record {
  number = number;
  receiver = r;
  count = 0;
  overload = 0;
  snapshot = zero_snapshot;
  dibits = o.dibits;
  reliabilities = o.reliabilities;
  others = o.others;
  other_reliabilities = o.other_reliabilities;
}

-- ---- either, by the checks

abbrev pub block_by : Judged → Receiver → List Float → List Float → Rooms → Outcome
block_by j r table xs o = cond (eqb j.number 0) (accepted_of r table xs j.overload o) (refused_of j.number r o)

unfoldable pub block_of : Receiver → List Float → List Float → Rooms → Outcome
block_of r table xs o = block_by (judged_of r xs (length table) (dibit_room o) (reliability_room o)) r table xs o
