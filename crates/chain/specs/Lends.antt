-- What the chain is lent, by the names of its parameters: each is a type that computes to the clause written out. Definitions only.
use Rattle.std.specs.Prelude.{ℕ, List, Float}
use Rattle.std.specs.Borrow.{MutBor}
use denote.Triple.Both.{Both}
use Rattle.laws.specs.Lent.{NowMut, LendsMut}
use Rattle.decisions.specs.Decisions as Decisions
use Rattle.second.specs.Second.{second_of}
use Rattle.delivery.specs.declared.Delivered.{Delivered}
use Rattle.delivery.specs.Delivery as Delivery
use Rattle.delivery.specs.Delivery.{Room}
use Rattle.chain.specs.declared.ChainPlanes.{ChainPlanes}
use Rattle.chain.specs.declared.DecisionsPlanes.{DecisionsPlanes}
use Rattle.chain.specs.declared.Chained.{Chained}
use Rattle.chain.specs.declared.later.LaterPlace.{LaterPlace}
use Rattle.chain.specs.Chain.{state_of}
use Rattle.chain.specs.Rows.{Lent}
use Rattle.chain.specs.Later.{Later}

-- ---- delivery with both rooms: the stage with the first's, and the second's, as they are given and as they are left
module _ (t : Delivered) (dibits reliabilities others other_reliabilities : NowMut ℕ) where
  abbrev pub GivenRooms : (Delivery.Lent → Room → Type 0) → Type 0
  GivenRooms P =
      P
      (record { place = t.place; room = record { dibits = dibits.now; reliabilities = reliabilities.now; written = t.written } })
      (record { dibits = others.now; reliabilities = other_reliabilities.now; written = t.written })

module _ (t r : Delivered) (dibits reliabilities others other_reliabilities : LendsMut ℕ) where
  abbrev pub LeavesRooms : (Delivery.Lent → Room → Delivery.Lent → Room → Type 0) → Type 0
  LeavesRooms Q =
      Q
      (record { place = t.place; room = record { dibits = dibits.entry.now; reliabilities = reliabilities.entry.now; written = t.written } })
      (record { dibits = others.entry.now; reliabilities = other_reliabilities.entry.now; written = t.written })
      (record { place = r.place; room = record { dibits = dibits.exit.now; reliabilities = reliabilities.exit.now; written = r.written } })
      (record { dibits = others.exit.now; reliabilities = other_reliabilities.exit.now; written = r.written })

-- ---- the later stages, as they are given and as they are left
abbrev pub later_now : LaterPlace → DecisionsPlanes → List Float → List ℕ → List ℕ → List ℕ → List ℕ → List ℕ → Later
later_now t planes memory ancestors ds rs es qs = record {
  state = Decisions.state_of t.decided.place planes.channels.real planes.channels.imaginary planes.costs planes.parents planes.view.real planes.view.imaginary;
  records = t.decided.records.slots;
  second = second_of t.second memory ancestors;
  delivery = record { place = t.delivered.place; room = record { dibits = ds; reliabilities = rs; written = t.delivered.written } };
  other = record { dibits = es; reliabilities = qs; written = t.delivered.written };
}

module _ (t : LaterPlace) (planes : MutBor DecisionsPlanes) (memory : NowMut Float) (ancestors dibits reliabilities others other_reliabilities : NowMut ℕ) where
  abbrev pub GivenLater : (Later → Type 0) → Type 0
  GivenLater P = P (later_now t planes.now memory.now ancestors.now dibits.now reliabilities.now others.now other_reliabilities.now)

module _ (t r : LaterPlace) (planes : Both (MutBor DecisionsPlanes) (MutBor DecisionsPlanes)) (memory : LendsMut Float) (ancestors dibits reliabilities others other_reliabilities : LendsMut ℕ) where
  abbrev pub LeavesLater : (Later → Later → Type 0) → Type 0
  LeavesLater Q =
      Q
      (later_now t planes.entry.now memory.entry.now ancestors.entry.now dibits.entry.now reliabilities.entry.now others.entry.now other_reliabilities.entry.now)
      (later_now r planes.exit.now memory.exit.now ancestors.exit.now dibits.exit.now reliabilities.exit.now others.exit.now other_reliabilities.exit.now)

-- ---- the chain with its soft records and its rooms, as it is given and as it is left
abbrev pub lent_now : Chained → ChainPlanes → List Float → List ℕ → List ℕ → List ℕ → List ℕ → List ℕ → Lent
lent_now t planes memory ancestors ds rs es qs = record {
  state = state_of t.place planes (second_of t.second memory ancestors);
  records = t.records.slots;
  room = record { dibits = ds; reliabilities = rs; written = t.written };
  other = record { dibits = es; reliabilities = qs; written = t.written };
}

module _ (t : Chained) (planes : MutBor ChainPlanes) (memory : NowMut Float) (ancestors dibits reliabilities others other_reliabilities : NowMut ℕ) where
  abbrev pub Given : (Lent → Type 0) → Type 0
  Given P = P (lent_now t planes.now memory.now ancestors.now dibits.now reliabilities.now others.now other_reliabilities.now)

module _ (t r : Chained) (planes : Both (MutBor ChainPlanes) (MutBor ChainPlanes)) (memory : LendsMut Float) (ancestors dibits reliabilities others other_reliabilities : LendsMut ℕ) where
  abbrev pub Leaves : (Lent → Lent → Type 0) → Type 0
  Leaves Q =
      Q
      (lent_now t planes.entry.now memory.entry.now ancestors.entry.now dibits.entry.now reliabilities.entry.now others.entry.now other_reliabilities.entry.now)
      (lent_now r planes.exit.now memory.exit.now ancestors.exit.now dibits.exit.now reliabilities.exit.now others.exit.now other_reliabilities.exit.now)
