-- Any cutting of samples into accepted blocks gives the same dibits, the same reliabilities and the same state. What holds of it stands in proofs/.
use Rattle.std.specs.Prelude.{◌≡◌, true, List, [], ◌∷◌, ◌++◌, ℕ, ◌+◌, ◌%◌, length, Float}
use Rattle.receiver_state.specs.declared.state.Receiver.{Receiver}
use Rattle.receiver.specs.Block.{Rooms, one, Outcome, block_of}
use Rattle.promises.specs.Accepts.{Roomy}
use Rattle.promises.specs.Compose.{delivered_dibits, delivered_bytes, delivered_others, delivered_other_bytes}

-- a part of the samples, and the rooms lent to its call
pub record Part : Type 0 where
  pub samples : List Float
  pub rooms : Rooms

abbrev pub called : Receiver → List Float → Part → Outcome
called r table c = block_of r table c.samples c.rooms

-- what parts give together: the last state, k and overload summed, and what was delivered
pub record Session : Type 0 where
  pub receiver : Receiver
  pub count : ℕ
  pub overload : ℕ
  pub dibits : List ℕ
  pub reliabilities : List ℕ

abbrev pub after : Outcome → Session → Session
after o s = record { receiver = s.receiver; count = o.count + s.count; overload = o.overload + s.overload; dibits = delivered_dibits o ++ s.dibits; reliabilities = delivered_bytes o ++ s.reliabilities }

-- parts one after the other, each from the state that the one before it returned
abbrev pub session_of : Receiver → List Float → List Part → Session
session_of r table [] = record { receiver = r; count = 0; overload = 0; dibits = []; reliabilities = [] }
session_of r table (c ∷ parts) = after (called r table c) (session_of (called r table c).receiver table parts)

-- each of them is accepted
abbrev pub AllAccepted : Receiver → List Float → List Part → Type 0
AllAccepted r table [] = Unit {0}
AllAccepted r table (c ∷ parts) = ((called r table c).number ≡ 0) × AllAccepted (called r table c).receiver table parts

-- all their samples
abbrev pub samples_in : List Part → List Float
samples_in [] = []
samples_in (c ∷ parts) = c.samples ++ samples_in parts

-- ---- the second stream's
abbrev pub AllBoth : List Part → Type 0
AllBoth [] = Unit {0}
AllBoth (c ∷ parts) = (c.rooms.both ≡ true) × AllBoth parts

-- what parts deliver of it
pub record OtherSession : Type 0 where
  pub others : List ℕ
  pub other_reliabilities : List ℕ

abbrev pub others_after : Outcome → OtherSession → OtherSession
others_after o s = record { others = delivered_others o ++ s.others; other_reliabilities = delivered_other_bytes o ++ s.other_reliabilities }

abbrev pub other_session_of : Receiver → List Float → List Part → OtherSession
other_session_of r table [] = record { others = []; other_reliabilities = [] }
other_session_of r table (c ∷ parts) = others_after (called r table c) (other_session_of (called r table c).receiver table parts)

-- parts with an even number of floats each, and rooms that suffice
abbrev pub AllRoomy : List Part → Type 0
AllRoomy [] = Unit {0}
AllRoomy (c ∷ parts) = ((length c.samples % 2 ≡ 0) × Roomy c.samples c.rooms) × AllRoomy parts
