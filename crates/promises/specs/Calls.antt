-- Blocks called one after the other, each from the state that the one before it returned, refused ones among them: the state that they leave, the dibits that
-- they deliver, and those of them that are delivered under lock. Definitions only.
use Rattle.std.specs.Prelude.{Bool, cond, List, [], ◌∷◌, ◌++◌, ℕ, ◌+◌, eqb, Float, Option}
use Rattle.complex.specs.declared.Complex32.{Complex32}
use Rattle.taps.specs.Taps.{both_tables}
use Rattle.chain.specs.Chain.{ChainState, Step}
use Rattle.chain.specs.Rows.{records_after, slot_at, next_of}
use Rattle.receiver_state.specs.declared.state.Receiver.{Receiver}
use Rattle.receiver.specs.Block.{one, start_of}
use Rattle.promises.specs.Deliveries.{Delivery, delivery_of, values_of}
use Rattle.promises.specs.Compose.{delivered_dibits}
use Rattle.promises.specs.Taken.{Call, answered_of}
use Rattle.answers.specs.declared.soft.Soft.{Soft}

-- the state that calls leave
unfoldable pub state_after : Receiver → List Call → Receiver
state_after r [] = r
state_after r (c ∷ cs) = state_after (answered_of r c).receiver cs

-- the dibits that they deliver, of each call its first k; a refused one has k 0
unfoldable pub dibits_over : Receiver → List Call → List ℕ
dibits_over r [] = []
dibits_over r (c ∷ cs) = delivered_dibits (answered_of r c) ++ dibits_over (answered_of r c).receiver cs

-- and the sum of their k
unfoldable pub count_over : Receiver → List Call → ℕ
count_over r [] = 0
count_over r (c ∷ cs) = (answered_of r c).count + count_over (answered_of r c).receiver cs

-- ---- under lock

-- whether the carrier is locked after a value
abbrev pub is_locked : Step → Bool
is_locked n = n.state.place.carrier.turn.locked

-- what the value delivers is then delivered under lock
abbrev pub locked_delivery : Step → List Delivery
locked_delivery n = cond (is_locked n) (delivery_of n.outcome) []

-- of the chain over values, one after the other
unfoldable pub locked_deliveries : List Float → List Float → List Complex32 → ChainState → List (Option Soft) → List Delivery
locked_deliveries taps derivatives [] s records = []
locked_deliveries taps derivatives (z ∷ values) s records =
    let n = next_of taps derivatives s records z in
    locked_delivery n ++ locked_deliveries taps derivatives values n.state (records_after n.outcome (slot_at s) records)

-- of an accepted block
unfoldable pub locked_deliveries_of : Receiver → List Float → List Float → List Delivery
locked_deliveries_of r table xs = locked_deliveries both_tables.taps both_tables.derivatives (values_of r table xs) (start_of r (one [] [])).lent.state r.records.slots

-- of calls: those of the accepted ones
unfoldable pub locked_over : Receiver → List Call → List Delivery
locked_over r [] = []
locked_over r (c ∷ cs) = cond (eqb (answered_of r c).number 0) (locked_deliveries_of r c.table c.samples) [] ++ locked_over (answered_of r c).receiver cs
