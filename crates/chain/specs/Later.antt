-- The later stages over a row of symbols, symbol by symbol: both streams decide, and what both answer is delivered. Definitions only.
use Rattle.std.specs.Prelude.{◌≡◌, ℕ, Bool, true, false, List, get_or, set, Float, Option}
use Rattle.laws.specs.Turns.{turns}
use Rattle.complex.specs.declared.Complex32.{Complex32}
use Rattle.complex.specs.Planes.{point_at}
use Rattle.answers.specs.declared.soft.Soft.{Soft}
use Rattle.answers.specs.Observed.{record_before}
use Rattle.answer_row.specs.AnswerRow.{is_dibit}
use Rattle.recovery.specs.Recovery as Recovery
use Rattle.decisions.specs.Decisions as Decisions
use Rattle.decisions.specs.Rows as Decided
use Rattle.decisions.specs.Ranges as DecisionsRanges
use Rattle.second.specs.Second as Second
use Rattle.second.specs.Second.{SecondState, other_of}
use Rattle.second.specs.Ranges as SecondRanges
use Rattle.delivery.specs.Delivery as Delivery
use Rattle.delivery.specs.Delivery.{paired_of, Room, noted_in}
use Rattle.delivery.specs.Ranges as DeliveryRanges
use Rattle.chain.specs.Chain.{decisions_of, delivery_of, joined_of}
use Rattle.chain.specs.Rows.{Lent}
use Rattle.chain.specs.Ranges.{RoomyToo}

-- what they have, with no row between them
pub record Later : Type 0 where
  pub state : Decisions.DecisionsState
  pub records : List (Option Soft)
  pub second : SecondState
  pub delivery : Delivery.Lent
  pub other : Room

-- what is lent, with the stages apart
abbrev pub later_of : Lent → Later
later_of l = record { state = decisions_of l.state; records = l.records; second = l.state.second; delivery = record { place = delivery_of l.state.place; room = l.room }; other = l.other }

abbrev pub joined_lent : Recovery.RecoveryState → Later → Lent
joined_lent r l = record { state = joined_of r l.state l.second l.delivery.place; records = l.records; room = l.delivery.room; other = l.other }

abbrev pub said_with : Later → Decisions.Step → Second.Step → Later
said_with l first second = record {
  state = first.state;
  records = set l.records (Decided.slot_at l.state) first.soft;
  second = second.state;
  delivery = Delivery.delivered_of l.delivery (paired_of first.answer (is_dibit second.answer)) (Decisions.locked_of first.state);
  other = noted_in l.delivery.place.profile l.other (paired_of second.answer (is_dibit first.answer));
}

-- a symbol decided by both, and what both answer delivered
unfoldable pub said_of : Later → Complex32 → Bool → Later
said_of l z sure =
    let first = Decisions.decided_of l.state z sure (record_before l.records (Decided.slot_at l.state)) in
    said_with l first (other_of l.second first.answer z sure)

-- the first n symbols of a row
unfoldable pub said_row : List Float → List Float → List Bool → ℕ → Later → Later
said_row real imaginary reliable n l = turns (λ k l. said_of l (point_at (record { real = real; imaginary = imaginary }) k) (get_or reliable k false)) n l

-- n symbols more can be taken
pub record Asks (both : Bool) (n : ℕ) (l : Later) : Type 0 where
  pub state : DecisionsRanges.Ranged l.state
  pub second : l.second.enabled ≡ true → SecondRanges.Ranged l.second
  pub delivery : DeliveryRanges.Asks n l.delivery
  pub other : RoomyToo both n l.other
