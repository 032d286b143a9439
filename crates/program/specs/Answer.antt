-- What the program answers: a block's lines, and the closing ones. Definitions only.
use Rattle.std.specs.Prelude.{ℕ, ◌*◌, List, replicate, Float, Result, Ok, Err}
use Rattle.chain.specs.declared.ChainPlace.{ChainPlace}
use Rattle.receiver_state.specs.declared.state.Receiver.{Receiver}
use Rattle.checks.specs.declared.refusal.Refusal.{Refusal}
use Rattle.checks.specs.Refusal.{number_of}
use Rattle.receiver.specs.Block.{Rooms, one, Outcome, block_of}
use Rattle.recording.specs.declared.text.Totals.{Totals}
use Rattle.recording.specs.Decode.{floats_of}
use Rattle.recording.specs.Text.{Written, written_of, put, lines_of}
use Rattle.program.specs.declared.answer.Taken.{Taken}

-- a block's refusal or 0, its overload, the receiver after it, and its lines in the text lent
pub record Told : Type 0 where
  pub number : ℕ
  pub overload : ℕ
  pub receiver : Receiver
  pub lines : Written

-- by the answer, and the receiver and the text after the call
abbrev pub told_now : Result Taken Refusal → Receiver → List ℕ → Told
told_now (Ok a) r text = record { number = 0; overload = a.overload; receiver = r; lines = written_of a.end text }
told_now (Err e) r text = record { number = number_of e; overload = 0; receiver = r; lines = written_of 0 text }

-- a line for each dibit, from the text's start on
abbrev pub told_by : Outcome → List ℕ → Told
told_by o text = record { number = o.number; overload = o.overload; receiver = o.receiver; lines = put (lines_of o.dibits o.reliabilities o.count) (written_of 0 text) }

-- room for the dibits of 1,024 samples
abbrev pub lent_rooms : Rooms
lent_rooms = one (replicate 2052 0) (replicate 4104 0)

-- n samples of two floats each
unfoldable pub told_of : Receiver → List Float → List ℕ → ℕ → List ℕ → Told
told_of r table bytes n text = told_by (block_of r table (floats_of (2 * n) bytes) lent_rooms) text

-- dibits delivered, those under lock, whether it is locked now, and overloads
abbrev pub totals_of : ChainPlace → ℕ → Totals
totals_of chain overload = record { symbols = chain.symbols; locked = chain.locked; lock = chain.carrier.turn.locked; overload = overload }
