-- A setup: what it gives for each rate, offset, profile and lent table. Definitions only.
use Rattle.std.specs.Prelude.{ℕ, cond, List, eqb, ℤ, length, Float, Result, Ok, Err}
use Rattle.resampler.specs.Dimensions.{sized_of}
use Rattle.resampler.specs.Design.{written_of}
use Rattle.checks.specs.declared.refusal.Refusal.{Refusal}
use Rattle.receiver_state.specs.declared.state.Receiver.{Receiver}
use Rattle.checks.specs.Refusal.{number_of, first_of}
use Rattle.receiver_state.specs.State.{zero_receiver, fresh_front, fresh_receiver}
use Rattle.checks.specs.Checks.{setup_checks}

-- the refusal's number or 0, the state, and the lent table
pub record SetUp : Type 0 where
  pub number : ℕ
  pub receiver : Receiver
  pub table : List Float

-- a refusal stands for the state of zeros
abbrev pub setup_now : Result Receiver Refusal → List Float → SetUp
setup_now (Ok r) table = record { number = 0; receiver = r; table = table }
setup_now (Err e) table = record { number = number_of e; receiver = zero_receiver; table = table }

abbrev pub setup_by : ℕ → Float → Float → ℤ → List Float → SetUp
setup_by number rate offset profile table =
    cond (eqb number 0)
    (record { number = 0; receiver = fresh_receiver (fresh_front rate offset (sized_of rate)) profile; table = written_of (sized_of rate).arm (sized_of rate).rate table })
    (record { number = number; receiver = zero_receiver; table = table })

unfoldable pub setup_of : Float → Float → ℤ → List Float → SetUp
setup_of rate offset profile table = setup_by (first_of (setup_checks rate offset (length table))) rate offset profile table
