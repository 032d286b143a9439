-- The outcome that a call's contract speaks of holds what the call's answer tells, accepted or refused. Assumes nothing.
use Rattle.std.specs.Prelude.{◌≡◌, refl, ℕ, List, Float, Result, Ok, Err}
use Rattle.checks.specs.declared.refusal.Refusal.{Refusal}
use Rattle.checks.specs.Refusal.{verdict_of}
use Rattle.receiver_state.specs.declared.state.Receiver.{Receiver}
use Rattle.receiver.specs.declared.block.Block.{Block}
use Rattle.receiver.specs.declared.reading.Points.{Points}
use Rattle.receiver.specs.Setup.{SetUp, setup_now}
use Rattle.receiver.specs.Block.{Outcome, outcome_now}
use Rattle.receiver.specs.Reading.{Reading, points_now}
use Rattle.receiver.specs.Told.{state_told, block_told, points_told}

pub setup_tells : (x : Result Receiver Refusal) (table : List Float) → ◌≡◌ {A = SetUp} (record { number = verdict_of x; receiver = state_told x; table = table }) (setup_now x table)
setup_tells (Ok r) table = refl
setup_tells (Err e) table = refl

pub block_tells : (x : Result Block Refusal) (r : Receiver) (ds rs es qs : List ℕ)
    → ◌≡◌ {A = Outcome} (record {
      number = verdict_of x;
      receiver = r;
      count = (block_told x).count;
      overload = (block_told x).overload;
      snapshot = (block_told x).snapshot;
      dibits = ds;
      reliabilities = rs;
      others = es;
      other_reliabilities = qs;
    }) (outcome_now x r ds rs es qs)
block_tells (Ok b) r ds rs es qs = refl
block_tells (Err e) r ds rs es qs = refl

pub reading_tells : (x : Result Points Refusal) (output : List Float)
    → ◌≡◌ {A = Reading} (record { number = verdict_of x; count = (points_told x).count; error = (points_told x).error; output = output }) (points_now x output)
reading_tells (Ok p) output = refl
reading_tells (Err e) output = refl
