-- The second stream: a symbol through its carrier, around the detector with the second tracker. Definitions only.
use Rattle.std.specs.Prelude.{ℕ, Bool, true, cond, List, ◌++◌, take, drop, set, replicate, Float, Option}
use Rattle.numbers.specs.Constants.{zero32}
use Rattle.complex.specs.declared.Complex32.{Complex32}
use Rattle.answers.specs.declared.soft.Soft.{Soft}
use Rattle.answers.specs.declared.walk.Dibit.{Dibit}
use Rattle.answers.specs.Observed.{record_before}
use Rattle.sequence.specs.Sequence.{fresh_records}
use Rattle.drift_tracker.specs.Drift.{Memory}
use Rattle.drift_detector.specs.Detector.{fresh_memory}
use Rattle.carrier.specs.declared.CarrierPlace.{CarrierPlace}
use Rattle.carrier.specs.Carrier.{fresh_place}
use Rattle.drift_carrier.specs.Carrier.{CarrierStep, carried_of}
use Rattle.second.specs.declared.Second.{Second}

-- whether it is enabled, its carrier's place, its soft records, what its tracker knows of the channel, its costs and its parents
pub record SecondState : Type 0 where
  pub enabled : Bool
  pub carrier : CarrierPlace
  pub records : List (Option Soft)
  pub memory : Memory
  pub costs : List Float
  pub parents : List ℕ

-- ---- the floats in one array: real and imaginary channels, drifts, inverses, costs

unfoldable pub memory_of : List Float → Memory
memory_of m = record { channels = record { real = take 256 m; imaginary = take 256 (drop 256 m) }; drift = take 512 (drop 512 m); inverse = take 8192 (drop 1024 m) }

unfoldable pub costs_of : List Float → List Float
costs_of m = take 64 (drop 9216 m)

unfoldable pub joined_of : Memory → List Float → List Float
joined_of m costs = m.channels.real ++ m.channels.imaginary ++ m.drift ++ m.inverse ++ costs

-- from what the code has of it: its floats in one array, and its parents in another
abbrev pub second_of : Second → List Float → List ℕ → SecondState
second_of s m parents = record {
  enabled = s.enabled;
  carrier = s.carrier;
  records = s.records.slots;
  memory = memory_of m;
  costs = costs_of m;
  parents = parents;
}

-- ---- a symbol

-- what a symbol leaves, and the answer to it
pub record Step : Type 0 where
  pub state : SecondState
  pub answer : Option Dibit

-- where the detector's next record goes
abbrev pub slot_at : SecondState → ℕ
slot_at s = s.carrier.detector.write

abbrev pub decided_with : SecondState → CarrierStep → Step
decided_with s c = record {
  state = record {
    enabled = s.enabled;
    carrier = c.carried.place;
    records = set s.records (slot_at s) c.carried.soft;
    memory = c.memory;
    costs = c.costs;
    parents = c.parents;
  };
  answer = c.carried.answer;
}

-- a symbol through the second carrier: its soft record takes the place of the oldest
unfoldable pub decided_of : SecondState → Complex32 → Bool → Step
decided_of s z reliable = decided_with s (carried_of s.carrier z reliable (record_before s.records (slot_at s)) s.memory s.costs s.parents)

-- the second's answer to a symbol; while it is not enabled, the first's
unfoldable pub other_of : SecondState → Option Dibit → Complex32 → Bool → Step
other_of s first z reliable = cond s.enabled (decided_of s z reliable) (record { state = s; answer = first })

-- whether the carrier is locked
abbrev pub locked_of : SecondState → Bool
locked_of s = s.carrier.turn.locked

-- ---- a fresh one, enabled

unfoldable pub fresh_second : Second
fresh_second = record { enabled = true; carrier = fresh_place; records = fresh_records }

unfoldable pub fresh_floats : List Float
fresh_floats = joined_of fresh_memory (replicate 64 zero32)
