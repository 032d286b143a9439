-- The enabling of the second tracker: what it gives for each state. Definitions only.
use Rattle.std.specs.Prelude.{ℕ, cond, List, eqb, replicate, Float, Result, ⊤}
use Rattle.second.specs.declared.Second.{Second}
use Rattle.second.specs.Second.{fresh_second, fresh_floats}
use Rattle.receiver_state.specs.declared.state.Receiver.{Receiver}
use Rattle.checks.specs.declared.refusal.Refusal.{Refusal}
use Rattle.checks.specs.Refusal.{verdict_of, first_of}
use Rattle.checks.specs.Checks.{enabling_checks}
use Rattle.receiver.specs.Admitted.{admitted_of}

-- the refusal's number or 0, and the state
pub record Enabling : Type 0 where
  pub number : ℕ
  pub receiver : Receiver

-- by the answer, and the state after the call
abbrev pub enabled_now : Result ⊤ Refusal → Receiver → Enabling
enabled_now x r = record { number = verdict_of x; receiver = r }

-- a state with another second tracker, and all else as it was
abbrev pub with_second : Receiver → Second → List Float → List ℕ → Receiver
with_second r second memory ancestors = record {
  total = r.total;
  front = r.front;
  chain = r.chain;
  records = r.records;
  ring = r.ring;
  planes = r.planes;
  second = second;
  memory = memory;
  ancestors = ancestors;
}

unfoldable pub started_of : Receiver → Receiver
started_of r = with_second r fresh_second fresh_floats (replicate 2048 0)

-- where it is enabled already, nothing is done
unfoldable pub enabled_of : Receiver → Receiver
enabled_of r = cond r.second.enabled r (started_of r)

abbrev pub enable_by : ℕ → Receiver → Enabling
enable_by number r = record { number = number; receiver = cond (eqb number 0) (enabled_of r) r }

unfoldable pub enable_of : Receiver → Enabling
enable_of r = enable_by (first_of (enabling_checks (admitted_of r))) r
