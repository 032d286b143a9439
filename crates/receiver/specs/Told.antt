-- What an answer tells, of a refused call too. Definitions only.
use Rattle.std.specs.Prelude.{Result}
use Rattle.std.specs.Result.{result_unwrap_or}
use Rattle.std.specs.Float.{binary64}
use Rattle.std.specs.Float.Ieee.{of_bits}
use Rattle.checks.specs.declared.refusal.Refusal.{Refusal}
use Rattle.receiver_state.specs.declared.state.Receiver.{Receiver}
use Rattle.receiver_state.specs.State.{zero_receiver, zero_snapshot}
use Rattle.receiver.specs.declared.block.Block.{Block}
use Rattle.receiver.specs.declared.reading.Points.{Points}

-- a refused setup: every number zero, every flag false, every option absent
abbrev pub state_told : Result Receiver Refusal → Receiver
state_told x = result_unwrap_or x zero_receiver

-- a refused block: k 0, overload 0, a `Snapshot` of zeros
abbrev pub block_told : Result Block Refusal → Block
block_told x = result_unwrap_or x (record { count = 0; overload = 0; snapshot = zero_snapshot })

-- a refused reading: count 0, error 0
abbrev pub points_told : Result Points Refusal → Points
points_told x = result_unwrap_or x (record { count = 0; error = of_bits binary64 0 })
