-- When a block is accepted, and that the state that it returns can be given to the next. What holds of it stands in proofs/.
use Rattle.std.specs.Prelude.{◌≡◌, true, not, List, ◌+◌, ◌*◌, ◌/◌, ◌^◌, ◌≤◌, T, Float}
use Rattle.std.proofs.Math.ListN.{length}
use Rattle.std.specs.Float.{binary64}
use Rattle.std.specs.Float.Ieee.{fits}
use Rattle.resampler.specs.Dimensions as resampler
use Rattle.front.specs.Front as front
use Rattle.receiver_state.specs.declared.state.Receiver.{Receiver}
use Rattle.samples.specs.Samples.{count_of, finite_of}
use Rattle.receiver.specs.Admitted.{admitted_of}
use Rattle.receiver.specs.Block.{Rooms, dibit_room, reliability_room}

-- rooms that suffice for n samples: 2n+4 dibits, 4n+8 reliability bytes, of each stream that is asked for
pub record Roomy (xs : List Float) (lent : Rooms) : Type 0 where
  pub dibits : 2 * count_of xs + 4 ≤ dibit_room lent
  pub reliabilities : 4 * count_of xs + 8 ≤ reliability_room lent

-- none of the checks 7, 3, 4, 6, 5 applies
pub record Passes (r : Receiver) (table xs : List Float) (lent : Rooms) : Type 0 where
  pub admitted : admitted_of r ≡ true
  pub table_in : 32 * r.front.resampler.arm ≤ length table
  pub few : count_of xs ≤ 65536
  pub even : length xs ≡ 2 * count_of xs
  pub total_in : r.total + count_of xs ≤ 2 ^ 52
  pub room : Roomy xs lent
  pub finite : finite_of xs ≡ true

-- what the type of a state says and its admitted test does not: the next output is an f64, and these planes have their sizes. Every value of the type is so, and `setup_typed` and `block_kept` show it of every state from an accepted call
pub record Typed (r : Receiver) : Type 0 where
  pub next : T (fits binary64 r.front.resampler.next)
  pub keeper_real : length r.planes.recovery.keeper.real ≡ 64
  pub keeper_imaginary : length r.planes.recovery.keeper.imaginary ≡ 64
  pub channel_real : length r.planes.decisions.channels.real ≡ 256
  pub channel_imaginary : length r.planes.decisions.channels.imaginary ≡ 256
  pub costs : length r.planes.decisions.costs ≡ 64
  pub parents : length r.planes.decisions.parents ≡ 2048
  pub memory : length r.memory ≡ 9280
  pub ancestors : length r.ancestors ≡ 2048

-- what an accepted block keeps
pub record BlockKeeps (r s : Receiver) : Type 0 where
  pub admitted : admitted_of s ≡ true
  pub typed : Typed s
  pub arm : s.front.resampler.arm ≡ r.front.resampler.arm
