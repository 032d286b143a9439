-- What a receiver takes in calls one after the other, and what its decimator gives the resampler for each sample. Definitions only.
use Rattle.std.specs.Prelude.{Bool, cond, List, [], ◌∷◌, ◌++◌, ℕ, eqb, Float, Option}
use Rattle.laws.specs.Places.{upto}
use Rattle.complex.specs.declared.Complex32.{Complex32}
use Rattle.oscillator.specs.declared.Oscillator.{Oscillator}
use Rattle.oscillator.specs.Oscillator.{conjugated_of, turned_of, mixed_of}
use Rattle.front.specs.Front as front
use Rattle.receiver_state.specs.declared.state.Receiver.{Receiver}
use Rattle.samples.specs.Samples.{count_of}
use Rattle.run.specs.Run.{front_at}
use Rattle.receiver.specs.Block.{Rooms, Outcome, start_of, block_of}

-- what a block is called with
pub record Call : Type 0 where
  pub table : List Float
  pub samples : List Float
  pub rooms : Rooms

abbrev pub answered_of : Receiver → Call → Outcome
answered_of r c = block_of r c.table c.samples c.rooms

-- the samples that a call takes: all of them where it is accepted, and none where it is refused
abbrev pub taken_where : Bool → Call → List Complex32
taken_where accepted c = cond accepted (front.samples_of c.samples) []

-- those that a receiver takes in calls one after the other
unfoldable pub taken_of : Receiver → List Call → List Complex32
taken_of r [] = []
taken_of r (c ∷ cs) = taken_where (eqb (answered_of r c).number 0) c ++ taken_of (answered_of r c).receiver cs

-- the front before sample k of a call, and what its decimator gives the resampler for that sample
abbrev pub rung_before : Receiver → Call → ℕ → front.Rung
rung_before r c k = (front_at (conjugated_of r.chain.profile) c.table c.samples (start_of r c.rooms) k).rung

abbrev pub given_at : Receiver → Call → ℕ → Option Complex32
given_at r c k = (front.step_of (conjugated_of r.chain.profile) (rung_before r c k).place.oscillator (rung_before r c k).place.decimator (front.sample_at c.samples k)).output

-- what it gives for each sample taken
unfoldable pub given_of : Receiver → List Call → List (Option Complex32)
given_of r [] = []
given_of r (c ∷ cs) = cond (eqb (answered_of r c).number 0) (upto (given_at r c) (count_of c.samples)) [] ++ given_of (answered_of r c).receiver cs

-- samples times the oscillator, which turns after each
unfoldable pub mixed_row : Bool → Oscillator → List Complex32 → List Complex32
mixed_row conjugated o [] = []
mixed_row conjugated o (x ∷ xs) = mixed_of o x conjugated ∷ mixed_row conjugated (turned_of o) xs
