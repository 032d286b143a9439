-- What the resampler makes of each sample that a receiver takes in calls one after the other, and the table that is lent with each. Definitions only.
use Rattle.std.specs.Prelude.{cond, List, [], ◌∷◌, ◌++◌, ℕ, eqb, Float}
use Rattle.laws.specs.Places.{upto}
use Rattle.complex.specs.declared.Complex32.{Complex32}
use Rattle.front.specs.Resample.{resample_values}
use Rattle.front.specs.Front as front
use Rattle.receiver_state.specs.declared.state.Receiver.{Receiver}
use Rattle.samples.specs.Samples.{count_of}
use Rattle.promises.specs.Taken.{Call, answered_of, rung_before, given_at}

-- the values that the resampler makes of sample k of a call: none, one or two
abbrev pub made_at : Receiver → Call → ℕ → List Complex32
made_at r c k = resample_values c.table (front.ring_of (rung_before r c k)) (given_at r c k)

-- of each sample taken
unfoldable pub made_of : Receiver → List Call → List (List Complex32)
made_of r [] = []
made_of r (c ∷ cs) = cond (eqb (answered_of r c).number 0) (upto (made_at r c) (count_of c.samples)) [] ++ made_of (answered_of r c).receiver cs

-- the table that was lent with each sample taken
unfoldable pub tables_of : Receiver → List Call → List (List Float)
tables_of r [] = []
tables_of r (c ∷ cs) = cond (eqb (answered_of r c).number 0) (upto (λ k. c.table) (count_of c.samples)) [] ++ tables_of (answered_of r c).receiver cs
