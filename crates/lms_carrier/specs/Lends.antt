-- What a step is lent, by the names of its parameters: a type that computes to the clause written out. Definitions only.
use Rattle.std.specs.Prelude.{ℕ, List, Float}
use Rattle.laws.specs.Lent.{LendsMut}
use Rattle.complex.specs.Planes.{Planes}
use Rattle.carrier.specs.declared.Carried.{Carried}
use Rattle.lms_carrier.specs.Carrier.{CarrierStep}

-- the channels, the costs and the parents as they are given, and all that the step leaves
module _ (r : Carried) (channel_real channel_imaginary costs : LendsMut Float) (parents : LendsMut ℕ) where
  abbrev pub Leaves : (Planes → List Float → List ℕ → CarrierStep → Type 0) → Type 0
  Leaves Q =
      Q
      (record { real = channel_real.entry.now; imaginary = channel_imaginary.entry.now })
      costs.entry.now parents.entry.now
      (record {
        carried = r;
        channels = record { real = channel_real.exit.now; imaginary = channel_imaginary.exit.now };
        costs = costs.exit.now;
        parents = parents.exit.now;
      })
