-- What a step is lent, by the names of its parameters: a type that computes to the clause written out. Definitions only.
use Rattle.std.specs.Prelude.{ℕ, List, Float}
use Rattle.laws.specs.Lent.{Lends, LendsMut}
use Rattle.drift_tracker.specs.Drift.{Memory}
use Rattle.carrier.specs.declared.Carried.{Carried}
use Rattle.drift_carrier.specs.Carrier.{CarrierStep}

-- the memory, the costs and the parents as they are given, and all that the step leaves: the inverses in an array of their own
module _ (r : Carried) (channel_real channel_imaginary drift : LendsMut Float) (inverse : Lends Float) (next costs : LendsMut Float) (parents : LendsMut ℕ) where
  abbrev pub Leaves : (Memory → List Float → List ℕ → CarrierStep → Type 0) → Type 0
  Leaves Q =
      Q
      (record { channels = record { real = channel_real.entry.now; imaginary = channel_imaginary.entry.now }; drift = drift.entry.now; inverse = inverse.entry.now })
      costs.entry.now parents.entry.now
      (record {
        carried = r;
        memory = record { channels = record { real = channel_real.exit.now; imaginary = channel_imaginary.exit.now }; drift = drift.exit.now; inverse = next.exit.now };
        costs = costs.exit.now;
        parents = parents.exit.now;
      })
