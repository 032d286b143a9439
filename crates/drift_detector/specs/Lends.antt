-- What a step is lent, by the names of its parameters: types that compute to the clause written out. Definitions only.
use Rattle.std.specs.Prelude.{ℕ, List, Float}
use Rattle.laws.specs.Lent.{NowMut, Lends, LendsMut}
use Rattle.sequence.specs.declared.step.Detected.{Detected}
use Rattle.drift_tracker.specs.Drift.{Memory}
use Rattle.drift_detector.specs.Detector.{DetectorStep}

-- the memory as it is given
module _ (channel_real channel_imaginary drift inverse : NowMut Float) where
  abbrev pub Given : (Memory → Type 0) → Type 0
  Given P = P (record { channels = record { real = channel_real.now; imaginary = channel_imaginary.now }; drift = drift.now; inverse = inverse.now })

-- the memory, the costs and the parents as they are given, and all that the step leaves: the inverses in an array of their own
module _ (r : Detected) (channel_real channel_imaginary drift : LendsMut Float) (inverse : Lends Float) (next costs : LendsMut Float) (parents : LendsMut ℕ) where
  abbrev pub Leaves : (Memory → List Float → List ℕ → DetectorStep → Type 0) → Type 0
  Leaves Q =
      Q
      (record { channels = record { real = channel_real.entry.now; imaginary = channel_imaginary.entry.now }; drift = drift.entry.now; inverse = inverse.entry.now })
      costs.entry.now parents.entry.now
      (record {
        detected = r;
        memory = record { channels = record { real = channel_real.exit.now; imaginary = channel_imaginary.exit.now }; drift = drift.exit.now; inverse = next.exit.now };
        costs = costs.exit.now;
        parents = parents.exit.now;
      })
