-- What a step is lent, by the names of its parameters: a type that computes to the clause written out. Definitions only.
use Rattle.std.specs.Prelude.{ℕ, List, Float}
use Rattle.laws.specs.Lent.{LendsMut}
use Rattle.sequence.specs.declared.step.Detected.{Detected}
use Rattle.sequence.specs.Sequence.{Stepped}

-- the costs and the parents as they are given, and all that the step leaves
module _ (r : Detected) (costs : LendsMut Float) (parents row : LendsMut ℕ) (prediction_real prediction_imaginary : LendsMut Float) where
  abbrev pub Leaves : (List Float → List ℕ → Stepped → Type 0) → Type 0
  Leaves Q =
      Q
      costs.entry.now parents.entry.now
      (record {
        detected = r;
        costs = costs.exit.now;
        parents = parents.exit.now;
        row = row.exit.now;
        predictions = record { real = prediction_real.exit.now; imaginary = prediction_imaginary.exit.now };
      })
