-- What the functions are lent, by the names of their parameters: each is a type that computes to the clause written out. Definitions only.
use Rattle.std.specs.Prelude.{ℕ, Float}
use Rattle.laws.specs.Lent.{LendsMut}
use Rattle.trellis.specs.Trellis.{Advance}

-- ---- a step: P of what it gives and of what it leaves in its planes
module _ (best : ℕ) (costs : LendsMut Float) (parents : LendsMut ℕ) (prediction_real prediction_imaginary : LendsMut Float) where
  abbrev pub Leaves : (Advance → Type 0) → Type 0
  Leaves P =
      P
      (record {
        best = best;
        costs = costs.exit.now;
        parents = parents.exit.now;
        predictions = record { real = prediction_real.exit.now; imaginary = prediction_imaginary.exit.now };
      })
