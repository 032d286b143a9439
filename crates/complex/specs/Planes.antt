-- Complex values in two planes, real parts and imaginary parts apart. Definitions only.
use Rattle.std.specs.Prelude.{ℕ, List, get_or, Float}
use Rattle.std.specs.Float.{nan}
use Rattle.complex.specs.declared.Complex32.{Complex32}
use Rattle.complex.specs.declared.Planes.{Planes as Held}

pub record Planes : Type 0 where
  pub real : List Float
  pub imaginary : List Float

-- those that the code holds in arrays of n
abbrev pub planes_of : {n : ℕ} → Held n → Planes
planes_of p = record { real = p.real; imaginary = p.imaginary }

-- the value at a place
abbrev pub point_at : Planes → ℕ → Complex32
point_at c i = record { real = get_or c.real i nan; imaginary = get_or c.imaginary i nan }
