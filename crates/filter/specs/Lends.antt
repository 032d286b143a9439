-- The windows as the code lends them, in four planes: how a clause speaks of them at entry and exit. Definitions only.
use Rattle.std.specs.Prelude.{Float}
use Rattle.laws.specs.Lent.{LendsMut}
use Rattle.filter.specs.Filter.{Windows}

module _ (real imaginary derivative_real derivative_imaginary : LendsMut Float) where
  -- Q of the windows as they are lent, and as they are left
  abbrev pub Leaves : (Windows → Windows → Type 0) → Type 0
  Leaves Q =
      Q
      (record { real = real.entry.now; imaginary = imaginary.entry.now; derivative_real = derivative_real.entry.now; derivative_imaginary = derivative_imaginary.entry.now })
      (record { real = real.exit.now; imaginary = imaginary.exit.now; derivative_real = derivative_real.exit.now; derivative_imaginary = derivative_imaginary.exit.now })
