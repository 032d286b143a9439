-- The keeper's ring as the code lends it, in two planes: how a clause speaks of it at entry and at exit. Definitions only.
use Rattle.std.specs.Prelude.{Float}
use Rattle.laws.specs.Lent.{LendsMut}
use Rattle.peak.specs.Peak.{Ring}

module _ (real imaginary : LendsMut Float) where
  -- Q of the ring as it is lent, and as it is left
  abbrev pub Leaves : (Ring → Ring → Type 0) → Type 0
  Leaves Q = Q (record { real = real.entry.now; imaginary = imaginary.entry.now }) (record { real = real.exit.now; imaginary = imaginary.exit.now })
