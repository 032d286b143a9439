-- A row of 21 as the code lends it, in two planes: how a clause speaks of it at entry, and at entry and exit. Definitions only.
use Rattle.std.specs.Prelude.{Float}
use Rattle.laws.specs.Lent.{Lends, LendsMut}
use Rattle.equalizer.specs.Equalizer.{Row, row_of}

module _ (real imaginary : Lends Float) where
  -- P of the row as it is lent
  abbrev pub Reads : (Row → Type 0) → Type 0
  Reads P = P (row_of real.entry.now imaginary.entry.now)

module _ (real imaginary : LendsMut Float) where
  -- Q of the row as it is lent, and as it is left
  abbrev pub Leaves : (Row → Row → Type 0) → Type 0
  Leaves Q = Q (row_of real.entry.now imaginary.entry.now) (row_of real.exit.now imaginary.exit.now)
