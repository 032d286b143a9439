-- What the functions are lent, two planes at a time, by the names of their parameters: each is a type that computes to the clause written out. Definitions only.
use Rattle.std.specs.Prelude.{Float}
use Rattle.laws.specs.Lent.{Lends, LendsMut}
use Rattle.complex.specs.Planes.{Planes}

-- P of two planes as they stood at entry
abbrev pub Reads : Lends Float → Lends Float → (Planes → Type 0) → Type 0
Reads real imaginary P = P (record { real = real.entry.now; imaginary = imaginary.entry.now })

-- Q of two planes as they stood at entry, and as they are left
abbrev pub Leaves : LendsMut Float → LendsMut Float → (Planes → Planes → Type 0) → Type 0
Leaves real imaginary Q = Q (record { real = real.entry.now; imaginary = imaginary.entry.now }) (record { real = real.exit.now; imaginary = imaginary.exit.now })
