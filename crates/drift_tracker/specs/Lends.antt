-- What the step is lent, by the names of its parameters: a type that computes to the clause written out. Definitions only.
use Rattle.std.specs.Prelude.{Float}
use Rattle.laws.specs.Lent.{Lends, LendsMut}
use Rattle.drift_tracker.specs.Drift.{Memory}

-- the memory as it is given, and as it is left: the inverses are left in an array of their own
abbrev pub Leaves : LendsMut Float → LendsMut Float → LendsMut Float → Lends Float → LendsMut Float → (Memory → Memory → Type 0) → Type 0
Leaves channel_real channel_imaginary drift inverse next Q =
    Q
    (record { channels = record { real = channel_real.entry.now; imaginary = channel_imaginary.entry.now }; drift = drift.entry.now; inverse = inverse.entry.now })
    (record { channels = record { real = channel_real.exit.now; imaginary = channel_imaginary.exit.now }; drift = drift.exit.now; inverse = next.exit.now })
