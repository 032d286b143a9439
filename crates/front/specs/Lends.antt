-- What the functions of the front are lent, by the names of their parameters: each is a type that computes to the clause written out. Definitions only.
use Rattle.std.specs.Prelude.{ℕ, Float}
use Rattle.laws.specs.Lent.{LendsMut}
use Rattle.front.specs.declared.Fronted.{Fronted}
use Rattle.front.specs.declared.Offering.{Offering}
use Rattle.front.specs.Front.{Row, Front, front_now, Offered, offered_now}

-- ---- the row of values, with how many it holds
abbrev pub LeavesRow : ℕ → ℕ → LendsMut Float → LendsMut Float → (Row → Row → Type 0) → Type 0
LeavesRow made more row_real row_imaginary Q =
    Q
    (record { real = row_real.entry.now; imaginary = row_imaginary.entry.now; made = made })
    (record { real = row_real.exit.now; imaginary = row_imaginary.exit.now; made = more })

-- ---- the resampler with its ring, and the row
abbrev pub LeavesOffer : Offering → Offering → LendsMut Float → LendsMut Float → LendsMut Float → LendsMut Float → (Offered → Offered → Type 0) → Type 0
LeavesOffer t r ring_real ring_imaginary row_real row_imaginary Q =
    Q
    (offered_now t ring_real.entry.now ring_imaginary.entry.now row_real.entry.now row_imaginary.entry.now)
    (offered_now r ring_real.exit.now ring_imaginary.exit.now row_real.exit.now row_imaginary.exit.now)

-- ---- the whole front, its samples taken from `from` on
abbrev pub Leaves : ℕ → Fronted → Fronted → LendsMut Float → LendsMut Float → LendsMut Float → LendsMut Float → (Front → Front → Type 0) → Type 0
Leaves from t r ring_real ring_imaginary row_real row_imaginary Q =
    Q
    (front_now t from ring_real.entry.now ring_imaginary.entry.now row_real.entry.now row_imaginary.entry.now)
    (front_now r from ring_real.exit.now ring_imaginary.exit.now row_real.exit.now row_imaginary.exit.now)
