-- What the functions of the stage are lent, by the names of their parameters: each is a type that computes to the clause written out. Definitions only.
use Rattle.std.specs.Prelude.{ℕ}
use Rattle.laws.specs.Lent.{NowMut, LendsMut}
use Rattle.delivery.specs.declared.Delivered.{Delivered}
use Rattle.delivery.specs.Delivery.{Room, Lent}

-- ---- the room
abbrev pub GivenRoom : ℕ → NowMut ℕ → NowMut ℕ → (Room → Type 0) → Type 0
GivenRoom written dibits reliabilities P = P (record { dibits = dibits.now; reliabilities = reliabilities.now; written = written })

abbrev pub LeavesRoom : ℕ → ℕ → LendsMut ℕ → LendsMut ℕ → (Room → Room → Type 0) → Type 0
LeavesRoom written more dibits reliabilities Q =
    Q
    (record { dibits = dibits.entry.now; reliabilities = reliabilities.entry.now; written = written })
    (record { dibits = dibits.exit.now; reliabilities = reliabilities.exit.now; written = more })

-- ---- the stage with its room
abbrev pub Given : Delivered → NowMut ℕ → NowMut ℕ → (Lent → Type 0) → Type 0
Given t dibits reliabilities P = GivenRoom t.written dibits reliabilities (λ room. P (record { place = t.place; room = room }))

abbrev pub Leaves : Delivered → Delivered → LendsMut ℕ → LendsMut ℕ → (Lent → Lent → Type 0) → Type 0
Leaves t r dibits reliabilities Q =
    LeavesRoom t.written r.written dibits reliabilities (λ b a. Q (record { place = t.place; room = b }) (record { place = r.place; room = a }))
