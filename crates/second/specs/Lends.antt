-- What the functions of the stage are lent, by the names of their parameters: each is a type that computes to the clause written out. Definitions only.
use Rattle.std.specs.Prelude.{ℕ, Bool, List, Float}
use Rattle.laws.specs.Lent.{Now, NowMut, Lends, LendsMut}
use Rattle.drift_tracker.specs.Drift.{Memory}
use Rattle.second.specs.declared.Second.{Second}
use Rattle.second.specs.Second.{second_of}
use Rattle.second.specs.Rows.{Lent, lent_of, held_of}

-- ---- a row: the one array of floats, the parents, and the row of answers
module _ (t : Second) (memory : NowMut Float) (parents : NowMut ℕ) (flags : NowMut Bool) (bytes : NowMut ℕ) where
  abbrev pub Given : (Lent → Type 0) → Type 0
  Given P = P (record { state = second_of t memory.now parents.now; answers = record { flags = flags.now; bytes = bytes.now } })

module _ (t r : Second) (memory : LendsMut Float) (parents : LendsMut ℕ) (flags : LendsMut Bool) (bytes : LendsMut ℕ) where
  abbrev pub Leaves : (Lent → Lent → Type 0) → Type 0
  Leaves Q =
      Q
      (record { state = second_of t memory.entry.now parents.entry.now; answers = record { flags = flags.entry.now; bytes = bytes.entry.now } })
      (record { state = second_of r memory.exit.now parents.exit.now; answers = record { flags = flags.exit.now; bytes = bytes.exit.now } })

-- ---- the floats' parts in arrays of their own
module _ (real imaginary drift inverse costs : NowMut Float) where
  abbrev pub GivenParts : (Memory → List Float → Type 0) → Type 0
  GivenParts P = P (record { channels = record { real = real.now; imaginary = imaginary.now }; drift = drift.now; inverse = inverse.now }) costs.now

-- the same parts, only read
module _ (real imaginary drift inverse costs : Now Float) where
  abbrev pub ShownParts : (Memory → List Float → Type 0) → Type 0
  ShownParts P = P (record { channels = record { real = real.now; imaginary = imaginary.now }; drift = drift.now; inverse = inverse.now }) costs.now

module _ (real imaginary drift inverse costs : Lends Float) where
  abbrev pub EntersParts : (Memory → List Float → Type 0) → Type 0
  EntersParts P =
      P (record { channels = record { real = real.entry.now; imaginary = imaginary.entry.now }; drift = drift.entry.now; inverse = inverse.entry.now }) costs.entry.now

module _ (real imaginary drift inverse costs : LendsMut Float) where
  abbrev pub LeavesParts : (Memory → List Float → Type 0) → Type 0
  LeavesParts P =
      P (record { channels = record { real = real.exit.now; imaginary = imaginary.exit.now }; drift = drift.exit.now; inverse = inverse.exit.now }) costs.exit.now

-- the inverses in one of two arrays, before the symbol n
module _ (n : ℕ) (real imaginary drift even odd costs : Lends Float) where
  abbrev pub EntersHeld : (Memory → List Float → Type 0) → Type 0
  EntersHeld P =
      P
      (record { channels = record { real = real.entry.now; imaginary = imaginary.entry.now }; drift = drift.entry.now; inverse = held_of n even.entry.now odd.entry.now })
      costs.entry.now

-- ---- with the parts so, the parents, and the row of answers
module _ (t : Second) (real imaginary drift inverse costs : NowMut Float) (parents : NowMut ℕ) (flags : NowMut Bool) (bytes : NowMut ℕ) where
  abbrev pub GivenLink : (Lent → Type 0) → Type 0
  GivenLink P =
      P
      (lent_of t
      real.now imaginary.now
      drift.now inverse.now
      costs.now parents.now
      flags.now bytes.now)

-- the inverses are left in an array of their own
module _ (t r : Second) (real imaginary drift : LendsMut Float) (inverse : Lends Float) (next costs : LendsMut Float) (parents : LendsMut ℕ) (flags : LendsMut Bool) (bytes : LendsMut ℕ) where
  abbrev pub LeavesLink : (Lent → Lent → Type 0) → Type 0
  LeavesLink Q =
      Q
      (lent_of t
      real.entry.now imaginary.entry.now
      drift.entry.now inverse.entry.now
      costs.entry.now parents.entry.now
      flags.entry.now bytes.entry.now)
      (lent_of r
      real.exit.now imaginary.exit.now
      drift.exit.now next.exit.now
      costs.exit.now parents.exit.now
      flags.exit.now bytes.exit.now)

-- they stand in one of two arrays, before the symbol k and before the symbol n
module _ (t r : Second) (k n : ℕ) (real imaginary drift even odd costs : LendsMut Float) (parents : LendsMut ℕ) (flags : LendsMut Bool) (bytes : LendsMut ℕ) where
  abbrev pub LeavesTurns : (Lent → Lent → Type 0) → Type 0
  LeavesTurns Q =
      Q
      (lent_of t
      real.entry.now imaginary.entry.now
      drift.entry.now (held_of k even.entry.now odd.entry.now)
      costs.entry.now parents.entry.now
      flags.entry.now bytes.entry.now)
      (lent_of r
      real.exit.now imaginary.exit.now
      drift.exit.now (held_of n even.exit.now odd.exit.now)
      costs.exit.now parents.exit.now
      flags.exit.now bytes.exit.now)
