-- What the functions of the stage are lent, by the names of their parameters: each is a type that computes to the clause written out. Definitions only.
use Rattle.std.specs.Prelude.{ℕ, Bool, Float}
use Rattle.laws.specs.Lent.{NowMut, LendsMut}
use Rattle.recovery.specs.declared.RecoveryPlace.{RecoveryPlace}
use Rattle.recovery.specs.declared.Recovered.{Recovered}
use Rattle.recovery.specs.Recovery.{RecoveryState, state_of}
use Rattle.recovery.specs.Rows.{Symbols, Lent}

-- ---- a value: the stage as it is given, and as it is left
module _ (p : RecoveryPlace) (keeper_real keeper_imaginary clock_real clock_imaginary weight_real weight_imaginary : NowMut Float) where
  abbrev pub Given : (RecoveryState → Type 0) → Type 0
  Given P =
      P
      (state_of p
      keeper_real.now keeper_imaginary.now
      clock_real.now clock_imaginary.now
      weight_real.now weight_imaginary.now)

module _ (p q : RecoveryPlace) (keeper_real keeper_imaginary clock_real clock_imaginary weight_real weight_imaginary : LendsMut Float) where
  abbrev pub Leaves : (RecoveryState → RecoveryState → Type 0) → Type 0
  Leaves Q =
      Q
      (state_of p
      keeper_real.entry.now keeper_imaginary.entry.now
      clock_real.entry.now clock_imaginary.entry.now
      weight_real.entry.now weight_imaginary.entry.now)
      (state_of q
      keeper_real.exit.now keeper_imaginary.exit.now
      clock_real.exit.now clock_imaginary.exit.now
      weight_real.exit.now weight_imaginary.exit.now)

-- ---- a row of symbols
module _ (n : ℕ) (symbol_real symbol_imaginary : NowMut Float) (reliable : NowMut Bool) where
  abbrev pub GivenSymbols : (Symbols → Type 0) → Type 0
  GivenSymbols P = P (record { real = symbol_real.now; imaginary = symbol_imaginary.now; reliable = reliable.now; count = n })

module _ (n m : ℕ) (symbol_real symbol_imaginary : LendsMut Float) (reliable : LendsMut Bool) where
  abbrev pub LeavesSymbols : (Symbols → Symbols → Type 0) → Type 0
  LeavesSymbols Q =
      Q
      (record { real = symbol_real.entry.now; imaginary = symbol_imaginary.entry.now; reliable = reliable.entry.now; count = n })
      (record { real = symbol_real.exit.now; imaginary = symbol_imaginary.exit.now; reliable = reliable.exit.now; count = m })

-- ---- the stage with its row of symbols
module _ (t : Recovered) (keeper_real keeper_imaginary clock_real clock_imaginary weight_real weight_imaginary symbol_real symbol_imaginary : NowMut Float) (reliable : NowMut Bool) where
  abbrev pub GivenRow : (Lent → Type 0) → Type 0
  GivenRow P =
      P
      (record {
        state =
            state_of t.place
            keeper_real.now keeper_imaginary.now
            clock_real.now clock_imaginary.now
            weight_real.now weight_imaginary.now;
        symbols = record { real = symbol_real.now; imaginary = symbol_imaginary.now; reliable = reliable.now; count = t.count };
      })

module _ (t r : Recovered) (keeper_real keeper_imaginary clock_real clock_imaginary weight_real weight_imaginary symbol_real symbol_imaginary : LendsMut Float) (reliable : LendsMut Bool) where
  abbrev pub LeavesRow : (Lent → Lent → Type 0) → Type 0
  LeavesRow Q =
      Q
      (record {
        state =
            state_of t.place
            keeper_real.entry.now keeper_imaginary.entry.now
            clock_real.entry.now clock_imaginary.entry.now
            weight_real.entry.now weight_imaginary.entry.now;
        symbols = record { real = symbol_real.entry.now; imaginary = symbol_imaginary.entry.now; reliable = reliable.entry.now; count = t.count };
      })
      (record {
        state =
            state_of r.place
            keeper_real.exit.now keeper_imaginary.exit.now
            clock_real.exit.now clock_imaginary.exit.now
            weight_real.exit.now weight_imaginary.exit.now;
        symbols = record { real = symbol_real.exit.now; imaginary = symbol_imaginary.exit.now; reliable = reliable.exit.now; count = r.count };
      })
