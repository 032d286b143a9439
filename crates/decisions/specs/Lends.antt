-- What the functions of the stage are lent, by the names of their parameters: each is a type that computes to the clause written out. Definitions only.
use Rattle.std.specs.Prelude.{ℕ, Bool, Float}
use Rattle.laws.specs.Lent.{NowMut, LendsMut}
use Rattle.decisions.specs.declared.DecisionsPlace.{DecisionsPlace}
use Rattle.decisions.specs.declared.Decided.{Decided}
use Rattle.decisions.specs.Decisions.{DecisionsState, state_of}
use Rattle.decisions.specs.Rows.{Lent}

-- ---- a symbol: the stage as it is given, and as it is left
module _ (p : DecisionsPlace) (channel_real channel_imaginary costs : NowMut Float) (parents : NowMut ℕ) (view_real view_imaginary : NowMut Float) where
  abbrev pub Given : (DecisionsState → Type 0) → Type 0
  Given P =
      P
      (state_of p
      channel_real.now channel_imaginary.now
      costs.now parents.now
      view_real.now view_imaginary.now)

module _ (p q : DecisionsPlace) (channel_real channel_imaginary costs : LendsMut Float) (parents : LendsMut ℕ) (view_real view_imaginary : LendsMut Float) where
  abbrev pub Leaves : (DecisionsState → DecisionsState → Type 0) → Type 0
  Leaves Q =
      Q
      (state_of p
      channel_real.entry.now channel_imaginary.entry.now
      costs.entry.now parents.entry.now
      view_real.entry.now view_imaginary.entry.now)
      (state_of q
      channel_real.exit.now channel_imaginary.exit.now
      costs.exit.now parents.exit.now
      view_real.exit.now view_imaginary.exit.now)

-- ---- the stage with its soft records and its row of answers
module _ (t : Decided) (channel_real channel_imaginary costs : NowMut Float) (parents : NowMut ℕ) (view_real view_imaginary : NowMut Float) (flags : NowMut Bool) (bytes : NowMut ℕ) where
  abbrev pub GivenRow : (Lent → Type 0) → Type 0
  GivenRow P =
      P
      (record {
        state =
            state_of t.place
            channel_real.now channel_imaginary.now
            costs.now parents.now
            view_real.now view_imaginary.now;
        records = t.records.slots;
        answers = record { flags = flags.now; bytes = bytes.now };
      })

module _ (t r : Decided) (channel_real channel_imaginary costs : LendsMut Float) (parents : LendsMut ℕ) (view_real view_imaginary : LendsMut Float) (flags : LendsMut Bool) (bytes : LendsMut ℕ) where
  abbrev pub LeavesRow : (Lent → Lent → Type 0) → Type 0
  LeavesRow Q =
      Q
      (record {
        state =
            state_of t.place
            channel_real.entry.now channel_imaginary.entry.now
            costs.entry.now parents.entry.now
            view_real.entry.now view_imaginary.entry.now;
        records = t.records.slots;
        answers = record { flags = flags.entry.now; bytes = bytes.entry.now };
      })
      (record {
        state =
            state_of r.place
            channel_real.exit.now channel_imaginary.exit.now
            costs.exit.now parents.exit.now
            view_real.exit.now view_imaginary.exit.now;
        records = r.records.slots;
        answers = record { flags = flags.exit.now; bytes = bytes.exit.now };
      })
