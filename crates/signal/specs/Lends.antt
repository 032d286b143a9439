-- The view's ring and the floats of a read as the code lends them: how a clause speaks of them at entry, and at entry and exit. Definitions only.
use Rattle.std.specs.Prelude.{ℕ, List, Float}
use Rattle.laws.specs.Lent.{Lends, LendsMut}
use Rattle.complex.specs.declared.Complex32.{Complex32}
use Rattle.signal.specs.declared.ViewPlace.{ViewPlace}
use Rattle.signal.specs.Signal.{View, view_of, points_from}

module _ (p : ViewPlace) (real imaginary : Lends Float) where
  -- P of the view as it is lent
  abbrev pub Reads : (View → Type 0) → Type 0
  Reads P = P (view_of p real.entry.now imaginary.entry.now)

module _ (p q : ViewPlace) (real imaginary : LendsMut Float) where
  -- Q of the view as it is lent, and as it is left
  abbrev pub Leaves : (View → View → Type 0) → Type 0
  Leaves Q = Q (view_of p real.entry.now imaginary.entry.now) (view_of q real.exit.now imaginary.exit.now)

module _ (real imaginary : Lends Float) (from n : ℕ) where
  -- P of n points of the ring from a place on
  abbrev pub ReadsPoints : (List Complex32 → Type 0) → Type 0
  ReadsPoints P = P (points_from real.entry.now imaginary.entry.now from n)

module _ (output : LendsMut Float) where
  -- Q of the floats as they are lent, and as they are left
  abbrev pub LeavesFloats : (List Float → List Float → Type 0) → Type 0
  LeavesFloats Q = Q output.entry.now output.exit.now
