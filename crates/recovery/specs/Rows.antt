-- The first stage over a row of values: a row of symbols, each with whether it is reliable. Definitions only.
use Rattle.std.specs.Prelude.{ℕ, ◌+◌, Bool, List, Option, Some, None, set, Float}
use Rattle.laws.specs.Turns.{turns}
use Rattle.complex.specs.declared.Complex32.{Complex32}
use Rattle.taps.specs.Taps.{both_tables}
use Rattle.complex.specs.Planes.{point_at}
use Rattle.recovery.specs.declared.step.Found.{Found}
use Rattle.recovery.specs.Recovery.{RecoveryState, Step, stepped_of}

-- a row of symbols: their two parts, whether each is reliable, and how many stand there
pub record Symbols : Type 0 where
  pub real : List Float
  pub imaginary : List Float
  pub reliable : List Bool
  pub count : ℕ

-- a symbol put after those that stand there
abbrev pub put_of : Symbols → Option Found → Symbols
put_of row None = row
put_of row (Some found) = record {
  real = set row.real row.count found.symbol.real;
  imaginary = set row.imaginary row.count found.symbol.imaginary;
  reliable = set row.reliable row.count found.reliable;
  count = row.count + 1;
}

-- the stage, and the row that it is lent
pub record Lent : Type 0 where
  pub state : RecoveryState
  pub symbols : Symbols

module _ (taps derivatives : List Float) where
  -- one value, and its symbol put into the row
  abbrev pub linked_with : Lent → Step → Lent
  linked_with l s = record { state = s.state; symbols = put_of l.symbols s.found }

  unfoldable pub linked_of : Lent → Complex32 → Lent
  linked_of l z = linked_with l (stepped_of taps derivatives l.state z)

  abbrev pub row_turn : List Float → List Float → ℕ → Lent → Lent
  row_turn real imaginary k l = linked_of l (point_at (record { real = real; imaginary = imaginary }) k)

  -- the first n values of a row, in turn
  unfoldable pub row_of : List Float → List Float → ℕ → Lent → Lent
  row_of real imaginary n l = turns (row_turn real imaginary) n l

-- the same with the matched filter's tables
unfoldable pub recovered_of : List Float → List Float → ℕ → Lent → Lent
recovered_of real imaginary n l = row_of both_tables.taps both_tables.derivatives real imaginary n l
