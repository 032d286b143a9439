-- The refusals' numbers, as docs/SPECIFICATION.md has them. Definitions only.
use Rattle.std.specs.Prelude.{ℕ, Bool, cond, List, [], ◌∷◌, Result, Ok, Err}
use Rattle.checks.specs.declared.refusal.Refusal.{Refusal}
use Rattle.checks.specs.declared.refusal.Refusal.TheVariants.{Rate, Offset, Table, Count, Sample, Room, State, File}

abbrev pub number_of : Refusal → ℕ
number_of Rate = 1
number_of Offset = 2
number_of Table = 3
number_of Count = 4
number_of Sample = 5
number_of Room = 6
number_of State = 7
number_of File = 8

-- a call's answer by its number: the refusal's, or 0 where it is accepted
abbrev pub verdict_of : {A : Type 0} → Result A Refusal → ℕ
verdict_of (Ok x) = 0
verdict_of (Err r) = number_of r

-- a refusal's number, and whether it applies
pub record Check : Type 0 where
  pub number : ℕ
  pub applies : Bool

-- the first that applies, in the order of the checks; 0 where none does
abbrev pub first_of : List Check → ℕ
first_of [] = 0
first_of (c ∷ cs) = cond c.applies c.number (first_of cs)
