-- The detector without its tracker, over a list of steps: each step brings its own channels, reads the record of 31 steps before and puts its own in that
-- place's row. Definitions only.
use Rattle.std.specs.Prelude.{ℕ, zero, suc, Bool, List, [], ◌∷◌, get_or, set, replicate, Float, Option, None}
use Rattle.numbers.specs.Constants.{zero32}
use Rattle.complex.specs.declared.Complex32.{Complex32}
use Rattle.complex.specs.Planes.{Planes}
use Rattle.answers.specs.declared.soft.Soft.{Soft}
use Rattle.answers.specs.declared.walk.Dibit.{Dibit}
use Rattle.answers.specs.declared.soft.Records.{Records}
use Rattle.sequence.specs.declared.step.DetectorPlace.{DetectorPlace}
use Rattle.answers.specs.Observed.{record_before}
use Rattle.sequence.specs.Sequence.{fresh_place, fresh_records, Stepped, stepped_of}

pub record Skeleton : Type 0 where
  pub place : DetectorPlace
  pub costs : List Float
  pub parents : List ℕ
  pub records : Records

unfoldable pub fresh_skeleton : Skeleton
fresh_skeleton = record { place = fresh_place; costs = replicate 64 zero32; parents = replicate 2048 0; records = fresh_records }

-- what a step is given: the channels that its predictions are made with, wherever they come from, the input, and whether the input is reliable
pub record Step : Type 0 where
  pub channels : Planes
  pub value : Complex32
  pub reliable : Bool

-- ---- one step

abbrev pub oldest_of : Skeleton → Option Soft
oldest_of d = record_before d.records.slots d.place.write

-- what it leaves
abbrev pub left_of : Skeleton → Step → Stepped
left_of d i = stepped_of d.place i.value i.reliable (oldest_of d) i.channels d.costs d.parents

abbrev pub answer_of : Skeleton → Step → Option Dibit
answer_of d i = (left_of d i).detected.answer

unfoldable pub put_of : Records → ℕ → Option Soft → Records
put_of records write soft = record { slots = set records.slots write soft }

-- the skeleton after it
abbrev pub after_of : Skeleton → Step → Skeleton
after_of d i = record {
  place = (left_of d i).detected.place;
  costs = (left_of d i).costs;
  parents = (left_of d i).parents;
  records = put_of d.records d.place.write (left_of d i).detected.soft;
}

-- ---- many steps

abbrev pub ran_of : Skeleton → List Step → Skeleton
ran_of d [] = d
ran_of d (i ∷ is) = ran_of (after_of d i) is

abbrev pub answers_of : Skeleton → List Step → List (Option Dibit)
answers_of d [] = []
answers_of d (i ∷ is) = answer_of d i ∷ answers_of (after_of d i) is

-- ---- what the steps made

-- a step's parents, by state, and its soft record
pub record Made : Type 0 where
  pub row : List ℕ
  pub soft : Option Soft

abbrev pub made_by : Skeleton → Step → Made
made_by d i = record { row = (left_of d i).row; soft = (left_of d i).detected.soft }

-- of all steps, the newest first, with those before them
abbrev pub history_of : Skeleton → List Made → List Step → List Made
history_of d before [] = before
history_of d before (i ∷ is) = history_of (after_of d i) (made_by d i ∷ before) is

abbrev nothing_made : Made
nothing_made = record { row = []; soft = None }

-- the k-th step of a history, newest first
abbrev pub made_at : List Made → ℕ → Made
made_at made k = get_or made k nothing_made

-- n parents back through a history
abbrev pub traced : List Made → ℕ → ℕ → ℕ
traced made zero s = s
traced made (suc n) s = get_or (made_at made n).row (traced made n s) 0
