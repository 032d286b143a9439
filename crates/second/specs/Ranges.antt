-- The ranges of the second stream's place and the lengths of its planes: what a symbol needs, and leaves. Definitions only.
use Rattle.std.specs.Prelude.{◌≡◌, ℕ, List, length, Float}
use Rattle.answer_row.specs.AnswerRow.{Sized}
use Rattle.drift_tracker.specs.Drift.{Memory}
use Rattle.drift_detector.specs.Ranges as Detector
use Rattle.answers.specs.Walk.{Table}
use Rattle.carrier.specs.Ranges as Place
use Rattle.drift_carrier.specs.Ranges as Carrier
use Rattle.second.specs.declared.Second.{Second}
use Rattle.second.specs.Second.{SecondState}
use Rattle.second.specs.Rows.{Lent}

abbrev pub Ranged : SecondState → Type 0
Ranged s = Carrier.Ranged s.carrier s.memory s.costs s.parents

-- of its place and its parents, whatever the planes' lengths
pub record PlaceRanged (s : Second) (parents : List ℕ) : Type 0 where
  pub carrier : Place.PlaceRanged s.carrier
  pub table : Table parents

-- room for each part of the floats
pub record Parts (m : Memory) (costs : List Float) : Type 0 where
  pub memory : Detector.Sized m
  pub costs_size : length costs ≡ 64

-- with a row for the answers
pub record Asks (l : Lent) : Type 0 where
  pub state : Ranged l.state
  pub answers : Sized l.answers
