-- The ranges of the stage's places and the lengths of its planes: what a symbol needs, and leaves. Definitions only.
use Rattle.answer_row.specs.AnswerRow.{Sized}
use Rattle.lms_carrier.specs.Ranges as Carrier
use Rattle.signal.specs.Signal as Signal
use Rattle.decisions.specs.Decisions.{DecisionsState}
use Rattle.decisions.specs.Rows.{Lent}

pub record Ranged (s : DecisionsState) : Type 0 where
  pub carrier : Carrier.Ranged s.place.carrier s.channels.real s.channels.imaginary s.costs s.parents
  pub view : Signal.Admitted s.place.view

-- with a row for the answers
pub record Asks (l : Lent) : Type 0 where
  pub state : Ranged l.state
  pub answers : Sized l.answers
