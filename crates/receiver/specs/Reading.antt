-- A reading of the constellation: what it gives for each state and lent floats. Definitions only.
use Rattle.std.specs.Prelude.{ℕ, cond, List, eqb, Float, Result, Ok, Err}
use Rattle.std.specs.Float.{binary64}
use Rattle.std.specs.Float.Ieee.{of_bits}
use Rattle.signal.specs.Signal.{Read, view_of, read_of}
use Rattle.receiver_state.specs.declared.state.Receiver.{Receiver}
use Rattle.receiver.specs.declared.reading.Points.{Points}
use Rattle.checks.specs.declared.refusal.Refusal.{Refusal}
use Rattle.checks.specs.Refusal.{number_of, first_of}
use Rattle.checks.specs.Checks.{reading_checks}
use Rattle.receiver.specs.Admitted.{admitted_of}

-- the refusal's number or 0, how many points, their error, and the lent floats
pub record Reading : Type 0 where
  pub number : ℕ
  pub count : ℕ
  pub error : Float
  pub output : List Float

abbrev pub points_now : Result Points Refusal → List Float → Reading
points_now (Ok p) output = record { number = 0; count = p.count; error = p.error; output = output }
points_now (Err e) output = record { number = number_of e; count = 0; error = of_bits binary64 0; output = output }

abbrev pub shown_of : Read → Reading
shown_of s = record { number = 0; count = s.reading.count; error = s.reading.error; output = s.output }

abbrev pub reading_by : ℕ → Receiver → List Float → Reading
reading_by number r output =
    cond (eqb number 0)
    (shown_of (read_of (view_of r.chain.view r.planes.decisions.view.real r.planes.decisions.view.imaginary) output))
    (record { number = number; count = 0; error = of_bits binary64 0; output = output })

unfoldable pub reading_of : Receiver → List Float → Reading
reading_of r output = reading_by (first_of (reading_checks (admitted_of r))) r output
