-- The second stage of the chain: a symbol through the carrier with its detector, and the view. Definitions only.
use Rattle.std.specs.Prelude.{ℕ, Bool, List, Float, Option}
use Rattle.complex.specs.declared.Complex32.{Complex32}
use Rattle.complex.specs.Planes.{Planes}
use Rattle.lms_carrier.specs.Carrier as Carrier
use Rattle.signal.specs.Signal as Signal
use Rattle.decisions.specs.declared.DecisionsPlace.{DecisionsPlace}
use Rattle.answers.specs.declared.soft.Soft.{Soft}
use Rattle.answers.specs.declared.walk.Dibit.{Dibit}

-- the stage: its places, and its planes but for the soft records
pub record DecisionsState : Type 0 where
  pub place : DecisionsPlace
  pub channels : Planes
  pub costs : List Float
  pub parents : List ℕ
  pub view : Planes

abbrev pub state_of : DecisionsPlace → List Float → List Float → List Float → List ℕ → List Float → List Float → DecisionsState
state_of p hr hi costs parents vr vi = record {
  place = p;
  channels = record { real = hr; imaginary = hi };
  costs = costs;
  parents = parents;
  view = record { real = vr; imaginary = vi };
}

-- what a symbol leaves: the stage, its soft record, and what the detector answered
pub record Step : Type 0 where
  pub state : DecisionsState
  pub soft : Option Soft
  pub answer : Option Dibit

abbrev pub decided_with : Carrier.CarrierStep → Signal.View → Step
decided_with c v = record {
  state = record { place = record { carrier = c.carried.place; view = v.place }; channels = c.channels; costs = c.costs; parents = c.parents; view = record { real = v.real; imaginary = v.imaginary } };
  soft = c.carried.soft;
  answer = c.carried.answer;
}

-- the symbol through the carrier, and what the detector makes of it into the view
unfoldable pub decided_of : DecisionsState → Complex32 → Bool → Option Soft → Step
decided_of s z reliable oldest =
    let c = Carrier.carried_of s.place.carrier z reliable oldest s.channels s.costs s.parents in
    decided_with c (Signal.pushed_of (Signal.view_of s.place.view s.view.real s.view.imaginary) c.carried.equalized)

-- whether the carrier is locked
abbrev pub locked_of : DecisionsState → Bool
locked_of s = s.place.carrier.turn.locked
