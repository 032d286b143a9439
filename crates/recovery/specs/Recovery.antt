-- The first stage of the chain: a value moves the peak keeper and the clock and, where the clock has a symbol, the equalizer and the clock's loop. Definitions only.
use Rattle.std.specs.Prelude.{Bool, ◌&&◌, List, Option, Some, None, replicate, Float}
use Rattle.numbers.specs.Constants.{zero32}
use Rattle.complex.specs.declared.Complex32.{Complex32}
use Rattle.peak.specs.declared.Level.{Level}
use Rattle.peak.specs.Peak as Peak
use Rattle.filter.specs.Filter.{Windows}
use Rattle.clock.specs.declared.Due.{Due}
use Rattle.clock.specs.Clock as Clock
use Rattle.equalizer.specs.Equalizer as Equalizer
use Rattle.complex.specs.Planes.{Planes}
use Rattle.recovery.specs.declared.RecoveryPlace.{RecoveryPlace}
use Rattle.recovery.specs.declared.step.Found.{Found}

-- the places that may be run
abbrev pub admitted_of : RecoveryPlace → Bool
admitted_of p = Peak.admitted_of p.keeper && Clock.admitted_of p.clock

-- the stage: its places, the rings of keeper and clock, and the equalizer's weights
pub record RecoveryState : Type 0 where
  pub place : RecoveryPlace
  pub keeper : Peak.Ring
  pub clock : Planes
  pub weights : Equalizer.Row

abbrev pub state_of : RecoveryPlace → List Float → List Float → List Float → List Float → List Float → List Float → RecoveryState
state_of p kr ki tr ti wr wi = record {
  place = p;
  keeper = record { real = kr; imaginary = ki };
  clock = record { real = tr; imaginary = ti };
  weights = record { real = wr; imaginary = wi };
}

-- what a value leaves: the stage, and its symbol, where there is one
pub record Step : Type 0 where
  pub state : RecoveryState
  pub found : Option Found

abbrev pub with_keeper : RecoveryState → Peak.KeeperStep → RecoveryState
with_keeper s k = record { place = record { keeper = k.kept.place; clock = s.place.clock }; keeper = k.ring; clock = s.clock; weights = s.weights }

abbrev pub with_clock : RecoveryState → Clock.ClockStep → RecoveryState
with_clock s r = record {
  place = record { keeper = s.place.keeper; clock = r.stepped.place };
  keeper = s.keeper;
  clock = record { real = r.real; imaginary = r.imaginary };
  weights = s.weights;
}

-- the clock's loop turned by the timing error of the symbol
abbrev pub with_symbol : RecoveryState → Equalizer.Step → Bool → Step
with_symbol s e reliable = record {
  state = record {
    place = record { keeper = s.place.keeper; clock = Clock.updated_of s.place.clock e.equalized.timing };
    keeper = s.keeper;
    clock = s.clock;
    weights = e.weights;
  };
  found = Some (record { symbol = e.equalized.value; reliable = reliable });
}

-- the windows equalized
abbrev pub equalized_with : RecoveryState → Windows → Bool → Equalizer.Step
equalized_with s w reliable = Equalizer.equalized_of s.weights (Equalizer.row_of w.real w.imaginary) (Equalizer.row_of w.derivative_real w.derivative_imaginary) reliable

-- a clock that has no symbol ends the step there
unfoldable pub symbol_of : Option Due → Windows → RecoveryState → Bool → Step
symbol_of None w s reliable = record { state = s; found = None }
symbol_of (Some symbol) w s reliable = with_symbol s (equalized_with s w reliable) reliable

-- the windows before a symbol is found; only a symbol's are used
abbrev pub blank : Windows
blank =
    let zeros = replicate 21 zero32 in
    record { real = zeros; imaginary = zeros; derivative_real = zeros; derivative_imaginary = zeros }

abbrev pub clocked_with : RecoveryState → Clock.ClockStep → Bool → Step
clocked_with s r reliable = symbol_of r.stepped.due r.windows (with_clock s r) reliable

module _ (taps derivatives : List Float) where
  abbrev pub clock_step : RecoveryState → Complex32 → Clock.ClockStep
  clock_step s z = Clock.stepped_of taps derivatives s.place.clock z s.clock.real s.clock.imaginary blank

  -- a keeper that is filling ends it too
  unfoldable pub level_of : Option Level → RecoveryState → Step
  level_of None s = record { state = s; found = None }
  level_of (Some level) s = clocked_with s (clock_step s level.value) level.reliable

  abbrev pub stepped_with : RecoveryState → Peak.KeeperStep → Step
  stepped_with s k = level_of k.kept.level (with_keeper s k)

  unfoldable pub stepped_of : RecoveryState → Complex32 → Step
  stepped_of s z = stepped_with s (Peak.kept_of s.place.keeper z s.keeper)
