-- `clock::update` meets its contract: the invariant is rate and phase after so many turns.
use Rattle.std.proofs.Common.{◌≡◌}
use lib.Ieee.{binary32, add}
use Rattle.laws.specs.Turns.{turns}
use Rattle.clock.specs.Clock.{Moving, move_turn}
use Rattle.clock.proofs.update.Given as goal

abbrev pub invariant-loop-turn : goal.invariant-loop-turn
invariant-loop-turn l = ◌≡◌ {A = Moving} (record { rate = l.rate; phase = l.phase }) (turns (move_turn l.error) l._turn (record { rate = l.c.rate; phase = add binary32 l.c.phase l.c.rate }))
