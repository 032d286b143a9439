-- `fresh_channels` meets its contract: 256 turns, each storing the fresh tap of its place.
use mathlib.Core.Path.{◌≡◌}
use Rattle.laws.specs.Places.{fill}
use Rattle.sequence.specs.Sequence.{fresh_tap}
use Rattle.sequence.proofs.step.fresh_channels.Given as goal

abbrev pub invariant-loop-i : goal.invariant-loop-i
invariant-loop-i l = l.h ≡ fill fresh_tap l.i l.initial.h
