-- `choice::interleave` meets its contract: each turn of the loop writes the four states that share a q, one for each symbol.
use mathlib.Core.Path.{◌≡◌}
use lib.Ieee.{nan}
use Rattle.laws.specs.Turns.{turns}
use Rattle.arrivals.specs.Runs.{fours_turn}
use Rattle.arrivals.proofs.choice.interleave.Given as goal

abbrev pub invariant-loop-q : goal.invariant-loop-q
invariant-loop-q l = l.out ≡ turns (fours_turn l.x nan) l.q l.initial.out
