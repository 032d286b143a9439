-- `choice::interleave_priors` meets its contract: each turn of the loop writes the four states that share a q, and each prior fits a byte.
use mathlib.Core.Path.{◌≡◌}
use Rattle.laws.specs.Turns.{turns}
use Rattle.arrivals.specs.Runs.{fours_turn}
use Rattle.arrivals.proofs.choice.interleave_priors.Given as goal

abbrev pub invariant-loop-q : goal.invariant-loop-q
invariant-loop-q l = l.out ≡ turns (fours_turn l.x 0) l.q l.initial.out
