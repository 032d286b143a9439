-- `divide` meets its contract: each of the first places is divided by the sum and multiplied by 32, once.
use Rattle.std.proofs.Common.{◌≡◌}
use Rattle.resampler.specs.Loops.{divide_turn}
use Rattle.laws.specs.Turns.{turns}
use Rattle.resampler.proofs.design.divide.Given as goal

abbrev pub invariant-loop-i : goal.invariant-loop-i
invariant-loop-i l = l.table ≡ turns (divide_turn l.sum) l.i l.initial.table
