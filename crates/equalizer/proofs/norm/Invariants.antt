-- `equalizer::norm` meets its contract: the invariant is the sum of the first k powers.
use mathlib.Core.Path.{◌≡◌}
use Rattle.laws.specs.Turns.{turns}
use Rattle.numbers.specs.Constants.{zero32}
use Rattle.equalizer.specs.Equalizer.{row_of, norm_turn}
use Rattle.equalizer.proofs.norm.Given as goal

abbrev pub invariant-loop-k : goal.invariant-loop-k
invariant-loop-k l = l.sum ≡ turns (norm_turn (row_of l.wr l.wi)) l.k zero32
