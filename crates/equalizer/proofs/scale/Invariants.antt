-- `equalizer::scale` meets its contract: the invariant is the weights after k turns.
use mathlib.Core.Path.{◌≡◌}
use Rattle.laws.specs.Turns.{turns}
use Rattle.equalizer.specs.Equalizer.{row_of, scale_turn}
use Rattle.equalizer.proofs.scale.Given as goal

abbrev pub invariant-loop-k : goal.invariant-loop-k
invariant-loop-k l = row_of l.wr l.wi ≡ turns (scale_turn l.gain) l.k (row_of l.initial.wr l.initial.wi)
