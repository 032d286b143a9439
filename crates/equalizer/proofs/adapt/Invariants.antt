-- `equalizer::adapt` meets its contract: the invariant is the weights after k turns.
use mathlib.Core.Path.{◌≡◌}
use Rattle.laws.specs.Turns.{turns}
use Rattle.equalizer.specs.Equalizer.{row_of, adapt_turn}
use Rattle.equalizer.proofs.adapt.Given as goal

abbrev pub invariant-loop-k : goal.invariant-loop-k
invariant-loop-k l = row_of l.wr l.wi ≡ turns (adapt_turn l.value l.step (row_of l.xr l.xi)) l.k (row_of l.initial.wr l.initial.wi)
