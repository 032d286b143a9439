-- `equalizer::tap_sums` meets its contract: the invariant is the sums over the first k taps.
use mathlib.Core.Path.{◌≡◌}
use Rattle.laws.specs.Turns.{turns}
use Rattle.equalizer.specs.Equalizer.{row_of, sums_turn, no_sums}
use Rattle.equalizer.proofs.tap_sums.Given as goal

abbrev pub invariant-loop-k : goal.invariant-loop-k
invariant-loop-k l = l.s ≡ turns (sums_turn (row_of l.wr l.wi) (row_of l.xr l.xi) (row_of l.dr l.di)) l.k no_sums
