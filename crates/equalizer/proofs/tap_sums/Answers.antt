-- `equalizer::tap_sums` meets its contract: the invariant is the sums over the first k taps.
use mathlib.Core.Path.{◌∙◌}
use Rattle.laws.specs.Turns.{turns_step, turns_none, turns_end}
use Rattle.equalizer.specs.Equalizer.{tap_sums_of}
use borrow.Author.Rules.{rules}
use Rattle.equalizer.proofs.tap_sums.Goals as goal

pub loop-k-init : goal.loop-k-init
loop-k-init c = rw turns_none (cc)

pub loop-k-preserved : goal.loop-k-preserved
loop-k-preserved c = c.tapped-s.ensures ∙ turns_step _ _ _ _ c.loop-k.invariant

pub returns : goal.returns
unfolding tap_sums_of
returns c = turns_end _ _ _ _ _ c.loop-k.invariant (search rules) (search rules)
