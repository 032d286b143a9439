-- `all_finite` meets its contract: each turn looks at both parts of a sample.
use mathlib.Core.Path.{◌∙◌}
use Rattle.laws.specs.Turns.{turns_start, turns_step, turns_end}
use Rattle.samples.specs.Samples.{finite_of}
use borrow.Author.Rules.{rules}
use Rattle.samples.proofs.all_finite.Goals as goal

pub loop-i-init : goal.loop-i-init
loop-i-init c = turns_start _ _

pub loop-i-preserved : goal.loop-i-preserved
loop-i-preserved c = c.still_finite-ok.ensures ∙ turns_step _ _ _ _ c.loop-i.invariant

pub returns : goal.returns
unfolding finite_of
returns c = turns_end _ _ _ _ _ c.loop-i.invariant (search rules) (search rules)
