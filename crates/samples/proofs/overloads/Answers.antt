-- `overloads` meets its contract: each turn counts a sample that has a part at an end.
use mathlib.Core.Path.{◌∙◌}
use Rattle.laws.specs.Turns.{turns_start, turns_step, turns_end}
use Rattle.samples.specs.Samples.{samples_with, overload_of}
use borrow.Author.Rules.{rules}
use Rattle.samples.proofs.overloads.Goals as goal

pub loop-i-init : goal.loop-i-init
loop-i-init c = (search rules, turns_start _ _)

pub loop-i-preserved : goal.loop-i-preserved
loop-i-preserved c =
    (search rules, c.tally-count.ensures.same ∙ turns_step _ _ _ _ c.loop-i.invariant.1)

pub returns : goal.returns
unfolding overload_of samples_with
returns c = turns_end _ _ _ _ _ c.loop-i.invariant.1 (search rules) (search rules)
