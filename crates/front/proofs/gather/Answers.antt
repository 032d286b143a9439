-- `gather` meets its contract: each turn is a sample into the integrators, and the counter of turns stays below 4,096.
use borrow.Author.Rules.{rules}
use native.Mathlib.Omega.{arith}
use mathlib.Core.Path.{◌∙◌}
use Rattle.laws.specs.Turns.{turns_start, turns_step, turns_end}
use Rattle.front.specs.Front.{gather_of}
use Rattle.front.specs.Runs.{number_at}
use Rattle.front.proofs.gather.Goals as goal

pub loop-i-init : goal.loop-i-init
loop-i-init c = (search rules, turns_start _ _)

pub gathered-h-requires : goal.gathered-h-requires
gathered-h-requires c =
    record { number = number_at _ c.requires.numbers _ (omega (arith, c.loop-i-test, c.requires)); renormalize_bound = search rules }

pub loop-i-preserved : goal.loop-i-preserved
loop-i-preserved c =
    let inv = c.loop-i.invariant in
    (search rules, c.gathered-h.ensures.same ∙ turns_step _ _ _ _ inv.1)

pub returns : goal.returns
unfolding gather_of
returns c = turns_end _ _ _ _ _ c.loop-i.invariant.1 (search rules) (search rules)
