-- `store` meets its contract: 64 turns lay the row in its place.
use mathlib.Core.Path.{refl}
use Rattle.answers.specs.Walk.{stored_of}
use Rattle.laws.specs.Places.{laid_start, laid_step, laid_end}
use borrow.Author.Rules.{rules}
use Rattle.answers.proofs.walk.store.Goals as goal

pub loop-s-init : goal.loop-s-init
loop-s-init c = laid_start _ _ _

pub loop-s-preserved : goal.loop-s-preserved
loop-s-preserved c = laid_step _ _ _ _ _ _ refl c.loop-s.invariant

pub returns : goal.returns
unfolding stored_of
returns c = laid_end _ _ _ 64 _ _ c.loop-s.invariant (search rules) (search rules)
