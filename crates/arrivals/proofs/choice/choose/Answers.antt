-- `choice::choose` meets its contract: each turn of the loop lays the choice for one q at its place of the four planes.
use mathlib.Core.Path.{ap}
use Rattle.laws.specs.Places.{laid_start, laid_step, laid_end}
use borrow.Author.Rules.{rules}
use Rattle.arrivals.proofs.choice.choose.Goals as goal

pub loop-q-init : goal.loop-q-init
loop-q-init c = (laid_start _ _ _, laid_start _ _ _, laid_start _ _ _, laid_start _ _ _)

pub loop-q-preserved : goal.loop-q-preserved
loop-q-preserved c = (
  laid_step _ _ _ _ _ _ (ap (λ z. z.cost) c.first_cheapest-b.ensures) c.loop-q.invariant.0,
  laid_step _ _ _ _ _ _ (ap (λ z. z.prior) c.first_cheapest-b.ensures) c.loop-q.invariant.1,
  laid_step _ _ _ _ _ _ (ap (λ z. z.real) c.first_cheapest-b.ensures) c.loop-q.invariant.2,
  laid_step _ _ _ _ _ _ (ap (λ z. z.imaginary) c.first_cheapest-b.ensures) c.loop-q.invariant.3,
)

pub returns : goal.returns
returns c = (
  laid_end _ _ _ 16 _ _ c.loop-q.invariant.0 (search rules) (search rules),
  laid_end _ _ _ 16 _ _ c.loop-q.invariant.1 (search rules) (search rules),
  laid_end _ _ _ 16 _ _ c.loop-q.invariant.2 (search rules) (search rules),
  laid_end _ _ _ 16 _ _ c.loop-q.invariant.3 (search rules) (search rules),
)
