-- `predict::past_terms` meets its contract: each turn of the loop writes one prior's three terms, tap after tap.
use Rattle.laws.specs.Turns.{turns_start}
use Rattle.channels.specs.Laws.{past_step, past_end}
use borrow.Author.Rules.{rules}
use Rattle.channels.proofs.predict.past_terms.Goals as goal

pub loop-p-init : goal.loop-p-init
loop-p-init c = (turns_start _ _, turns_start _ _)

pub loop-p-preserved : goal.loop-p-preserved
loop-p-preserved c =
    let laid = c.loop-p.invariant in (
      past_step (λ z. z.real) _ _ _ _ _ _ _ c.term-one.ensures c.term-two.ensures c.term-three.ensures laid.0,
      past_step (λ z. z.imaginary) _ _ _ _ _ _ _ c.term-one.ensures c.term-two.ensures c.term-three.ensures laid.1,
    )

pub returns : goal.returns
returns c = (
  past_end (λ z. z.real) _ _ _ _ c.loop-p.invariant.0 (search rules) (search rules) (search rules),
  past_end (λ z. z.imaginary) _ _ _ _ c.loop-p.invariant.1 (search rules) (search rules) (search rules),
)
