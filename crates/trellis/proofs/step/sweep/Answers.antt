-- `step::sweep` meets its contract: the choice among the branches that `branches` has written for the symbol k.
use Rattle.arrivals.specs.Laws.{sweep_is}
use Rattle.trellis.proofs.step.sweep.Goals as goal

pub returns : goal.returns
returns c =
    let s = c.symbol.ensures in
    let written = c.branches.ensures in (
      sweep_is (λ b. b.cost) _ _ _ _ _ _ _ _ _ _ _ _ _ s written.0 written.1 written.2 c.choose.ensures.0,
      sweep_is (λ b. b.prior) _ _ _ _ _ _ _ _ _ _ _ _ _ s written.0 written.1 written.2 c.choose.ensures.1,
      sweep_is (λ b. b.real) _ _ _ _ _ _ _ _ _ _ _ _ _ s written.0 written.1 written.2 c.choose.ensures.2,
      sweep_is (λ b. b.imaginary) _ _ _ _ _ _ _ _ _ _ _ _ _ s written.0 written.1 written.2 c.choose.ensures.3,
    )
