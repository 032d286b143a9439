-- `settle_diagonal` meets its contract: four lanes of a number of the diagonal.
use mathlib.Core.Path.{refl, ap}
use Rattle.settling.specs.Quads.{diagonal_stored}
use borrow.Author.Rules.{rules}
use Rattle.settling.proofs.quad.settle_diagonal.Goals as goal

pub returns : goal.returns
returns c =
    let asks = c.requires in
    diagonal_stored _ _ _ _ _ _ _ asks.i_of_eight asks.from_of_quad asks.base_of_quad _ _ _ _ _ _ _ _ _ _ _
    asks.base_fits (search rules) refl refl refl
    (ap (λ z. z.real) c.diagonal-z0.ensures) (ap (λ z. z.imaginary) c.diagonal-z0.ensures)
    (ap (λ z. z.real) c.diagonal-z1.ensures) (ap (λ z. z.imaginary) c.diagonal-z1.ensures)
    (ap (λ z. z.real) c.diagonal-z2.ensures) (ap (λ z. z.imaginary) c.diagonal-z2.ensures)
    (ap (λ z. z.real) c.diagonal-z3.ensures) (ap (λ z. z.imaginary) c.diagonal-z3.ensures)
    _ c.put_four.ensures
