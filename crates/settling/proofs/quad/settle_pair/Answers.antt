-- `settle_pair` meets its contract: four lanes of a number and of the one across the diagonal.
use mathlib.Core.Path.{refl, ap}
use Rattle.settling.specs.Quads.{pair_stored}
use borrow.Author.Rules.{rules}
use Rattle.settling.proofs.quad.settle_pair.Goals as goal

pub returns : goal.returns
returns c =
    let asks = c.requires in
    pair_stored _ _ _ _ _ _ _ _ asks.j_of_eight asks.from_of_quad asks.base_of_quad _ _ _ _ _ _ _ _ _ _ _ _ _ _
    asks.above asks.base_fits (search rules) refl refl refl refl refl refl
    (ap (λ z. z.real) c.settled-z0.ensures) (ap (λ z. z.imaginary) c.settled-z0.ensures)
    (ap (λ z. z.real) c.settled-z1.ensures) (ap (λ z. z.imaginary) c.settled-z1.ensures)
    (ap (λ z. z.real) c.settled-z2.ensures) (ap (λ z. z.imaginary) c.settled-z2.ensures)
    (ap (λ z. z.real) c.settled-z3.ensures) (ap (λ z. z.imaginary) c.settled-z3.ensures)
    _ _ c.put_four.ensures
    (rw (c.conjugated.ensures, c.conjugated-2.ensures, c.conjugated-3.ensures, c.conjugated-4.ensures) at c.put_four-2.ensures)
