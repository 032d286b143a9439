-- `recorded` meets its contract: signs and strengths of the product turned by pi / 4.
use Rattle.answers.specs.Observed.{recorded_of}
use Rattle.answers.proofs.soft.recorded.Goals as goal

pub returns : goal.returns
unfolding recorded_of
returns c =
    let scale_is = c.scale-k.ensures in
    let eighth_turned_is = c.eighth_turned-product.ensures in
    let multiplied_conjugate_is = c.multiplied_conjugate.ensures in
    rw (c.abs-2.ensures, c.abs.ensures, scale_is, eighth_turned_is, multiplied_conjugate_is)
