-- `turned_back` meets its contract: products in f64, each part narrowed once.
use Rattle.carrier.specs.Carrier.{turned_back_of}
use Rattle.carrier.proofs.turned_back.Goals as goal

pub returns : goal.returns
unfolding turned_back_of
returns c =
    let widen2_is = c.widen-imaginary.ensures in
    let widen_is = c.widen-real.ensures in
    rw (c.narrowed.ensures, widen2_is, widen_is)
