-- `product` meets its contract: no part is a NaN, so each is the same value in f64.
use Rattle.oscillator.proofs.product.Goals as goal

pub returns : goal.returns
returns c = cc
