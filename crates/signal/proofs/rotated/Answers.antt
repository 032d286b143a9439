-- `signal::rotated` meets its contract: the product is what `multiplied_conjugate` gives, turned by pi / 4.
use Rattle.signal.proofs.rotated.Goals as goal

pub returns : goal.returns
returns c = rw c.multiplied_conjugate-product.ensures
