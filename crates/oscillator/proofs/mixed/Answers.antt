-- `mixed` meets its contract: the product, each part narrowed once.
use mathlib.Core.Path.{ap, ◌∙◌}
use Rattle.complex.specs.Complex.{narrowed_of}
use Rattle.oscillator.proofs.mixed.Goals as goal

pub returns : goal.returns
returns c = c.narrowed.ensures ∙ ap narrowed_of c.product.ensures
