-- `number` gives no NaN.
use mathlib.Core.Path.{sym, ◌∙◌, subst}
use mathlib.Core.Bool.{Bool, not}
use lib.Dec.{T}
use Rattle.replay_front.proofs.number.Goals as goal

pub returns-else-is_nan : goal.returns-else-is_nan
returns-else-is_nan c = subst (λ (b : Bool). T (not b)) (sym c.if-is_nan.false ∙ c.is_nan.ensures) tt
