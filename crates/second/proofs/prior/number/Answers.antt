-- `number` meets its contract: real parts in the first half, and 0 in the other.
use mathlib.Core.Path.{refl}
use borrow.Author.Tests.{lt-ltb, le-ltb}
use Rattle.laws.specs.Branches.{cond_then, cond_no}
use Rattle.second.proofs.prior.number.Goals as goal

pub returns-then-place-lt4096 : goal.returns-then-place-lt4096
returns-then-place-lt4096 c = cond_then _ _ _ _ (lt-ltb _ _ c.if-place-lt4096.true) c.prior.ensures

pub returns-else-place-lt4096 : goal.returns-else-place-lt4096
returns-else-place-lt4096 c = cond_no _ _ _ _ (le-ltb _ _ c.if-place-lt4096.false) refl
