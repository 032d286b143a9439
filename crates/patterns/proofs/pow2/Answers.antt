-- `pow2` meets its contract: a shift of 1 by less than 64 places.
use mathlib.Core.Path.{◌≡◌, ap, ◌∙◌}
use lib.Pow.{pow-lt}
use Prim.Native.Nat.{ℕ, ◌*◌, ◌^◌, ◌<◌, ◌%◌}
use native.Mathlib.Nat.{one-mul, mod-eq_of_lt}
use Rattle.patterns.proofs.pow2.Goals as goal

one_shifted : (k : ℕ) → k < 64 → 1 * 2 ^ k % 2 ^ 64 ≡ 2 ^ k
one_shifted k h = ap (λ (x : ℕ). x % 2 ^ 64) (one-mul (2 ^ k)) ∙ mod-eq_of_lt (pow-lt h)

pub returns : goal.returns
returns c = one_shifted c.args.k c.requires
