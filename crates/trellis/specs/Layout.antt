-- The costs as the code works on them. Definitions that only the crate's own contracts cite.
use Rattle.std.specs.Prelude.{◌≡◌, ℕ, zero, suc, ◌<◌, Bool, false, cond, List, get_or, T, Float}
use Rattle.std.specs.Float.{nan, inf, fin, binary32}
use Rattle.std.specs.Float.Ieee.{lt, is_nan, fits}
use Rattle.trellis.specs.declared.best.Least.{Least}

-- a further state, where it is cheaper
unfoldable pub nearer_of : Least → Float → ℕ → Least
nearer_of b cost s = cond (lt cost b.cost) (record { state = s; cost = cost }) b

-- costs none of which is a NaN or -0
unfoldable pub minus_zero : Float → Bool
minus_zero nan = false
minus_zero (inf s) = false
minus_zero (fin s zero e) = s
minus_zero (fin s (suc m) e) = false

pub record Plain (l : List Float) : Type 0 where
  pub number : (s : ℕ) → s < 64 → is_nan (get_or l s nan) ≡ false
  pub unsigned : (s : ℕ) → s < 64 → minus_zero (get_or l s nan) ≡ false

-- costs each of which is a value of an f32
pub record Values (l : List Float) : Type 0 where
  pub value : (s : ℕ) → T (fits binary32 (get_or l s nan))
