-- The detector's costs: what keeps each within 0 to 48. A step adds to each cost a metric within 0 to 16, keeps for each state the first cheapest of its
-- four priors, and takes the least off all: each operation in f32, rounded. The invariant speaks of the costs alone, not of their past. Assumes nothing.
use Rattle.std.specs.Prelude.{ℕ, ◌+◌, ◌*◌, ◌/◌, ◌%◌, ◌<◌, false, cond, pos, Float}
use Rattle.std.proofs.Math.Dec.{T}
use Rattle.std.specs.Float.{inf, fin}
use Rattle.std.specs.Float.Ieee.{binary32, add, sub, le, lt}
use Rattle.laws.specs.FloatSums.{In}
use Rattle.trellis.specs.Metric.{c0, c16}

abbrev pub c32 : Float
c32 = fin false 1 (pos 5)

abbrev pub c48 : Float
c48 = fin false 3 (pos 4)

abbrev pub c64 : Float
c64 = fin false 1 (pos 6)

-- ---- the step
-- the sum for the state s from the r-th of its priors, by the costs c and the metrics m of (prior, symbol)
unfoldable pub cand : (ℕ → Float) → (ℕ → ℕ → Float) → ℕ → ℕ → Float
cand c m s r = add binary32 (c (s / 4 + 16 * r)) (m (s / 4 + 16 * r) (s % 4))

-- y where it is cheaper, and else x: the first of equals stays
abbrev pub cheaper : Float → Float → Float
cheaper x y = cond (lt y x) y x

unfoldable pub kept : (ℕ → Float) → (ℕ → ℕ → Float) → ℕ → Float
unfolding cand
kept c m s = cheaper (cheaper (cheaper (cheaper (inf false) (cand c m s 0)) (cand c m s 1)) (cand c m s 2)) (cand c m s 3)

unfoldable pub next : (ℕ → Float) → (ℕ → ℕ → Float) → ℕ → ℕ → Float
unfolding kept
next c m best s = sub binary32 (kept c m s) (kept c m best)

-- ---- the invariant
pub record Good (c : ℕ → Float) : Type 0 where
  pub ranged : (s : ℕ) → s < 64 → In c0 c48 (c s)
  -- a state of cost 0
  pub b0 : ℕ
  pub b0_lt : b0 < 64
  pub at : T (le (c b0) c0)
  -- one whose four successors cost 16 at most
  pub b1 : ℕ
  pub near : (q : ℕ) → q < 4 → T (le (c (q + 4 * (b1 % 16))) c16)
  -- one whose sixteen successors of successors cost 32 at most
  pub b2 : ℕ
  pub far : (u : ℕ) → u < 16 → T (le (c (u + 16 * (b2 % 4))) c32)
