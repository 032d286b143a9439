-- The trellis (docs/SPECIFICATION.md): the arrivals at all states, the first cheapest state, and its cost taken off. Definitions only.
use Rattle.std.specs.Prelude.{ℕ, ◌+◌, Bool, cond, not, ◌&&◌, ◌||◌, List, get_or, Float}
use Rattle.std.specs.Float.{nan, binary32}
use Rattle.std.specs.Float.Ieee.{sub, lt, eq}
use Rattle.laws.specs.Turns.{turns}
use Rattle.laws.specs.Places.{upto}
use Rattle.numbers.specs.Numbers.{sign_of}
use Rattle.complex.specs.declared.Complex32.{Complex32}
use Rattle.complex.specs.Planes.{Planes}
use Rattle.arrivals.specs.Arrivals.{arrival_of}
use Rattle.trellis.specs.declared.best.Least.{Least}

-- ---- the best state

-- The Rust's total order, of values that are no NaN: -0 comes before +0. No arrival is a NaN.
unfoldable pub precedes : Float → Float → Bool
unfolding sign_of
precedes x y = lt x y || (eq x y && (sign_of x && not (sign_of y)))

-- the first cheapest of the states 0 to 63
abbrev pub best_turn : List Float → ℕ → Least → Least
best_turn costs k b = cond (precedes (get_or costs (k + 1) nan) b.cost) (record { state = k + 1; cost = get_or costs (k + 1) nan }) b

unfoldable pub best_of : List Float → Least
best_of costs = turns (best_turn costs) 63 (record { state = 0; cost = get_or costs 0 nan })

-- ---- the step

-- what a step leaves: the best state, each state's cost less the best state's, its parent and its prediction
pub record Advance : Type 0 where
  pub best : ℕ
  pub costs : List Float
  pub parents : List ℕ
  pub predictions : Planes

-- the costs before the best state's is taken off
abbrev pub arrived_of : Planes → List Float → Complex32 → Bool → List Float
arrived_of c costs input reliable = upto (λ s. (arrival_of c costs input reliable s).cost) 64

unfoldable pub advanced_of : Planes → List Float → Complex32 → Bool → Advance
advanced_of c costs input reliable = record {
  best = (best_of (arrived_of c costs input reliable)).state;
  costs = upto (λ s. sub binary32 (get_or (arrived_of c costs input reliable) s nan) (best_of (arrived_of c costs input reliable)).cost) 64;
  parents = upto (λ s. (arrival_of c costs input reliable s).prior) 64;
  predictions = record { real = upto (λ s. (arrival_of c costs input reliable s).real) 64; imaginary = upto (λ s. (arrival_of c costs input reliable s).imaginary) 64 };
}
