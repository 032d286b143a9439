-- The arrivals at a state (docs/SPECIFICATION.md): the metric, the four branches to a state, and the first cheapest of them. Definitions only.
use Rattle.std.specs.Prelude.{ℕ, ◌+◌, ◌/◌, ◌%◌, Bool, cond, List, get_or, Float}
use Rattle.std.specs.Float.{nan, binary32}
use Rattle.std.specs.Float.Ieee.{of_bits, add, div, lt}
use Rattle.numbers.specs.Constants.{zero32, one32}
use Rattle.complex.specs.declared.Complex32.{Complex32}
use Rattle.complex.specs.Complex.{difference_of, power_of}
use Rattle.complex.specs.Planes.{Planes}
use Rattle.channels.specs.Channels.{prediction_of}
use Rattle.arrivals.specs.declared.choice.Branch.{Branch}

-- ---- the metric

-- the most that a metric can be
abbrev pub cap : Float
cap = of_bits binary32 0x41800000  -- 16

-- at most the cap, and the cap for a NaN
unfoldable pub capped_of : Float → Float
capped_of e = cond (lt e cap) e cap

-- the squared distance, capped; zero when unreliable
unfoldable pub metric_of : Complex32 → Complex32 → Bool → Float
unfolding capped_of
metric_of input prediction reliable = cond reliable (capped_of (power_of (difference_of input prediction))) zero32

-- ---- the branches

-- from the prior p by the symbol k: the cost so far and the metric, and what p predicts
abbrev pub branch_of : Planes → List Float → Complex32 → Bool → ℕ → ℕ → Branch
branch_of c costs input reliable k p = record {
  cost = add binary32 (get_or costs p nan) (metric_of input (prediction_of c k p) reliable);
  prior = p;
  real = (prediction_of c k p).real;
  imaginary = (prediction_of c k p).imaginary;
}

abbrev pub infinity : Float
infinity = div binary32 one32 zero32

-- where no sum is below infinity: parent 0, prediction zero, cost infinity
abbrev pub no_branch : Branch
no_branch = record { cost = infinity; prior = 0; real = zero32; imaginary = zero32 }

-- y where it is cheaper, and else x: the first of equals stays
unfoldable pub better : Branch → Branch → Branch
better x y = cond (lt y.cost x.cost) y x

-- to the state k + 4 q: the first cheapest of the priors q, q + 16, q + 32, q + 48
unfoldable pub chosen_of : Planes → List Float → Complex32 → Bool → ℕ → ℕ → Branch
unfolding better
chosen_of c costs input reliable k q =
    better (better (better (better no_branch (branch_of c costs input reliable k q)) (branch_of c costs input reliable k (q + 16))) (branch_of c costs input reliable k (q + 32)))
    (branch_of c costs input reliable k (q + 48))

abbrev pub arrival_of : Planes → List Float → Complex32 → Bool → ℕ → Branch
arrival_of c costs input reliable s = chosen_of c costs input reliable (s % 4) (s / 4)
