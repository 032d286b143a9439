-- The branches as the code works on them: planes of 64, symbol after symbol. Definitions that only contracts of this crate and `trellis` cite.
use Rattle.std.specs.Prelude.{ℕ, ◌+◌, Bool, List, get_or, Float}
use Rattle.std.specs.Float.{nan, binary32}
use Rattle.std.specs.Float.Ieee.{add}
use Rattle.laws.specs.Places.{upto}
use Rattle.complex.specs.declared.Complex32.{Complex32}
use Rattle.complex.specs.Planes.{Planes}
use Rattle.channels.specs.Channels.{symbol_of}
use Rattle.channels.specs.Layout.{predicted_of}
use Rattle.arrivals.specs.declared.choice.Branch.{Branch}
use Rattle.arrivals.specs.Arrivals.{metric_of, better, no_branch}

-- the cost of the branch from p, from the past terms' planes
unfoldable pub sum_with : Planes → Planes → List Float → Complex32 → Complex32 → Bool → ℕ → Float
sum_with c past costs s input reliable p = add binary32 (get_or costs p nan) (metric_of input (predicted_of c past s p) reliable)

-- what it predicts
unfoldable pub real_with : Planes → Planes → Complex32 → ℕ → Float
real_with c past s p = (predicted_of c past s p).real

unfoldable pub imaginary_with : Planes → Planes → Complex32 → ℕ → Float
imaginary_with c past s p = (predicted_of c past s p).imaginary

-- of a branch and the one from p that stands in the planes
unfoldable pub cheaper_of : Branch → List Float → List Float → List Float → ℕ → Branch
cheaper_of b sums real imaginary p = better b (record { cost = get_or sums p nan; prior = p; real = get_or real p nan; imaginary = get_or imaginary p nan })

unfoldable pub first_cheapest_of : List Float → List Float → List Float → ℕ → Branch
first_cheapest_of sums real imaginary q = cheaper_of (cheaper_of (cheaper_of (cheaper_of no_branch sums real imaginary q) sums real imaginary (q + 16)) sums real imaginary (q + 32)) sums real imaginary (q + 48)

-- the choice for the symbol k, from the past terms' planes
unfoldable pub swept_of : Planes → Planes → List Float → Complex32 → Bool → ℕ → ℕ → Branch
swept_of c past costs input reliable k q =
    first_cheapest_of (upto (sum_with c past costs (symbol_of k) input reliable) 64) (upto (real_with c past (symbol_of k)) 64) (upto (imaginary_with c past (symbol_of k)) 64) q
