-- How the states' taps follow what was received: the detector's second tracker (docs/SPECIFICATION.md). Each state has four taps, their drift with each symbol,
-- and the inverse that weighs both. Definitions only.
use Rattle.std.specs.Prelude.{ℕ, ◌+◌, ◌*◌, ◌/◌, ◌%◌, Bool, cond, List, [], ◌∷◌, get_or, Float}
use Rattle.std.specs.Float.{nan, binary32}
use Rattle.std.specs.Float.Ieee.{add}
use Rattle.laws.specs.Places.{upto}
use Rattle.complex.specs.declared.Complex32.{Complex32}
use Rattle.complex.specs.Complex.{difference_of}
use Rattle.complex.specs.Planes.{Planes, point_at}
use Rattle.channels.specs.Channels.{symbol_of}
use Rattle.least_squares.specs.Lanes.{pair_at, pairs_of, inverse_of, inverses_of}
use Rattle.least_squares.specs.LeastSquares.{number_of, Model, learnt_of}

-- the taps (tap t of the state s at 64 t + s), the drifts (the same, imaginary parts 256 further) and the inverses of all states
pub record Memory : Type 0 where
  pub channels : Planes
  pub drift : List Float
  pub inverse : List Float

-- ---- one state

unfoldable pub taps_at : Planes → ℕ → List Complex32
taps_at c s = upto (λ t. point_at c (64 * t + s)) 4

unfoldable pub drift_at : List Float → ℕ → List Complex32
drift_at d s = upto (λ t. pair_at 256 d (64 * t + s)) 4

abbrev pub model_at : Memory → ℕ → Model
model_at m s = record { taps = taps_at m.channels s; drift = drift_at m.drift s; inverse = inverse_of m.inverse s }

unfoldable pub parent_of : List ℕ → ℕ → ℕ
parent_of parents s = get_or parents s 0

-- the symbols of a state whose parent is p: the newest, and the parent's three
abbrev pub symbols_of : ℕ → ℕ → List Complex32
symbols_of s p = symbol_of (s % 4) ∷ symbol_of (p % 4) ∷ symbol_of (p / 4 % 4) ∷ symbol_of (p / 16) ∷ []

-- ---- the step

-- where the input is reliable the taps go on by their drift before anything else
unfoldable pub advanced_of : Planes → List Float → Planes
advanced_of c drift = record {
  real = upto (λ k. add binary32 (get_or c.real k nan) (get_or drift k nan)) 256;
  imaginary = upto (λ k. add binary32 (get_or c.imaginary k nan) (get_or drift (k + 256) nan)) 256;
}

-- the state s after the step: its parent's, which has learnt from the state's own error where the input is reliable
unfoldable pub model_after : Memory → List ℕ → Planes → Complex32 → Bool → ℕ → Model
model_after m parents predictions input reliable s =
    let p = parent_of parents s in
    cond reliable (learnt_of (model_at m p) (symbols_of s p) (difference_of input (point_at predictions s))) (model_at m p)

-- ---- all states

unfoldable pub drifts_of : (ℕ → List Complex32) → List Float
drifts_of f = pairs_of 256 (λ k. number_of (f (k % 64)) (k / 64))

unfoldable pub laid_out : (ℕ → Model) → Memory
laid_out f = record {
  channels = record {
    real = upto (λ k. (number_of (f (k % 64)).taps (k / 64)).real) 256;
    imaginary = upto (λ k. (number_of (f (k % 64)).taps (k / 64)).imaginary) 256;
  };
  drift = drifts_of (λ s. (f s).drift);
  inverse = inverses_of (λ s. (f s).inverse);
}

unfoldable pub followed_of : Memory → List ℕ → Planes → Complex32 → Bool → Memory
followed_of m parents predictions input reliable = laid_out (model_after m parents predictions input reliable)
