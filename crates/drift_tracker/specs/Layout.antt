-- The taps and drifts as the code works on them. Definitions that only the crate's own contracts cite.
use Rattle.std.specs.Prelude.{ℕ, ◌+◌, ◌/◌, ◌%◌, cond, List, eqb, get_or, Float}
use Rattle.std.specs.Float.{nan}
use Rattle.laws.specs.Places.{upto}
use Rattle.complex.specs.declared.Complex32.{Complex32}
use Rattle.complex.specs.Complex.{difference_of}
use Rattle.complex.specs.Planes.{Planes, point_at}
use Rattle.least_squares.specs.Lanes.{pair_at, pairs_of, inverse_of, inverse_in, row_in, pair_in, real_in}
use Rattle.least_squares.specs.LeastSquares.{number_of, is_usable, moved_of, crossed_of, weight_of, gain_for, settled_of, renewed_of, Model, learnt_of}
use Rattle.drift_tracker.specs.Drift.{drift_at, parent_of, symbols_of}

-- two planes in one list, and taken apart again
unfoldable pub joined_of : Planes → List Float
joined_of c = pairs_of 256 (point_at c)

abbrev pub split_of : List Float → Planes
split_of l = record { real = upto (λ k. get_or l k nan) 256; imaginary = upto (λ k. get_or l (k + 256) nan) 256 }

-- the numbers of the sixteen states from 16 g on are f's, and the others stay
unfoldable pub in_fours : ℕ → (ℕ → List Complex32) → List Float → List Float
in_fours g f l = pairs_of 256 (λ k. cond (eqb (k % 64 / 16) g) (number_of (f (k % 64)) (k / 64)) (pair_at 256 l k))

-- the four numbers of the state s, moved by the gain of its lane, from the number `from` on, times the lane's error
unfoldable pub moved_from : List Float → List Float → ℕ → List Float → List Float → ℕ → List Complex32
moved_from all gain from error d s = moved_of (drift_at all s) (row_in gain (s % 16)) from (pair_in error (s % 16)) (is_usable (real_in d (s % 16)))

-- what a state learns whose taps and drift are its parent's, from the parent's inverse p one symbol on (`learnt_of` from there)
abbrev pub learnt_with : List Complex32 → List Complex32 → List Complex32 → List Complex32 → Complex32 → Model
learnt_with taps drift p u error = record {
  taps = moved_of taps (gain_for p u) 0 error (is_usable (weight_of p u));
  drift = moved_of drift (gain_for p u) 4 error (is_usable (weight_of p u));
  inverse = renewed_of (weight_of p u) (settled_of p (gain_for p u) (crossed_of p u));
}

-- what the state s has learnt, whose inverse stands in a room's lane
unfoldable pub learnt_in : List Float → List Float → List Float → List ℕ → Planes → Complex32 → ℕ → Model
learnt_in w taps drift parents predictions input s =
    learnt_with (drift_at taps s) (drift_at drift s) (inverse_in w (s % 16)) (symbols_of s (parent_of parents s)) (difference_of input (point_at predictions s))

-- the state s before it learns: taps and drift are its parent's already
abbrev pub heir_of : List Float → List Float → List Float → List ℕ → ℕ → Model
heir_of taps drift inverse parents s = record { taps = drift_at taps s; drift = drift_at drift s; inverse = inverse_of inverse (parent_of parents s) }

unfoldable pub learnt_from : List Float → List Float → List Float → List ℕ → Planes → Complex32 → ℕ → Model
learnt_from taps drift inverse parents predictions input s =
    learnt_of (heir_of taps drift inverse parents s) (symbols_of s (parent_of parents s)) (difference_of input (point_at predictions s))
