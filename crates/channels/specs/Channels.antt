-- The symbols, the states' channels and what they predict (docs/SPECIFICATION.md). Definitions only.
use Rattle.std.specs.Prelude.{ℕ, ◌+◌, ◌/◌, ◌%◌, ◌<◌, List, [], ◌∷◌, get_or, Float}
use Rattle.std.specs.Float.Ieee.{neg}
use Rattle.laws.specs.Places.{upto}
use Rattle.complex.specs.declared.Complex32.{Complex32}
use Rattle.complex.specs.Planes.{Planes, point_at}
use Rattle.complex.specs.Complex.{root_half, zero_pair, sum_of, product_of}
use Rattle.channels.specs.declared.channel.Taps.{Taps}

-- ---- symbols

-- each part of a symbol in size, so that the symbol is of size 1
abbrev pub level : Float
level = root_half

-- the symbols 0 to 3 lie at 45, 135, 225 and 315 degrees
abbrev pub real_of : ℕ → Float
real_of k = get_or (level ∷ neg level ∷ neg level ∷ level ∷ []) k level

abbrev pub imaginary_of : ℕ → Float
imaginary_of k = get_or (level ∷ level ∷ neg level ∷ neg level ∷ []) k level

abbrev pub symbol_of : ℕ → Complex32
symbol_of k = record { real = real_of k; imaginary = imaginary_of k }

-- ---- taps

-- the taps of the state s
abbrev pub taps_of : Planes → ℕ → Taps
taps_of c s = record { main = point_at c s; one = point_at c (s + 64); two = point_at c (s + 128); three = point_at c (s + 192) }

-- ---- what the taps predict

-- the product of the tap at a place with the symbol k
abbrev pub term_of : Planes → ℕ → ℕ → Complex32
term_of c at k = product_of (point_at c at) (symbol_of k)

-- what the prior p predicts for the symbol k: the four taps' products with k and with p's own three symbols, newest first
abbrev pub prediction_of : Planes → ℕ → ℕ → Complex32
prediction_of c k p = sum_of (sum_of (sum_of (sum_of zero_pair (term_of c p k)) (term_of c (p + 64) (p % 4))) (term_of c (p + 128) (p / 4 % 4))) (term_of c (p + 192) (p / 16))

-- ---- all channels

abbrev pub tap_of : Taps → ℕ → Complex32
tap_of t k = get_or (t.main ∷ t.one ∷ t.two ∷ t.three ∷ []) k zero_pair

-- the taps of all 64 states, laid tap after tap
unfoldable pub laid_out : (ℕ → Taps) → Planes
laid_out f = record { real = upto (λ i. (tap_of (f (i % 64)) (i / 64)).real) 256; imaginary = upto (λ i. (tap_of (f (i % 64)) (i / 64)).imaginary) 256 }

-- a state's parent for each of the 64 states
pub record Parents (l : List ℕ) : Type 0 where
  pub below : (s : ℕ) → s < 64 → get_or l s 0 < 64
