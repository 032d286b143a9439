-- The taps as the code works on them: plane by plane, tap after tap. Definitions that contracts of this crate and those above it cite.
use Rattle.std.specs.Prelude.{ℕ, ◌+◌, ◌*◌, ◌/◌, ◌%◌, List, [], ◌∷◌, get_or, set, Float}
use Rattle.complex.specs.declared.Complex32.{Complex32}
use Rattle.complex.specs.Complex.{zero_pair, sum_of, product_of}
use Rattle.complex.specs.Planes.{Planes, point_at}
use Rattle.channels.specs.Channels.{term_of}

-- a state's parts, put in their places of one plane
abbrev pub put_of : List Float → ℕ → Float → Float → Float → Float → List Float
put_of l s main one two three = set (set (set (set l s main) (s + 64) one) (s + 128) two) (s + 192) three

-- ---- predictions

-- the symbol that the prior p holds for its tap t + 1
abbrev pub held_of : ℕ → ℕ → ℕ
held_of p t = get_or (p % 4 ∷ p / 4 % 4 ∷ p / 16 ∷ []) t 0

-- the term of its tap t + 1, which does not turn on the new symbol
abbrev pub past_of : Planes → ℕ → ℕ → Complex32
past_of c t p = term_of c (p + 64 * (t + 1)) (held_of p t)

-- the prediction from those terms, laid tap after tap, for the symbol `newest`
abbrev pub predicted_of : Planes → Planes → Complex32 → ℕ → Complex32
predicted_of c past newest p = sum_of (sum_of (sum_of (sum_of zero_pair (product_of (point_at c p) newest)) (point_at past p)) (point_at past (p + 64))) (point_at past (p + 128))
