-- The numbers of an inverse after a step as the code makes them, by the places of a room. Definitions that only the crate's own contracts cite.
use Rattle.std.specs.Prelude.{ℕ, ◌+◌, ◌-◌, ◌*◌, ◌/◌, ◌%◌, cond, ◌&&◌, List, ltb, eqb, get_or, set, Float}
use Rattle.std.specs.Float.{nan, binary32}
use Rattle.std.specs.Float.Ieee.{add}
use Rattle.complex.specs.declared.Complex32.{Complex32}
use Rattle.least_squares.specs.Lanes.{pair_at, pairs_of, inverse_in, row_in, state_at}
use Rattle.least_squares.specs.LeastSquares.{number_of, settled_of, prior_of, is_usable, is_bounded}
use Rattle.settling.specs.Settling.{inverse_after}

-- the trace of the inverse whose first number stands at a place
abbrev pub trace_at : List Float → ℕ → Float
trace_at l base =
    add binary32 (add binary32 (add binary32 (add binary32 (add binary32 (add binary32 (add binary32
    (get_or l base nan) (get_or l (base + 36) nan)) (get_or l (base + 72) nan)) (get_or l (base + 108) nan))
    (get_or l (base + 144) nan)) (get_or l (base + 180) nan)) (get_or l (base + 216) nan)) (get_or l (base + 252) nan)

-- ---- the array of all inverses, while it is written: each of its 4,096 numbers has a turn of its own

-- four numbers from a place on
abbrev pub four_of : List Float → ℕ → Float → Float → Float → Float → List Float
four_of l at w x y z = set (set (set (set l at w) (at + 1) x) (at + 2) y) (at + 3) z

-- f's numbers where the turn is before k, and l's elsewhere
unfoldable pub swept : (ℕ → ℕ) → ℕ → (ℕ → Complex32) → List Float → List Float
swept t k f l = pairs_of 4096 (λ n. cond (ltb (t n) k) (f n) (pair_at 4096 l n))

-- f's numbers where the turn is k, and l's elsewhere
unfoldable pub turned : (ℕ → ℕ) → ℕ → (ℕ → Complex32) → List Float → List Float
turned t k f l = pairs_of 4096 (λ n. cond (eqb (t n) k) (f n) (pair_at 4096 l n))

abbrev apart : ℕ → ℕ → ℕ
apart a b = a - b + (b - a)

-- (i, j) and (j, i) of the quad q, from the lower of both on: 8 times the lower and the higher
abbrev pub pair_turn : ℕ → ℕ → ℕ
pair_turn q n =
    let i = n / 32 % 8 in
    let j = n / 4 % 8 in
    8 * (i - (i - j)) + (i + (j - i)) + 128 * apart (n / 256) q

-- the number of a quad
abbrev pub quad_at : ℕ → ℕ
quad_at n = n / 256

-- the quads and the lanes of the group g
abbrev pub quad_turn : ℕ → ℕ → ℕ
quad_turn g n = n / 256 % 4 + 4 * apart (n / 1024) g

abbrev pub lane_turn : ℕ → ℕ → ℕ
lane_turn g n = state_at n % 16 + 16 * apart (n / 1024) g

-- the numbers of the state s
abbrev pub number_turn : ℕ → ℕ → ℕ
number_turn s n = n / 4 % 64 + 64 * apart (state_at n) s

-- what stands at n after the step, of the state whose lane is its number's remainder by 16
unfoldable pub settled_number : List Float → List Float → List Float → ℕ → Complex32
settled_number w gain row n = number_of (settled_of (inverse_in w (state_at n % 16)) (row_in gain (state_at n % 16)) (row_in row (state_at n % 16))) (n / 4 % 64)

unfoldable pub prior_number : ℕ → Complex32
prior_number n = number_of prior_of (n / 4 % 64)

-- the inverse that begins at base begins anew where its denominator or its trace is of no use
unfoldable pub mended_of : Float → ℕ → List Float → List Float
mended_of d base l = cond (is_usable d && is_bounded (trace_at l base)) l (turned state_at (state_at base) prior_number l)

-- what stands at n in the end
unfoldable pub renewed_number : List Float → List Float → List Float → List Float → ℕ → Complex32
renewed_number w gain row den n = number_of (inverse_after w gain row den (state_at n)) (n / 4 % 64)
