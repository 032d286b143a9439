-- Rooms of sixteen lanes: the number k of the lane l stands at 16 k + l, and its imaginary part half a room further. Definitions only.
use Rattle.std.specs.Prelude.{ℕ, ◌+◌, ◌-◌, ◌*◌, ◌/◌, ◌%◌, cond, List, ltb, eqb, get_or, set, Float}
use Rattle.std.specs.Float.{nan}
use Rattle.laws.specs.Places.{upto}
use Rattle.complex.specs.declared.Complex32.{Complex32}
use Rattle.complex.specs.Complex.{zero_pair}

-- the complex number at a place of a list whose imaginary parts stand `half` further
abbrev pub pair_at : ℕ → List Float → ℕ → Complex32
pair_at half l k = record { real = get_or l k nan; imaginary = get_or l (k + half) nan }

-- another put at a place
abbrev pub put_pair : ℕ → List Float → ℕ → Complex32 → List Float
put_pair half m k z = set (set m k z.real) (k + half) z.imaginary

-- such a list of f 0, f 1, .. f (half - 1)
unfoldable pub pairs_of : ℕ → (ℕ → Complex32) → List Float
pairs_of half f = upto (λ n. cond (ltb n half) (f n).real (f (n - half)).imaginary) (half + half)

-- the n numbers of a lane
unfoldable pub lane_of : ℕ → ℕ → List Float → ℕ → List Complex32
lane_of half n room lane = upto (λ k. pair_at half room (16 * k + lane)) n

-- what stands at the place k of the room in which the lane l holds the numbers f l
abbrev pub in_lanes : (ℕ → List Complex32) → ℕ → Complex32
in_lanes f k = get_or (f (k % 16)) (k / 16) zero_pair

unfoldable pub lanes_of : ℕ → (ℕ → List Complex32) → List Float
lanes_of half f = pairs_of half (in_lanes f)

-- rooms of sixteen inverses, of sixteen rows of eight, and of sixteen rows of four
abbrev pub inverse_in : List Float → ℕ → List Complex32
inverse_in = lane_of 1024 64

abbrev pub row_in : List Float → ℕ → List Complex32
row_in = lane_of 128 8

abbrev pub four_in : List Float → ℕ → List Complex32
four_in = lane_of 64 4

-- sixteen complex numbers, and sixteen real ones, one to a lane
unfoldable pub pair_in : List Float → ℕ → Complex32
pair_in e lane = pair_at 16 e lane

unfoldable pub real_in : List Float → ℕ → Float
real_in d lane = get_or d lane nan

-- ---- the inverses of all 64 states: the number e of the state s stands at 256 (s / 4) + 4 e + s % 4, and its imaginary part 4,096 further
abbrev pub state_at : ℕ → ℕ
state_at n = 4 * (n / 256) + n % 4

unfoldable pub inverse_of : List Float → ℕ → List Complex32
inverse_of l s = upto (λ e. pair_at 4096 l (256 * (s / 4) + 4 * e + s % 4)) 64

unfoldable pub inverses_of : (ℕ → List Complex32) → List Float
inverses_of f = pairs_of 4096 (λ n. get_or (f (state_at n)) (n / 4 % 64) zero_pair)

-- those of the sixteen states from 16 g on are f's, and the others stay
unfoldable pub in_group : ℕ → (ℕ → List Complex32) → List Float → List Float
in_group g f l = pairs_of 4096 (λ n. cond (eqb (n / 1024) g) (get_or (f (state_at n)) (n / 4 % 64) zero_pair) (pair_at 4096 l n))
