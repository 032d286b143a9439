-- Four inverses laid side by side, a number of each in every turn. Definitions only.
use Rattle.std.specs.Prelude.{ℕ, ◌+◌, ◌*◌, ◌/◌, ◌%◌, Bool, ◌&&◌, List, eqb, Float}
use Rattle.laws.specs.Turns.{turns}
use Rattle.complex.specs.declared.Complex32.{Complex32}
use Rattle.complex.specs.Complex.{sum_of}
use Rattle.least_squares.specs.Lanes.{pair_at, put_pair}

-- the first number of the inverse of the state s
abbrev pub place_of : ℕ → ℕ
place_of s = 256 * (s / 4) + s % 4

-- four places are one
abbrev pub alike_of : ℕ → ℕ → ℕ → ℕ → Bool
alike_of a b c d = (eqb a b && eqb a c) && eqb a d

-- four numbers put from a place on
abbrev pub put_four : ℕ → List Float → ℕ → Complex32 → Complex32 → Complex32 → Complex32 → List Float
put_four half m at x y z w = put_pair half (put_pair half (put_pair half (put_pair half m at x) (at + 1) y) (at + 2) z) (at + 3) w

-- ---- as they are

-- the numbers at the places a, b, c and d
abbrev pub numbers_put : List Float → ℕ → ℕ → ℕ → ℕ → ℕ → List Float → List Float
numbers_put old a b c d at m = put_four 4096 m at (pair_at 4096 old a) (pair_at 4096 old b) (pair_at 4096 old c) (pair_at 4096 old d)

-- the numbers e of the four inverses that begin at a, b, c and d
abbrev pub four_turn : List Float → ℕ → ℕ → ℕ → ℕ → ℕ → ℕ → List Float → List Float
four_turn old a b c d to e m = numbers_put old (a + 4 * e) (b + 4 * e) (c + 4 * e) (d + 4 * e) (to + 4 * e) m

-- their first n numbers, from the place `to` on
unfoldable pub fours_put : List Float → ℕ → ℕ → ℕ → ℕ → ℕ → ℕ → List Float → List Float
fours_put old a b c d to n l = turns (four_turn old a b c d to) n l

-- ---- one symbol on, from the place a of a number of the upper left quarter

-- the one across, in the lower right quarter, stays
abbrev pub across_of : List Float → ℕ → Complex32
across_of old a = pair_at 4096 old (a + 144)

-- the one right of it takes the one across, and so does the one below it
abbrev pub right_of : List Float → ℕ → Complex32
right_of old a = sum_of (pair_at 4096 old (a + 16)) (across_of old a)

abbrev pub below_of : List Float → ℕ → Complex32
below_of old a = sum_of (pair_at 4096 old (a + 128)) (across_of old a)

-- the number itself takes the one below it, and then the one right of it with what that has taken
abbrev pub here_of : List Float → ℕ → Complex32
here_of old a = sum_of (sum_of (pair_at 4096 old a) (pair_at 4096 old (a + 128))) (right_of old a)

-- those of four inverses, into the four quarters of a room's lanes
unfoldable pub quarters_put : List Float → ℕ → ℕ → ℕ → ℕ → ℕ → List Float → List Float
quarters_put old a b c d at m =
    put_four 1024
    (put_four 1024
    (put_four 1024
    (put_four 1024 m at (here_of old a) (here_of old b) (here_of old c) (here_of old d))
    (at + 64) (right_of old a) (right_of old b) (right_of old c) (right_of old d))
    (at + 512) (below_of old a) (below_of old b) (below_of old c) (below_of old d))
    (at + 576) (across_of old a) (across_of old b) (across_of old c) (across_of old d)

-- the number x of the sixteen of a quarter: where it stands in an inverse, and where in a room
abbrev pub number_at : ℕ → ℕ
number_at x = 32 * (x / 4) + 4 * (x % 4)

abbrev pub lane_at : ℕ → ℕ
lane_at x = 128 * (x / 4) + 16 * (x % 4)

abbrev pub foretell_turn : List Float → ℕ → ℕ → ℕ → ℕ → ℕ → ℕ → List Float → List Float
foretell_turn old a b c d to x m = quarters_put old (a + number_at x) (b + number_at x) (c + number_at x) (d + number_at x) (to + lane_at x) m

-- the first n of them, from the lane `to` on
unfoldable pub foretold_put : List Float → ℕ → ℕ → ℕ → ℕ → ℕ → ℕ → List Float → List Float
foretold_put old a b c d to n l = turns (foretell_turn old a b c d to) n l
