-- The constellation view: a push, and a read. Definitions only.
use Rattle.std.specs.Prelude.{ℕ, ◌+◌, ◌*◌, ◌/◌, ◌%◌, ◌<◌, ◌≤◌, min, Bool, cond, not, ◌&&◌, List, [], ◌∷◌, ◌++◌, length, drop, pos, ◌==◌, from_bits, nat_le, nat_lt, slice_index_or, slice_set, Float, Option, None, Some}
use mathlib.Core.List.{foldl}
use Rattle.std.specs.Float.{nan, binary32, binary64}
use Rattle.std.specs.Float.Ieee.{of_int, add, sub, mul, div, lt}
use Rattle.numbers.specs.Constants.{zero64}
use Rattle.laws.specs.Places.{upto}
use Rattle.laws.specs.Ring.{latest}
use Rattle.numbers.specs.Numbers.{abs_of, is_finite, convert}
use Rattle.numbers.specs.Root.{sqrt_of}
use Rattle.complex.specs.declared.Complex32.{Complex32}
use Rattle.complex.specs.Complex.{root_half, zero_pair, conjugate_product_of}
use Rattle.signal.specs.declared.ViewPlace.{ViewPlace}
use Rattle.signal.specs.declared.Reading.{Reading}

-- the view: its place, and its ring of 1,024 points, part by part
pub record View : Type 0 where
  pub place : ViewPlace
  pub real : List Float
  pub imaginary : List Float

abbrev pub view_of : ViewPlace → List Float → List Float → View
view_of p re im = record { place = p; real = re; imaginary = im }

abbrev pub fresh_place : ViewPlace
fresh_place = record { previous = None; head = 0; count = 0 }

-- ---- the places that may be run: head below 1,024, count at most 1,024, any observation before
abbrev pub admitted_of : ViewPlace → Bool
admitted_of p = nat_lt p.head 1024 && nat_le p.count 1024

-- the same as facts
pub record Admitted (p : ViewPlace) : Type 0 where
  pub head : p.head < 1024
  pub count : p.count ≤ 1024

-- ---- a push

-- an eighth of a turn on, by pi / 4
abbrev pub eighth_turn_of : Complex32 → Complex32
eighth_turn_of z = record {
  real = mul binary32 (sub binary32 z.real z.imaginary) root_half;
  imaginary = mul binary32 (add binary32 z.real z.imaginary) root_half;
}

-- the rotated product
abbrev pub rotated_of : Complex32 → Complex32 → Complex32
rotated_of previous symbol = eighth_turn_of (conjugate_product_of symbol previous)

-- a pair of present symbols gives the rotated product; a missing one gives a zero point
abbrev pub paired_of : Option Complex32 → Option Complex32 → Complex32
paired_of None symbol = zero_pair
paired_of (Some p) None = zero_pair
paired_of (Some p) (Some s) = rotated_of p s

-- a missing symbol breaks the pair: it is the observation before the next
unfoldable pub pushed_of : View → Option Complex32 → View
pushed_of v s = record {
  place = record { previous = s; head = (v.place.head + 1) % 1024; count = min (v.place.count + 1) 1024 };
  real = slice_set v.real v.place.head (paired_of v.place.previous s).real;
  imaginary = slice_set v.imaginary v.place.head (paired_of v.place.previous s).imaginary;
}

-- ---- the points

-- what stands past the end of a plane
abbrev pub outside : Complex32
outside = record { real = nan; imaginary = nan }

abbrev pub point_at : List Float → List Float → ℕ → Complex32
point_at real imaginary i = record { real = slice_index_or real i nan; imaginary = slice_index_or imaginary i nan }

-- the ring of points
unfoldable pub ring_of : View → List Complex32
ring_of v = upto (point_at v.real v.imaginary) 1024

-- the last n points, oldest first
unfoldable pub last_of : View → ℕ → List Complex32
last_of v n = latest outside 1024 (ring_of v) v.place.head n

-- n points of the planes from a place on, round the ring
unfoldable pub points_from : List Float → List Float → ℕ → ℕ → List Complex32
points_from real imaginary from n = upto (λ k. point_at real imaginary ((from + k) % 1024)) n

-- ---- a read

-- f of each point, added up from the first to the last
unfoldable pub summed : (Complex32 → Float) → List Complex32 → Float
summed f zs = foldl (λ sum z. add binary64 sum (f z)) zero64 zs

abbrev pub mean_of : Float → ℕ → Float
mean_of sum n = div binary64 sum (of_int binary64 (pos n))

abbrev pub power64 : Complex32 → Float
power64 z = add binary64 (mul binary64 z.real z.real) (mul binary64 z.imaginary z.imaginary)

-- the mean power over exactly the points shown
abbrev pub mean_power : List Complex32 → Float
mean_power zs = mean_of (summed power64 zs) (length zs)

-- 1 / sqrt(2) in f64: the size of either part of a point of amplitude 1 on a diagonal
abbrev pub ideal : Float
ideal = from_bits binary64 0x3fe6a09e667f3bcd  -- 0.7071067811865476

-- the square of how far the size of a part lies from the ideal
abbrev pub missed_of : Float → Float
missed_of part =
    let distance = sub binary64 (abs_of part) ideal in
    mul binary64 distance distance

-- a point's error at an amplitude
abbrev pub error_at : Float → Complex32 → Float
error_at amplitude z = add binary64 (missed_of (div binary64 z.real amplitude)) (missed_of (div binary64 z.imaginary amplitude))

-- the points over an amplitude, each part narrowed once, real and imaginary in turn
unfoldable pub parts_of : Float → List Complex32 → List Float
parts_of amplitude [] = []
parts_of amplitude (z ∷ zs) =
    convert binary32 (div binary64 z.real amplitude)
    ∷ convert binary32 (div binary64 z.imaginary amplitude)
    ∷ parts_of amplitude zs

-- the sum of the errors, and the lent floats: the points from the front, and past them what was there
pub record WrittenPoints : Type 0 where
  pub errors : Float
  pub output : List Float

unfoldable pub written_of : Float → List Complex32 → List Float → WrittenPoints
written_of amplitude zs l = record {
  errors = summed (error_at amplitude) zs;
  output = parts_of amplitude zs ++ drop (length zs * 2) l;
}

-- the mean power under which nothing is shown
abbrev pub least_power : Float
least_power = from_bits binary64 0x3d719799812dea11  -- 1e-12

-- points there are, and their mean power is finite and not under the least
abbrev pub usable_of : ℕ → Float → Bool
usable_of n power = not (n == 0) && is_finite power && not (lt power least_power)

abbrev pub hundred : Float
hundred = from_bits binary64 0x4059000000000000  -- 100

-- the root of the mean square error, in percent
abbrev pub error_of : Float → ℕ → Float
error_of errors n = mul binary64 hundred (sqrt_of binary64 (mean_of errors n))

-- the answer of a read, and the lent floats
pub record Read : Type 0 where
  pub reading : Reading
  pub output : List Float

-- nothing is shown
abbrev pub nothing : List Float → Read
nothing l = record { reading = record { count = 0; error = zero64 }; output = l }

-- n points with this power, and what writing them gives
abbrev pub shown_as : ℕ → WrittenPoints → Read
shown_as n w = record { reading = record { count = n; error = error_of w.errors n }; output = w.output }

-- the points zs, shown
unfoldable pub shown_of : List Complex32 → List Float → Read
shown_of zs l =
    cond (usable_of (length zs) (mean_power zs))
    (shown_as (length zs) (written_of (sqrt_of binary64 (mean_power zs)) zs l))
    (nothing l)

-- the last min(held, room) points; the room is the number of whole pairs of floats lent
abbrev pub read_of : View → List Float → Read
read_of v l = shown_of (last_of v (min v.place.count (length l / 2))) l
