-- Sine and cosine, as once-rounded steps of binary64 (docs/ROUTINES.md). Definitions only.
use Rattle.std.specs.Prelude.{ℕ, ◌%◌, Bool, cond, pos, ◌==◌, from_bits, Float}
use Rattle.std.specs.Float.{nan, binary64}
use Rattle.std.specs.Float.Ieee.{of_int, to_unsigned, add, sub, mul, neg, le}
use Rattle.numbers.specs.Numbers.{abs_of, sign_of, clamp_of}
use Rattle.routines.specs.declared.circle.SineCosine.{SineCosine}
use Rattle.routines.specs.declared.circle.Remainder.{Remainder}

abbrev pub half : Float
half = from_bits binary64 0x3fe0000000000000  -- 0.5

abbrev pub one : Float
one = from_bits binary64 0x3ff0000000000000  -- 1

abbrev pub minus_one : Float
minus_one = from_bits binary64 0xbff0000000000000  -- -1

-- beyond it there is no answer
abbrev pub farthest : Float
farthest = from_bits binary64 0x4050000000000000  -- 64

-- 2 / pi
abbrev pub two_over_pi : Float
two_over_pi = from_bits binary64 0x3fe45f306dc9c883  -- 0.6366197723675814

-- pi / 2 in parts of 33, 33 and 53 bits
abbrev pub half_pi_high : Float
half_pi_high = from_bits binary64 0x3ff921fb54400000  -- 1.5707963267341256

abbrev pub half_pi_middle : Float
half_pi_middle = from_bits binary64 0x3dd0b4611a600000  -- 6.077100506303966e-11

abbrev pub half_pi_low : Float
half_pi_low = from_bits binary64 0x3ba3198a2e037073  -- 2.0222662487959506e-21

-- the coefficients of sine and cosine, by their names in docs/ROUTINES.md
abbrev pub S1 : Float
S1 = from_bits binary64 0x3fc5555555555549  -- 0.16666666666666632

abbrev pub S2 : Float
S2 = from_bits binary64 0x3f8111111110f8a6  -- 0.00833333333332249

abbrev pub S3 : Float
S3 = from_bits binary64 0x3f2a01a019c161d5  -- 0.0001984126982985795

abbrev pub S4 : Float
S4 = from_bits binary64 0x3ec71de357b1fe7d  -- 2.7557313707070068e-6

abbrev pub S5 : Float
S5 = from_bits binary64 0x3e5ae5e68a2b9ceb  -- 2.5050760253406863e-8

abbrev pub S6 : Float
S6 = from_bits binary64 0x3de5d93a5acfd57c  -- 1.58969099521155e-10

abbrev pub C1 : Float
C1 = from_bits binary64 0x3fa555555555554c  -- 0.0416666666666666

abbrev pub C2 : Float
C2 = from_bits binary64 0x3f56c16c16c15177  -- 0.001388888888887411

abbrev pub C3 : Float
C3 = from_bits binary64 0x3efa01a019cb1590  -- 2.480158728947673e-5

abbrev pub C4 : Float
C4 = from_bits binary64 0x3e927e4f809c52ad  -- 2.7557314351390663e-7

abbrev pub C5 : Float
C5 = from_bits binary64 0x3e21ee9ebdb4b1c4  -- 2.087572321298175e-9

abbrev pub C6 : Float
C6 = from_bits binary64 0x3da8fae9be8838d4  -- 1.1359647557788195e-11

-- c - z p, the step of every polynomial
abbrev pub under : Float → Float → Float → Float
under c z p = sub binary64 c (mul binary64 z p)

-- how many quarter turns an angle has, to the nearest
unfoldable pub turns_of : Float → ℕ
unfolding to_unsigned add mul
turns_of a = to_unsigned 64 (add binary64 (mul binary64 two_over_pi a) half)

-- what is left of it then, in two parts: what each difference rounds off is taken on into the next
abbrev pub left_from : Float → ℕ → Float → Remainder
left_from a n k =
    let t = sub binary64 a (mul binary64 k half_pi_high) in
    let w = mul binary64 k half_pi_middle in
    let u = sub binary64 t w in
    let e = sub binary64 (sub binary64 t u) w in
    let v = sub binary64 (mul binary64 k half_pi_low) e in
    let rest = sub binary64 u v in
    record { quarter = n % 4; rest = rest; tail = sub binary64 (sub binary64 u rest) v }

abbrev pub left_of : Float → ℕ → Remainder
left_of a n = left_from a n (of_int binary64 (pos n))

unfoldable pub reduced_of : Float → Remainder
unfolding turns_of of_int sub mul
reduced_of a = left_of a (turns_of a)

-- the sine of a rest with its tail
unfoldable pub near_sine : Float → Float → Float
unfolding add sub mul
near_sine rest tail =
    let z = mul binary64 rest rest in
    let v = mul binary64 z rest in
    let q5 = under S5 z S6 in
    let q4 = under S4 z q5 in
    let q3 = under S3 z q4 in
    let q2 = under S2 z q3 in
    let g = sub binary64 (mul binary64 z (sub binary64 (mul binary64 half tail) (mul binary64 v q2))) tail in
    sub binary64 rest (add binary64 g (mul binary64 v S1))

-- the cosine of a rest with its tail
unfoldable pub near_cosine : Float → Float → Float
unfolding add sub mul
near_cosine rest tail =
    let z = mul binary64 rest rest in
    let q5 = under C5 z C6 in
    let q4 = under C4 z q5 in
    let q3 = under C3 z q4 in
    let q2 = under C2 z q3 in
    let q1 = under C1 z q2 in
    let h = mul binary64 half z in
    let w = sub binary64 one h in
    add binary64 w (add binary64 (sub binary64 (sub binary64 one w) h) (sub binary64 (mul binary64 z (mul binary64 z q1)) (mul binary64 rest tail)))

-- one of four, by the quarter turns modulo 4
abbrev pub quartered : {A : Type 0} → ℕ → A → A → A → A → A
quartered q a b c d = cond (q == 0) a (cond (q == 1) b (cond (q == 2) c d))

unfoldable pub turned_sine : Remainder → Float
unfolding near_sine near_cosine neg
turned_sine a =
    let s = near_sine a.rest a.tail in
    let c = near_cosine a.rest a.tail in
    quartered a.quarter s c (neg s) (neg c)

unfoldable pub turned_cosine : Remainder → Float
unfolding near_sine near_cosine neg
turned_cosine a =
    let s = near_sine a.rest a.tail in
    let c = near_cosine a.rest a.tail in
    quartered a.quarter c (neg s) (neg c) s

unfoldable pub turned_pair : Remainder → SineCosine
unfolding turned_sine turned_cosine
turned_pair a = record { sine = turned_sine a; cosine = turned_cosine a }

-- brought back to -1..1, a NaN beyond 64
abbrev pub in_reach : Float → Float → Float
in_reach a v = cond (le a farthest) (clamp_of v minus_one one) nan

-- of an angle with no sign
unfoldable pub size_sine : Float → Float
unfolding turned_sine reduced_of clamp_of le
size_sine a = in_reach a (turned_sine (reduced_of a))

unfoldable pub size_cosine : Float → Float
unfolding turned_cosine reduced_of clamp_of le
size_cosine a = in_reach a (turned_cosine (reduced_of a))

unfoldable pub size_pair : Float → SineCosine
unfolding size_sine size_cosine
size_pair a = record { sine = size_sine a; cosine = size_cosine a }

-- the size v with the sign s
abbrev pub with_sign : Bool → Float → Float
with_sign s v = cond s (neg v) v

unfoldable pub sine_of : Float → Float
unfolding size_sine abs_of sign_of neg
sine_of x = with_sign (sign_of x) (size_sine (abs_of x))

unfoldable pub cosine_of : Float → Float
unfolding size_cosine abs_of
cosine_of x = size_cosine (abs_of x)

unfoldable pub pair_of : Float → SineCosine
unfolding sine_of cosine_of
pair_of x = record { sine = sine_of x; cosine = cosine_of x }
