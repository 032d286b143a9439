-- The angle of the point (x, y), as once-rounded steps of binary64, narrowed once (docs/ROUTINES.md). Definitions only.
use Rattle.std.specs.Prelude.{Bool, cond, from_bits, Float}
use Rattle.std.specs.Float.{nan, binary32, binary64}
use Rattle.std.specs.Float.Ieee.{sub, mul, div, neg, le, eq, is_nan}
use Rattle.numbers.specs.Numbers.{abs_of, sign_of, is_finite, convert}
use Rattle.routines.specs.Circle.{one, under, with_sign}

abbrev pub nought : Float
nought = from_bits binary64 0  -- 0

-- pi / 4
abbrev pub quarter_pi : Float
quarter_pi = from_bits binary64 0x3fe921fb54442d18  -- 0.7853981633974483

-- pi / 2
abbrev pub half_pi : Float
half_pi = from_bits binary64 0x3ff921fb54442d18  -- 1.5707963267948966

-- pi
abbrev pub pi : Float
pi = from_bits binary64 0x400921fb54442d18  -- 3.141592653589793

-- the coefficients of the arctangent, by their names in docs/ROUTINES.md
abbrev pub A1 : Float
A1 = from_bits binary64 0x3fd5555552f27572  -- 0.3333333311109846

abbrev pub A2 : Float
A2 = from_bits binary64 0x3fc9999846c2fd87  -- 0.1999998422161122

abbrev pub A3 : Float
A3 = from_bits binary64 0x3fc24903920e8756  -- 0.14285320884396907

abbrev pub A4 : Float
A4 = from_bits binary64 0x3fbc6e85ac6dd140  -- 0.11106143436137916

abbrev pub A5 : Float
A5 = from_bits binary64 0x3fb72d6302786d08  -- 0.09053629694283327

abbrev pub A6 : Float
A6 = from_bits binary64 0x3fb33a16cba135fd  -- 0.07510511847905117

abbrev pub A7 : Float
A7 = from_bits binary64 0x3faf02f9d4118f0c  -- 0.06056957925537007

abbrev pub A8 : Float
A8 = from_bits binary64 0x3fa69ea5b3ff0dee  -- 0.044179132673459395

abbrev pub A9 : Float
A9 = from_bits binary64 0x3f9b2f59905fb363  -- 0.026547812878493626

abbrev pub A10 : Float
A10 = from_bits binary64 0x3f881f69e8f4ec81  -- 0.011778666898513148

abbrev pub A11 : Float
A11 = from_bits binary64 0x3f6b402b8731dc65  -- 0.0033264970930378273

abbrev pub A12 : Float
A12 = from_bits binary64 0x3f3ce1a2307244cc  -- 0.0004406949014504446

-- the factor that makes the arctangent of t, by z = t t
unfoldable pub factor_of : Float → Float
unfolding sub mul
factor_of z =
    let p11 = under A11 z A12 in
    let p10 = under A10 z p11 in
    let p9 = under A9 z p10 in
    let p8 = under A8 z p9 in
    let p7 = under A7 z p8 in
    let p6 = under A6 z p7 in
    let p5 = under A5 z p6 in
    let p4 = under A4 z p5 in
    let p3 = under A3 z p4 in
    let p2 = under A2 z p3 in
    let p1 = under A1 z p2 in
    under one z p1

-- of a t in 0..1
unfoldable pub arc_of : Float → Float
unfolding mul factor_of
arc_of t = mul binary64 t (factor_of (mul binary64 t t))

-- of a point (h, v) with no signs and no NaN
unfoldable pub quadrant_arc : Float → Float → Float
unfolding le eq is_finite sub div arc_of
quadrant_arc v h =
    cond (le v h) (cond (eq h nought) nought (cond (is_finite v) (arc_of (div binary64 v h)) quarter_pi)) (sub binary64 half_pi (arc_of (div binary64 h v)))

-- to the left where x has a sign
unfoldable pub mirrored_of : Float → Bool → Float
unfolding sub
mirrored_of a left = cond left (sub binary64 pi a) a

-- the angle's size
unfoldable pub arc_size : Float → Float → Float
unfolding convert mirrored_of quadrant_arc abs_of sign_of
arc_size y x = convert binary32 (mirrored_of (quadrant_arc (abs_of y) (abs_of x)) (sign_of x))

unfoldable pub arctangent_of : Float → Float → Float
unfolding is_nan sign_of neg arc_size
arctangent_of y x = cond (is_nan y) nan (cond (is_nan x) nan (with_sign (sign_of y) (arc_size y x)))
