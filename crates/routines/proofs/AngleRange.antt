-- The arctangent lies within -pi..pi, as binary32 rounds it: each step of its polynomial stays between 0 and its coefficient, so the angle within an eighth turn is in 0..1. Assumes nothing.
use Rattle.std.specs.Prelude.{◌≡◌, ℕ, zero, suc, ◌+◌, ◌*◌, ◌<◌, ◌≤◌, Bool, true, false, cond, not, T, ℤ, pos, refl, Float}
use Rattle.std.proofs.Common.{sym, ◌∙◌, subst, mul-pos, mul-le-mul, zero-lt-suc, arith, true≢false, ltb→lt, lt→ltb}
use Rattle.std.specs.Float.{nan, inf, fin, Format, binary32, binary64}
use Rattle.std.specs.Float.Ieee.{of_bits, up, down, round, sub, mul, div, neg, le, lt, eq, is_nan, fits}
use Rattle.std.specs.Float.Ieee.Fits.{up_pos, and_i}
use Rattle.std.specs.Float.Ieee.Bits.{is_true}
use Rattle.std.specs.Float.Ieee.Scale.{finite}
use Rattle.std.specs.Float.Ieee.Positive.{num, den, den_pos, positive}
use Rattle.laws.specs.FloatOrder.{nonneg, le→, le→cross, cross→le, le_self, le_trans', total, lt→le}
use Rattle.laws.specs.FloatRounding.{signed, round_signed, le_neg}
use Rattle.laws.specs.FloatSums.{In, in_finite, in_wider, sub_in}
use Rattle.laws.specs.FloatValues.{round_most, no_nan_fin}
use Rattle.numbers.specs.Numbers.{abs_of, sign_of, is_finite, convert}
use Rattle.numbers.proofs.Faithful.{keeps_over}
use Rattle.routines.specs.Circle.{one, under, with_sign}
use Rattle.routines.specs.Angle.{nought, quarter_pi, half_pi, pi, factor_of, arc_of, quadrant_arc, mirrored_of, arc_size, arctangent_of, A1, A2, A3, A4, A5, A6, A7, A8, A9, A10, A11, A12}
use Rattle.laws.specs.FloatSizes.{nonneg_finite}
use Rattle.routines.specs.Squares.{nonneg_signed, convert_up}
use Rattle.routines.proofs.AngleLaws.{plus_zero, pi32, div_is, zero_least, zero_equal}

-- ---- in 0..b, and with its sign clear
pub record Upto (b x : Float) : Type 0 where
  pub plain : T (nonneg x)
  pub most : T (le x b)

product_is : (f : Format) (x y : Float) → T (nonneg x) → T (nonneg y) → mul f x y ≡ round f false (num x * num y) (den x * den y)
unfolding mul
product_is f nan y p q = absurd p
product_is f (inf s) y p q = absurd p
product_is f (fin true m e) y p q = absurd p
product_is f (fin false m e) nan p q = absurd q
product_is f (fin false m e) (inf t) p q = absurd q
product_is f (fin false m e) (fin true n d) p q = absurd q
product_is f (fin false m e) (fin false n d) p q = refl

-- what has no sign and is at most a finite value
bounded : (z b : Float) → T (signed false z) → T (finite b) → T (le z b) → T (nonneg z)
unfolding le
bounded nan b u f h = absurd u
bounded (inf true) b u f h = absurd u
bounded (inf false) nan u f h = absurd f
bounded (inf false) (inf t) u f h = absurd f
bounded (inf false) (fin t n d) u f h = absurd h
bounded (fin true m e) b u f h = absurd u
bounded (fin false m e) b u f h = tt

-- a fraction of at most b, rounded
rounded_upto : (f : Format) (x y : ℕ) (b : Float) → 0 < y → T (nonneg b) → T (fits f b) → x * den b ≤ num b * y → Upto b (round f false x y)
rounded_upto f x y b Y N F h =
    let l = round_most f x y b Y N F h in
    record { plain = bounded (round f false x y) b (round_signed false f x y) (nonneg_finite b N) l; most = l }

abbrev pub unit : Float
unit = fin false 1 (pos 0)

-- times a factor of at most 1
times_upto : (b z p : Float) → T (nonneg b) → T (fits binary64 b) → Upto unit z → Upto b p → Upto b (mul binary64 z p)
times_upto b z p N F i j =
    subst (Upto b) (sym (product_is binary64 z p i.plain j.plain))
    (rounded_upto binary64 (num z * num p) (den z * den p) b (mul-pos (den_pos z) (den_pos p)) N F
    (bound (num z) (den z) (num p) (den p) (num b) (den b) (le→cross z unit i.plain tt i.most) (le→cross p b j.plain N j.most)))
  where
    bound : (a c p d b e : ℕ) → a * 1 ≤ 1 * 1 * c → p * e ≤ b * d → a * p * e ≤ b * (c * d)
    bound a c p d b e h k =
        let l : a ≤ c = omega arith in
        let m = mul-le-mul l k in
        omega arith

-- v / h, for v of at most h
over_upto : (v h : Float) → T (nonneg v) → T (positive h) → T (nonneg h) → T (fits binary64 unit) → T (le v h) → Upto unit (div binary64 v h)
over_upto v h N P H F l =
    subst (Upto unit) (sym (div_is binary64 v h N P))
    (rounded_upto binary64 (num v * den h) (num h * den v) unit (mul-pos (num_pos h P) (den_pos v)) tt F (bound (num v * den h) (num h * den v) (le→cross v h N H l)))
  where
    num_pos : (k : Float) → T (positive k) → 0 < num k
    num_pos nan p = absurd p
    num_pos (inf s) p = absurd p
    num_pos (fin true m e) p = absurd p
    num_pos (fin false m e) p = mul-pos (ltb→lt 0 m p) (up_pos e)

    bound : (a b : ℕ) → a ≤ b → a * 1 ≤ 1 * 1 * b
    bound a b h = omega arith

-- above a value that is above zero
above_plain : (lo x : Float) → T (positive lo) → T (finite lo) → T (finite x) → T (le lo x) → T (nonneg x)
above_plain lo nan P L X h = absurd X
above_plain lo (inf s) P L X h = absurd X
above_plain lo (fin false m e) P L X h = tt
above_plain nan (fin true m e) P L X h = absurd P
above_plain (inf s) (fin true m e) P L X h = absurd P
above_plain (fin true n d) (fin true m e) P L X h = absurd P
above_plain (fin false n d) (fin true m e) P L X h = absurd (none (n * up d) (down d) (m * up e) (down e) (mul-pos (ltb→lt 0 n P) (up_pos d)) (den_pos (fin true m e)) (le→ (fin false n d) (fin true m e) tt tt h))
  where
    none : (a b c d : ℕ) → 0 < a → 0 < d → a * d + c * b ≤ 0 * b + 0 * d → ⊥
    none a b c d p q h = let r = mul-pos p q in omega arith

upto_in : (b x : Float) → Upto b x → In plus_zero b x
upto_in b x i = record { lower = subst T (sym (zero_least x (nonneg_signed x i.plain))) tt; upper = i.most }

upto_wider : (b c x : Float) → T (finite b) → T (finite c) → T (le b c) → Upto b x → Upto c x
upto_wider b c x B C h i = record { plain = i.plain; most = le_trans' x b c (nonneg_finite x i.plain) B C i.most h }

-- c less what is at most b, for b below c: at closed ends every test is `tt`
record Step (b c : Float) : Type 0 where
  b_plain : T (nonneg b)
  b_fits : T (fits binary64 b)
  b_finite : T (finite b)
  c_finite : T (finite c)
  low_finite : T (finite (sub binary64 c b))
  low_positive : T (positive (sub binary64 c b))
  high_finite : T (finite (sub binary64 c plus_zero))
  high_is : T (le (sub binary64 c plus_zero) c)

step : (b c : Float) → T (nonneg b) → T (fits binary64 b) → T (finite b) → T (finite c) → T (finite (sub binary64 c b)) → T (positive (sub binary64 c b)) → T (finite (sub binary64 c plus_zero)) → T (le (sub binary64 c plus_zero) c) → Step b c
step b c p f x y u v w z = record { b_plain = p; b_fits = f; b_finite = x; c_finite = y; low_finite = u; low_positive = v; high_finite = w; high_is = z }

less_upto : (b c x : Float) → Step b c → Upto b x → Upto c (sub binary64 c x)
less_upto b c x s i =
    let r = sub binary64 c x in
    let C = s.c_finite in
    let lo = sub binary64 c b in
    let hi = sub binary64 c plus_zero in
    let k : In lo hi r = sub_in binary64 c c plus_zero b (and_i (finite c) (finite c) C C) s.b_finite (record { lower = le_self c C; upper = le_self c C }) (upto_in b x i) in
    let f = in_finite lo hi r s.low_finite s.high_finite k in
    record { plain = above_plain lo r s.low_positive s.low_finite f k.lower; most = le_trans' r hi c f s.high_finite C k.upper s.high_is }

under_upto : (b c z p : Float) → Step b c → Upto unit z → Upto b p → Upto c (under c z p)
under_upto b c z p s i j = less_upto b c (mul binary64 z p) s (times_upto b z p s.b_plain s.b_fits i j)

-- ---- the polynomial
factor_upto : (z : Float) → Upto unit z → Upto one (factor_of z)
unfolding factor_of of_bits fits sub le
factor_upto z i =
    let p11 = under_upto A12 A11 z A12 (step A12 A11 tt tt tt tt tt tt tt tt) i (record { plain = tt; most = tt }) in
    let p10 = under_upto A11 A10 z _ (step A11 A10 tt tt tt tt tt tt tt tt) i p11 in
    let p9 = under_upto A10 A9 z _ (step A10 A9 tt tt tt tt tt tt tt tt) i p10 in
    let p8 = under_upto A9 A8 z _ (step A9 A8 tt tt tt tt tt tt tt tt) i p9 in
    let p7 = under_upto A8 A7 z _ (step A8 A7 tt tt tt tt tt tt tt tt) i p8 in
    let p6 = under_upto A7 A6 z _ (step A7 A6 tt tt tt tt tt tt tt tt) i p7 in
    let p5 = under_upto A6 A5 z _ (step A6 A5 tt tt tt tt tt tt tt tt) i p6 in
    let p4 = under_upto A5 A4 z _ (step A5 A4 tt tt tt tt tt tt tt tt) i p5 in
    let p3 = under_upto A4 A3 z _ (step A4 A3 tt tt tt tt tt tt tt tt) i p4 in
    let p2 = under_upto A3 A2 z _ (step A3 A2 tt tt tt tt tt tt tt tt) i p3 in
    let p1 = under_upto A2 A1 z _ (step A2 A1 tt tt tt tt tt tt tt tt) i p2 in
    under_upto A1 one z _ (step A1 one tt tt tt tt tt tt tt tt) i p1

arc_upto : (t : Float) → Upto unit t → Upto unit (arc_of t)
unfolding arc_of of_bits fits
arc_upto t i = times_upto unit t (factor_of (mul binary64 t t)) tt tt i (factor_upto (mul binary64 t t) (times_upto unit t t tt tt i i))

-- ---- the first quadrant
zero_upto : Upto unit plus_zero
unfolding le
zero_upto = record { plain = tt; most = tt }

over_infinity : (m : ℕ) (e : ℤ) → Upto unit (div binary64 (fin false m e) (inf false))
unfolding div
over_infinity m e = zero_upto

unit_fits : T (fits binary64 unit)
unfolding fits
unit_fits = tt

-- v / h where v is finite and at most an h other than 0
right_upto : (v h : Float) → T (signed false v) → T (signed false h) → is_finite v ≡ true → le v h ≡ true → eq h nought ≡ false → Upto unit (div binary64 v h)
unfolding is_finite
right_upto nan h u w f l k = absurd u
right_upto (inf s) h u w f l k = absurd (true≢false (sym f))
right_upto (fin true m e) h u w f l k = absurd u
right_upto (fin false m e) nan u w f l k = absurd w
right_upto (fin false m e) (inf true) u w f l k = absurd w
right_upto (fin false m e) (inf false) u w f l k = over_infinity m e
right_upto (fin false m e) (fin true n d) u w f l k = absurd w
right_upto (fin false m e) (fin false zero d) u w f l k = absurd (true≢false (sym (zero_equal d) ∙ k))
right_upto (fin false m e) (fin false (suc n) d) u w f l k = over_upto (fin false m e) (fin false (suc n) d) tt (lt→ltb 0 (suc n) (zero-lt-suc n)) tt unit_fits (subst T (sym l) tt)

-- h / v where v is above h
beyond : (v h : Float) → T (not (is_nan h)) → T (not (is_nan v)) → le v h ≡ false → T (le h v)
beyond v h p q l = go (lt h v) (lt→le h v) (total h v p q)
  where
    go : (b : Bool) → (T b → T (le h v)) → (b ≡ false → le v h ≡ true) → T (le h v)
    go true y n = y tt
    go false y n = absurd (true≢false (sym (n refl) ∙ l))

up_upto : (v h : Float) → T (signed false v) → T (signed false h) → le v h ≡ false → Upto unit (div binary64 h v)
up_upto nan h u w l = absurd u
up_upto (inf true) h u w l = absurd u
up_upto (inf false) nan u w l = absurd w
up_upto (inf false) (inf true) u w l = absurd w
up_upto (inf false) (inf false) u w l = absurd (true≢false (unfold le in l))
up_upto (inf false) (fin true n d) u w l = absurd w
up_upto (inf false) (fin false n d) u w l = over_infinity n d
up_upto (fin true m e) h u w l = absurd u
up_upto (fin false m e) nan u w l = absurd w
up_upto (fin false m e) (inf true) u w l = absurd w
up_upto (fin false m e) (inf false) u w l = absurd (true≢false (unfold le in l))
up_upto (fin false m e) (fin true n d) u w l = absurd w
up_upto (fin false zero e) (fin false n d) u w l = absurd (true≢false (sym (is_true (le (fin false zero e) (fin false n d)) (cross→le (fin false zero e) (fin false n d) tt tt (least (up e) (down d) (n * up d * down e)))) ∙ l))
  where
    least : (a b c : ℕ) → 0 * a * b ≤ c
    least a b c = omega arith
up_upto (fin false (suc m) e) (fin false n d) u w l = over_upto (fin false n d) (fin false (suc m) e) tt (lt→ltb 0 (suc m) (zero-lt-suc m)) tt unit_fits (beyond (fin false (suc m) e) (fin false n d) (no_nan_fin false n d) (no_nan_fin false (suc m) e) l)

quadrant_upto : (v h : Float) → T (signed false v) → T (signed false h) → Upto half_pi (quadrant_arc v h)
unfolding quadrant_arc
quadrant_upto v h u w = go (le v h) (eq h nought) (is_finite v) (λ l k f. right_upto v h u w f l k) (λ l. up_upto v h u w l)
  where
    low : (x : Float) → Upto unit x → Upto half_pi x
    low x i = unfold of_bits le in upto_wider unit half_pi x tt tt tt i

    none : Upto half_pi nought
    none = unfold of_bits le in record { plain = tt; most = tt }

    eighth : Upto half_pi quarter_pi
    eighth = unfold of_bits le in record { plain = tt; most = tt }

    less : (x : Float) → Upto unit x → Upto half_pi (sub binary64 half_pi x)
    less x i = unfold of_bits le sub fits in less_upto unit half_pi x (step unit half_pi tt tt tt tt tt tt tt tt) i

    go : (l k f : Bool) → (l ≡ true → k ≡ false → f ≡ true → Upto unit (div binary64 v h)) → (l ≡ false → Upto unit (div binary64 h v))
        → Upto half_pi (cond l (cond k nought (cond f (arc_of (div binary64 v h)) quarter_pi)) (sub binary64 half_pi (arc_of (div binary64 h v))))
    go true true f p q = none
    go true false true p q = low (arc_of (div binary64 v h)) (arc_upto (div binary64 v h) (p refl refl refl))
    go true false false p q = eighth
    go false k f p q = less (arc_of (div binary64 h v)) (arc_upto (div binary64 h v) (q refl))

mirrored_upto : (a : Float) (s : Bool) → Upto half_pi a → Upto pi32 (mirrored_of a s)
unfolding mirrored_of of_bits le sub fits
mirrored_upto a true i = upto_wider pi pi32 (sub binary64 pi a) tt tt tt (less_upto half_pi pi a (step half_pi pi tt tt tt tt tt tt tt tt) i)
mirrored_upto a false i = upto_wider half_pi pi32 a tt tt tt i

-- ---- the whole circle
abs_signed : (x : Float) → T (not (is_nan x)) → T (signed false (abs_of x))
unfolding abs_of is_nan
abs_signed nan h = absurd h
abs_signed (inf s) h = tt
abs_signed (fin s m e) h = tt

narrow_upto : (a : Float) → Upto pi32 a → Upto pi32 (convert binary32 a)
unfolding of_bits fits
narrow_upto a i =
    let u = nonneg_signed a i.plain in
    let l = keeps_over binary32 pi32 a tt tt u i.most in
    record { plain = bounded (convert binary32 a) pi32 (convert_up binary32 a u) tt l; most = l }

size_upto : (y x : Float) → T (not (is_nan y)) → T (not (is_nan x)) → Upto pi32 (arc_size y x)
unfolding arc_size
size_upto y x h k = narrow_upto (mirrored_of (quadrant_arc (abs_of y) (abs_of x)) (sign_of x)) (mirrored_upto (quadrant_arc (abs_of y) (abs_of x)) (sign_of x) (quadrant_upto (abs_of y) (abs_of x) (abs_signed y h) (abs_signed x k)))

signed_in : (s : Bool) (r : Float) → Upto pi32 r → In (neg pi32) pi32 (with_sign s r)
unfolding of_bits le neg
signed_in false r i = in_wider plus_zero pi32 (neg pi32) pi32 tt tt tt tt (upto_in pi32 r i)
signed_in true r i = let j = upto_in pi32 r i in in_wider (neg pi32) (neg plus_zero) (neg pi32) pi32 tt tt tt tt (record { lower = le_neg r pi32 j.upper; upper = le_neg plus_zero r j.lower })

pub arctangent_in : (y x : Float) → T (not (is_nan y)) → T (not (is_nan x)) → In (neg pi32) pi32 (arctangent_of y x)
unfolding arctangent_of
arctangent_in y x h k = go (is_nan y) (is_nan x) h k
  where
    go : (a b : Bool) → T (not a) → T (not b) → In (neg pi32) pi32 (cond a nan (cond b nan (with_sign (sign_of y) (arc_size y x))))
    go true b p q = absurd p
    go false true p q = absurd q
    go false false p q = signed_in (sign_of y) (arc_size y x) (size_upto y x h k)
