-- The hypotenuse (docs/SPECIFICATION.md): an infinity wins over a NaN, a NaN without one gives a NaN, and otherwise the result is no NaN and the exact root lies strictly between its two neighbours.
-- Assumes nothing.
use Rattle.std.specs.Prelude.{◌≡◌, ℕ, zero, suc, ◌+◌, ◌-◌, ◌*◌, ◌%◌, ◌^◌, ◌<◌, ◌≤◌, Bool, true, false, cond, ◌&&◌, ◌||◌, T, ℤ, pos, ◌==◌, nat_le, nat_lt, to_bits, Float}
use Rattle.std.proofs.Math.Path.{refl, subst}
use Rattle.std.proofs.Common.{sym, ap, ◌∙◌, zero-le, le_trans, le_of_eq, le_of_lt, lt_of_lt_of_le, lt_of_le_of_lt, lt_irrefl, mul-one, zero-mul, mul_comm, mul_assoc, mul_left_comm, mul-pos, mul-le-mul_right, mul-le-mul, add-mul, arith, true≢false, ltb→lt, lt→ltb, pow-add, pow_mono, shl_lt}
use Rattle.std.proofs.Math.Nat.{mul-mul-mul_comm}
use Rattle.std.specs.Float.{nan, inf, fin, Format, binary32}
use Rattle.std.specs.Float.Ieee.{binary64, up, down, round, sum, add, mul, lt, le, fits}
use Rattle.std.specs.Float.Ieee.Fits.{down_pos, mul-fits, and_r}
use Rattle.std.specs.Float.Ieee.Exact.{HasValue, round_exact}
use Rattle.std.specs.Float.Ieee.Order.{transfer}
use Rattle.std.specs.Float.Ieee.Scale.{round_same, finite}
use Rattle.std.specs.Float.Ieee.Positive.{num, den, den_pos, value→cross}
use Rattle.laws.specs.FloatOrder.{nonneg, le→cross, lt_clash}
use Rattle.laws.specs.FloatRounding.{round_signed}
use Rattle.laws.specs.FloatParts.{field, digits_of, power_of, finite_field, float_value, digits_lt}
use Rattle.laws.specs.FloatValues.{round_least, round_most, no_inf, no_nan_fin}
use Rattle.laws.specs.FloatSizes.{capped, nonneg_finite}
use Rattle.numbers.specs.Numbers.{convert}
use Rattle.numbers.specs.Nearest.{Value}
use Rattle.numbers.specs.Root.{sqrt_of}
use Rattle.numbers.proofs.Faithful.{root_under, root_over}
use Rattle.routines.specs.Hypotenuse.{infinite, root_of_squares, hypotenuse_of, squares_over, squares_under, Between}
use Rattle.routines.specs.Squares.{square_is, nonneg_of, not_under, convert_up, convert_fits, sqrt_up}

-- ---- the square of a value of binary32 is a value of binary64
poly : (a b d u P R : ℕ) → a * P ≡ d * u * b → a * a * (P * P * R) ≡ d * d * (u * u * R) * (b * b)
poly a b d u P R h =
    let l : a * a * (P * P * R) ≡ a * P * (a * P) * R = simp (mul_assoc, mul_comm, mul_left_comm) in
    let r : d * u * b * (d * u * b) * R ≡ d * d * (u * u * R) * (b * b) = simp (mul_assoc, mul_comm, mul_left_comm) in
    l ∙ ap (λ (z : ℕ). z * z * R) h ∙ r

squared : (a b d p : ℕ) → a * 2 ^ 149 ≡ d * 2 ^ p * b → a * a * 2 ^ 1074 ≡ d * d * 2 ^ (p + p + 776) * (b * b)
squared a b d p h =
    ap (λ (z : ℕ). a * a * z) (pow-add 2 (149 + 149) 776 ∙ ap (λ (z : ℕ). z * 2 ^ 776) (pow-add 2 149 149))
    ∙ poly a b d (2 ^ p) (2 ^ 149) (2 ^ 776) h
    ∙ ap (λ (z : ℕ). d * d * z * (b * b)) (sym (pow-add 2 (p + p) 776 ∙ ap (λ (z : ℕ). z * 2 ^ 776) (pow-add 2 p p)))

small : (d : ℕ) → d < 2 ^ 24 → d * d < 2 ^ 53
small d h = lt_of_le_of_lt (mul-le-mul (le_of_lt h) (le_of_lt h)) (ltb→lt (2 ^ 24 * 2 ^ 24) (2 ^ 53) tt)

room : (x : ℕ) → x < 255 → 53 + (x - 1 + (x - 1) + 776) ≤ 2098
room x h = omega arith

square_fin : (s : Bool) (m : ℕ) (e : ℤ) → T (fits binary32 (fin s m e)) → HasValue (mul binary64 (fin s m e) (fin s m e)) false (m * up e * (m * up e)) (down e * down e)
square_fin s m e F =
    let x = fin s m e in
    let b = to_bits binary32 x in
    let d = digits_of binary32 b in
    let p = power_of binary32 b in
    let l = finite_field binary32 x F (no_nan_fin s m e) (no_inf binary32 s m e F) in
    let v = float_value binary32 x F l in
    let q : d * d < 2 ^ 53 = small d (digits_lt binary32 b) in
    subst (λ (z : Float). HasValue z false (m * up e * (m * up e)) (down e * down e)) (sym (square_is binary64 s m e))
    (round_exact binary64 false (m * up e * (m * up e)) (down e * down e) (d * d) (p + p + 776) (mul-pos (down_pos e) (down_pos e)) q
    (lt_of_lt_of_le (shl_lt 53 (p + p + 776) q) (pow_mono (room (field binary32 b) l))) (squared (m * up e) (down e) d p v.1))

square_value : (x : Float) → T (finite x) → T (fits binary32 x) → HasValue (mul binary64 x x) false (num x * num x) (den x * den x)
square_value nan h F = absurd h
square_value (inf s) h F = absurd h
square_value (fin s m e) h F = square_fin s m e F

-- ---- a finite value of binary32 is at most 2 ^ 128 in size
bounded : (x : Float) → T (finite x) → T (fits binary32 x) → num x ≤ 2 ^ 128 * den x
unfolding fits
bounded nan h F = absurd h
bounded (inf s) h F = absurd h
bounded (fin s zero e) h F = le_trans (le_of_eq (zero-mul (up e))) zero-le
bounded (fin s (suc m) e) h F =
    let last = and_r (suc m % 2 == 1 && nat_lt (suc m) (2 ^ 24) && nat_le (down e) (2 ^ 149)) (nat_lt (suc m * up e) (2 ^ 128 * down e)) F in
    le_of_lt (ltb→lt (suc m * up e) (2 ^ 128 * down e) last)

-- ---- the sum of squares
under_pos : (x y : Float) → 0 < squares_under x y
under_pos x y = mul-pos (mul-pos (den_pos x) (den_pos x)) (mul-pos (den_pos y) (den_pos y))

-- the sum of two fractions A / B and C / D, written otherwise
same_sum : (A B C D a b c d : ℕ) → A * b ≡ a * B → C * d ≡ c * D → (A * D + C * B) * (b * d) ≡ (a * d + c * b) * (B * D)
same_sum A B C D a b c d h k =
    let u : A * D * (b * d) ≡ A * b * (D * d) = simp (mul_assoc, mul_comm, mul_left_comm) in
    let v : C * B * (b * d) ≡ C * d * (B * b) = simp (mul_assoc, mul_comm, mul_left_comm) in
    let u' : a * B * (D * d) ≡ a * d * (B * D) = simp (mul_assoc, mul_comm, mul_left_comm) in
    let v' : c * D * (B * b) ≡ c * b * (B * D) = simp (mul_assoc, mul_comm, mul_left_comm) in
    let w : A * D * (b * d) ≡ a * d * (B * D) = u ∙ ap (λ (z : ℕ). z * (D * d)) h ∙ u' in
    let z : C * B * (b * d) ≡ c * b * (B * D) = v ∙ ap (λ (z : ℕ). z * (B * b)) k ∙ v' in
    add-mul (A * D) (C * B) (b * d) ∙ ap (λ (n : ℕ). n + C * B * (b * d)) w ∙ ap (λ (n : ℕ). a * d * (B * D) + n) z ∙ sym (add-mul (a * d) (c * b) (B * D))

-- the sum of two values that are not negative
add_is : (f : Format) (x y : Float) → T (nonneg x) → T (nonneg y) → add f x y ≡ round f false (num x * den y + num y * den x) (den x * den y)
unfolding add sum
add_is f nan y p q = absurd p
add_is f (inf s) y p q = absurd p
add_is f (fin true m e) y p q = absurd p
add_is f (fin false m e) nan p q = absurd q
add_is f (fin false m e) (inf t) p q = absurd q
add_is f (fin false m e) (fin true n d) p q = absurd q
add_is f (fin false m e) (fin false n d) p q = refl

abbrev pub squares : Float → Float → Float
squares x y = add binary64 (mul binary64 x x) (mul binary64 y y)

squares_is : (x y : Float) → T (finite x) → T (finite y) → T (fits binary32 x) → T (fits binary32 y) → squares x y ≡ round binary64 false (squares_over x y) (squares_under x y)
squares_is x y h k F G =
    let X = mul binary64 x x in
    let Y = mul binary64 y y in
    let p = square_value x h F in
    let q = square_value y k G in
    add_is binary64 X Y (nonneg_of X (num x * num x) (den x * den x) p) (nonneg_of Y (num y * num y) (den y * den y) q)
    ∙ round_same binary64 false (num X * den Y + num Y * den X) (den X * den Y) (squares_over x y) (squares_under x y) (mul-pos (den_pos X) (den_pos Y)) (under_pos x y)
    (same_sum (num X) (den X) (num Y) (den Y) (num x * num x) (den x * den x) (num y * num y) (den y * den y) (value→cross X (num x * num x) (den x * den x) p) (value→cross Y (num y * num y) (den y * den y) q))

-- ---- and it does not overflow
square_most : (n d P : ℕ) → n ≤ P * d → n * n ≤ P * P * (d * d)
square_most n d P h = le_trans (mul-le-mul h h) (le_of_eq (mul-mul-mul_comm P d P d))

sum_most : (a b c d P : ℕ) → a ≤ P * b → c ≤ P * d → a * d + c * b ≤ (P + P) * (b * d)
sum_most a b c d P h k =
    let u : a * d ≤ P * b * d = mul-le-mul_right d h in
    let v : c * b ≤ P * d * b = mul-le-mul_right b k in
    omega arith

over_most : (x y : Float) → T (finite x) → T (finite y) → T (fits binary32 x) → T (fits binary32 y) → squares_over x y ≤ (2 ^ 128 * 2 ^ 128 + 2 ^ 128 * 2 ^ 128) * squares_under x y
over_most x y h k F G = sum_most (num x * num x) (den x * den x) (num y * num y) (den y * den y) (2 ^ 128 * 2 ^ 128) (square_most (num x) (den x) (2 ^ 128) (bounded x h F)) (square_most (num y) (den y) (2 ^ 128) (bounded y k G))

ceiling_fits : T (fits binary64 (fin false 1 (pos 257)))
unfolding fits
ceiling_fits = tt

squares_nonneg : (x y : Float) → T (finite x) → T (finite y) → T (fits binary32 x) → T (fits binary32 y) → T (nonneg (squares x y))
squares_nonneg x y h k F G =
    subst (λ (z : Float). T (nonneg z)) (sym (squares_is x y h k F G))
    (capped (round binary64 false (squares_over x y) (squares_under x y)) 257 (round_signed false binary64 (squares_over x y) (squares_under x y))
    (round_most binary64 (squares_over x y) (squares_under x y) (fin false 1 (pos 257)) (under_pos x y) tt ceiling_fits
    (le_trans (le_of_eq (mul-one (squares_over x y))) (over_most x y h k F G))))

-- ---- the root of a value s that is not negative, narrowed, against a value v of binary32: by squares
above_zero : (n : ℕ) → 0 < suc n
above_zero n = omega arith

zero_square : (n d : ℕ) → 0 < d → n * n * d ≤ 0 → n ≡ 0
zero_square zero d D h = refl
zero_square (suc n) d D h = absurd (lt_irrefl 0 (lt_of_lt_of_le (mul-pos (mul-pos (above_zero n) (above_zero n)) D) h))

root_zero : (e : ℤ) → convert binary32 (sqrt_of binary64 (fin false 0 e)) ≡ round binary32 false (0 * up e) (down e)
unfolding convert sqrt_of
root_zero e = refl

root_least : (v s : Float) → T (nonneg v) → T (fits binary32 v) → T (nonneg s) → num v * num v * den s ≤ num s * (den v * den v) → T (le v (convert binary32 (sqrt_of binary64 s)))
root_least v nan p F q h = absurd q
root_least v (inf t) p F q h = absurd q
root_least v (fin true m e) p F q h = absurd q
root_least v (fin false zero e) p F q h =
    let none : 0 * up e * (den v * den v) ≡ 0 = ap (λ (z : ℕ). z * (den v * den v)) (zero-mul (up e)) ∙ zero-mul (den v * den v) in
    let n : num v ≡ 0 = zero_square (num v) (down e) (down_pos e) (le_trans h (le_of_eq none)) in
    subst (λ (z : Float). T (le v z)) (sym (root_zero e))
    (round_least binary32 (0 * up e) (down e) v (down_pos e) p F (le_trans (le_of_eq (ap (λ (z : ℕ). z * down e) n ∙ zero-mul (down e))) zero-le))
root_least v (fin false (suc m) e) p F q h = root_under v (fin false (suc m) e) p F (lt→ltb 0 (suc m) (above_zero m)) h

root_most : (v s : Float) → T (nonneg v) → T (fits binary32 v) → T (nonneg s) → num s * (den v * den v) ≤ num v * num v * den s → T (le (convert binary32 (sqrt_of binary64 s)) v)
root_most v nan p F q h = absurd q
root_most v (inf t) p F q h = absurd q
root_most v (fin true m e) p F q h = absurd q
root_most v (fin false zero e) p F q h =
    let none : 0 * up e * den v ≡ 0 = ap (λ (z : ℕ). z * den v) (zero-mul (up e)) ∙ zero-mul (den v) in
    subst (λ (z : Float). T (le z v)) (sym (root_zero e))
    (round_most binary32 (0 * up e) (down e) v (down_pos e) p F (le_trans (le_of_eq none) zero-le))
root_most v (fin false (suc m) e) p F q h = root_over v (fin false (suc m) e) p F (lt→ltb 0 (suc m) (above_zero m)) h

-- ---- the exact root, the root of squaresOver x y / squaresUnder x y, lies strictly between the result's neighbours: it is above every value v of binary32 that is
-- below the result, and below every one that is above the result. Where the result is an infinity, the first half says that every finite value is below the root.
module _ (x y v : Float) (h : T (finite x)) (k : T (finite y)) (F : T (fits binary32 x)) (G : T (fits binary32 y)) (N : T (nonneg v)) (H : T (fits binary32 v)) where
  -- v * v at most the exact sum is at most the rounded one, since v * v is a value of binary64
  pub least : num v * num v * squares_under x y ≤ squares_over x y * (den v * den v) → T (le v (root_of_squares x y))
  unfolding root_of_squares
  least l =
      let vv = mul binary64 v v in
      let s = squares x y in
      let w = square_value v (nonneg_finite v N) H in
      let c = value→cross vv (num v * num v) (den v * den v) w in
      let n = nonneg_of vv (num v * num v) (den v * den v) w in
      let t : num vv * squares_under x y ≤ squares_over x y * den vv = transfer (num vv) (squares_over x y) (den vv) (squares_under x y) (num v * num v) (squares_over x y) (den v * den v) (squares_under x y) (mul-pos (den_pos v) (den_pos v)) (under_pos x y) c refl l in
      let r : T (le vv s) = subst (λ (z : Float). T (le vv z)) (sym (squares_is x y h k F G)) (round_least binary64 (squares_over x y) (squares_under x y) vv (under_pos x y) n (mul-fits binary64 v v) t) in
      root_least v s N H (squares_nonneg x y h k F G)
      (transfer (num v * num v) (num s) (den v * den v) (den s) (num vv) (num s) (den vv) (den s) (den_pos vv) (den_pos s) (sym c) refl (le→cross vv s n (squares_nonneg x y h k F G) r))

  pub most : squares_over x y * (den v * den v) ≤ num v * num v * squares_under x y → T (le (root_of_squares x y) v)
  unfolding root_of_squares
  most l =
      let vv = mul binary64 v v in
      let s = squares x y in
      let w = square_value v (nonneg_finite v N) H in
      let c = value→cross vv (num v * num v) (den v * den v) w in
      let n = nonneg_of vv (num v * num v) (den v * den v) w in
      let t : squares_over x y * den vv ≤ num vv * squares_under x y = transfer (squares_over x y) (num vv) (squares_under x y) (den vv) (squares_over x y) (num v * num v) (squares_under x y) (den v * den v) (under_pos x y) (mul-pos (den_pos v) (den_pos v)) refl c l in
      let r : T (le s vv) = subst (λ (z : Float). T (le z vv)) (sym (squares_is x y h k F G)) (round_most binary64 (squares_over x y) (squares_under x y) vv (under_pos x y) n (mul-fits binary64 v v) t) in
      root_most v s N H (squares_nonneg x y h k F G)
      (transfer (num s) (num v * num v) (den s) (den v * den v) (num s) (num vv) (den s) (den vv) (den_pos s) (den_pos vv) refl (sym c) (le→cross s vv (squares_nonneg x y h k F G) n r))

  pub neighbour_below : T (lt v (root_of_squares x y)) → num v * num v * squares_under x y < squares_over x y * (den v * den v)
  neighbour_below l = not_under (num v * num v * squares_under x y) (squares_over x y * (den v * den v)) (λ m. lt_clash v (root_of_squares x y) l (most m))

  pub neighbour_above : T (lt (root_of_squares x y) v) → squares_over x y * (den v * den v) < num v * num v * squares_under x y
  neighbour_above l = not_under (squares_over x y * (den v * den v)) (num v * num v * squares_under x y) (λ m. lt_clash (root_of_squares x y) v l (least m))

-- ---- the special cases
pub or_true : (b : Bool) → (b || true) ≡ true
or_true true = refl
or_true false = refl

pub infinity_wins_first : (s : Bool) (y : Float) → hypotenuse_of (inf s) y ≡ inf false
unfolding hypotenuse_of
infinity_wins_first s y = refl

pub infinity_wins_second : (x : Float) (s : Bool) → hypotenuse_of x (inf s) ≡ inf false
unfolding hypotenuse_of
infinity_wins_second x s = ap (λ (b : Bool). cond b (inf false) (root_of_squares x (inf s))) (or_true (infinite x))

add_nan : (x : Float) → add binary64 x nan ≡ nan
unfolding add
add_nan nan = refl
add_nan (inf s) = refl
add_nan (fin s m e) = refl

pub root_nan : convert binary32 (sqrt_of binary64 nan) ≡ nan
unfolding convert sqrt_of
root_nan = refl

pub nan_stays_first : (y : Float) → infinite y ≡ false → hypotenuse_of nan y ≡ nan
unfolding hypotenuse_of
nan_stays_first y h = ap (λ (b : Bool). cond b (inf false) (root_of_squares nan y)) h

pub nan_stays_second : (x : Float) → infinite x ≡ false → hypotenuse_of x nan ≡ nan
unfolding hypotenuse_of
nan_stays_second nan h = refl
nan_stays_second (inf s) h = absurd (true≢false h)
nan_stays_second (fin s m e) h = ap (λ (z : Float). convert binary32 (sqrt_of binary64 z)) (add_nan (mul binary64 (fin s m e) (fin s m e))) ∙ root_nan

-- otherwise it is the root of squares
pub finite_is_root : (x y : Float) → T (finite x) → T (finite y) → hypotenuse_of x y ≡ root_of_squares x y
unfolding hypotenuse_of
finite_is_root nan y h k = absurd h
finite_is_root (inf s) y h k = absurd h
finite_is_root (fin s m e) nan h k = absurd k
finite_is_root (fin s m e) (inf t) h k = absurd k
finite_is_root (fin s m e) (fin t n d) h k = refl

-- ---- for finite x and y, and every value v of binary32 that is not negative
pub hypotenuse_between : (x y v : Float) → T (finite x) → T (finite y) → T (fits binary32 x) → T (fits binary32 y) → T (nonneg v) → T (fits binary32 v) → Between x y v (hypotenuse_of x y)
hypotenuse_between x y v h k F G N H =
    subst (Between x y v) (sym (finite_is_root x y h k))
    (record { above_lower = neighbour_below x y v h k F G N H; below_upper = neighbour_above x y v h k F G N H })

-- and the result is a value of binary32: a number that is not negative, or the infinity, never a NaN
root_value : (x y : Float) → T (finite x) → T (finite y) → T (fits binary32 x) → T (fits binary32 y) → Value binary32 (root_of_squares x y)
unfolding root_of_squares
root_value x y h k F G =
    let q = sqrt_of binary64 (squares x y) in
    let u = sqrt_up binary64 (squares x y) (squares_nonneg x y h k F G) in
    record { held = convert_fits binary32 q u; plain = convert_up binary32 q u }

pub hypotenuse_value : (x y : Float) → T (finite x) → T (finite y) → T (fits binary32 x) → T (fits binary32 y) → Value binary32 (hypotenuse_of x y)
hypotenuse_value x y h k F G = subst (Value binary32) (sym (finite_is_root x y h k)) (root_value x y h k F G)
