-- `round_root` is the rounding of the exact root: of every fraction that is at most the root the rounded value is at most `round_root`, and of every fraction that is at least the root it is at least that.
-- a / b ≤ √(num / den) is said by whole-number squares: a * a * den ≤ num * (b * b). Assumes nothing.
use Rattle.std.specs.Prelude.{◌≡◌, ℕ, suc, ◌+◌, ◌-◌, ◌*◌, ◌/◌, ◌%◌, ◌^◌, ◌<◌, ◌≤◌, Bool, true, false, cond, not, T, nat_lt, refl}
use Rattle.std.proofs.Common.{sym, ap, ◌∙◌, subst, inl, inr, mul-le-mul_left, le_of_suc-le-suc, le_refl, le_trans, le_of_eq, le_of_lt, lt_of_lt_of_le, lt_of_le_of_lt, lt_of_not-le, not-le_of_lt, eq-or-lt_of_le, mul-le-mul, mul-le-mul_right, mul-lt-mul_of_pos_right, le_of_mul-le-mul_right, lt_of_mul-lt-mul_right, mul-pos, mul_assoc, mul_right_comm, div-lt_iff_lt-mul, le-div_iff_mul-le, div-mul-le_self, div-add-mod', arith, true≢false, ltb→lt, nltb→le, pow-add, pow_pos, pow_mono}
use Prim.Native.Nat.{zero-le, compare, Ordering}
use Rattle.std.proofs.Math.Nat.{mul-mul-mul_comm, div-div-eq-div-mul}
use lib.Ieee.{Float, nan, inf, fin, Format, prec, emax, low, size, nearest, odd, units, round, le}
use Rattle.std.specs.Float.Ieee.Digits.{size-lt, size-le, size_reaches}
use Rattle.std.specs.Float.Ieee.Fits.{kept-lt, nearest-le, round_is, two, two-le_pos}
use Rattle.std.specs.Float.Ieee.Exact.{HasValue, odd_sign}
use Rattle.std.specs.Float.Ieee.Nearest.{closest, nearest-ge}
use Rattle.std.specs.Float.Ieee.Order.{drop, kept, le_of_values}
use Rattle.numbers.specs.Root.{isqrt, closest_root, round_root}
use Rattle.patterns.specs.Shift.{Cmp, cmp}
use Rattle.numbers.specs.Roots.{isqrt_is, closest_root_is, root_at_least}

pub square_lt : (a b : ℕ) → a * a < b * b → a < b
square_lt a b h = lt_of_not-le (λ (g : b ≤ a). not-le_of_lt h (mul-le-mul g g))

-- ---- a fraction x / y and the root √(a / b)
abbrev Under : ℕ → ℕ → ℕ → ℕ → Type 0
Under x y a b = x * x * b ≤ a * (y * y)

abbrev Over : ℕ → ℕ → ℕ → ℕ → Type 0
Over x y a b = a * (y * y) ≤ x * x * b

-- a number t with t * y ≤ c * x is at most c * √(a / b), squared: here c is 1 or 2
sq_under : (x y a b t c : ℕ) → 0 < y → Under x y a b → t * y ≤ c * x → t * t * b ≤ c * c * a
sq_under x y a b t c Y h k =
    le_of_mul-le-mul_right
    (le_trans (le_of_eq (r1 t b y)) (le_trans (mul-le-mul_right b (mul-le-mul k k)) (le_trans (le_of_eq (r2 c x b)) (le_trans (mul-le-mul_left (c * c) h) (le_of_eq (r3 c a y))))))
    (mul-pos Y Y)
  where
    r1 : (t b y : ℕ) → t * t * b * (y * y) ≡ t * y * (t * y) * b
    r1 t b y = omega arith

    r2 : (c x b : ℕ) → c * x * (c * x) * b ≡ c * c * (x * x * b)
    r2 c x b = omega arith

    r3 : (c a y : ℕ) → c * c * (a * (y * y)) ≡ c * c * a * (y * y)
    r3 c a y = omega arith

-- and one with t * y > c * x is above c * √(a / b), where x / y is at least the root, squared
sq_over : (x y a b t c : ℕ) → 0 < b → Over x y a b → t * t * b ≤ c * c * a → t * y ≤ c * x
sq_over x y a b t c B h k =
    le_of_not_lt_sq (t * y) (c * x)
    (le_of_mul-le-mul_right (le_trans (le_of_eq (r1 t b y)) (le_trans (mul-le-mul_right (y * y) k) (le_trans (le_of_eq (sym (r3 c a y))) (le_trans (mul-le-mul_left (c * c) h) (le_of_eq (sym (r2 c x b))))))) B)
  where
    r1 : (t b y : ℕ) → t * y * (t * y) * b ≡ t * t * b * (y * y)
    r1 t b y = omega arith

    r2 : (c x b : ℕ) → c * x * (c * x) * b ≡ c * c * (x * x * b)
    r2 c x b = omega arith

    r3 : (c a y : ℕ) → c * c * (a * (y * y)) ≡ c * c * a * (y * y)
    r3 c a y = omega arith

    le_of_not_lt_sq : (u v : ℕ) → u * u ≤ v * v → u ≤ v
    le_of_not_lt_sq u v g = le_of_suc-le-suc (lt_of_not-le (λ (n : suc v ≤ u). not-le_of_lt (lt_of_lt_of_le (sq v) (mul-le-mul n n)) g))
      where
        sq : (v : ℕ) → v * v < suc v * suc v
        sq v = omega arith

one : (x : ℕ) → 1 * x ≡ x
one x = omega arith

ones : (x : ℕ) → 1 * 1 * x ≡ x
ones x = omega arith

-- whole parts
part_under : (x y a b : ℕ) → 0 < y → 0 < b → Under x y a b → x / y ≤ isqrt (a / b)
part_under x y a b Y B h =
    let t = x / y in
    let s : t * t * b ≤ a = le_trans (sq_under x y a b t 1 Y h (le_trans (div-mul-le_self x y) (le_of_eq (sym (one x))))) (le_of_eq (ones a)) in
    below t (isqrt (a / b)) (square_lt t (isqrt (a / b) + 1) (lt_of_le_of_lt ((le-div_iff_mul-le B).1 s) (isqrt_is (a / b)).most))
  where
    below : (t r : ℕ) → t < r + 1 → t ≤ r
    below t r h = omega arith

part_over : (x y a b : ℕ) → 0 < y → 0 < b → Over x y a b → isqrt (a / b) ≤ x / y
part_over x y a b Y B h =
    let r = isqrt (a / b) in
    (le-div_iff_mul-le Y).1 (le_trans (sq_over x y a b r 1 B h (le_trans ((le-div_iff_mul-le B).0 (isqrt_is (a / b)).least) (le_of_eq (sym (ones a))))) (le_of_eq (one x)))

-- with the same whole part, the halves compare alike
same_under : (w : ℕ) (o p : Ordering) (u v s t : ℕ) → Cmp o u v → Cmp p s t → (v ≤ u → t ≤ s) → (v < u → t < s) → nearest w o ≤ nearest w p
same_under w Ordering.lt p u v s t x y g h = nearest-ge w p
same_under w Ordering.eq Ordering.lt u v s t x y g h = absurd (not-le_of_lt y (g (le_of_eq (sym x))))
same_under w Ordering.eq Ordering.eq u v s t x y g h = le_refl (w + w % 2)
same_under w Ordering.eq Ordering.gt u v s t x y g h = nearest-le w Ordering.eq
same_under w Ordering.gt Ordering.lt u v s t x y g h = absurd (not-le_of_lt y (le_of_lt (h x)))
same_under w Ordering.gt Ordering.eq u v s t x y g h = absurd (no s t y (h x))
  where
    no : (s t : ℕ) → s ≡ t → t < s → ⊥
    no s t e l = omega arith
same_under w Ordering.gt Ordering.gt u v s t x y g h = le_refl (suc w)

-- x is w * y and the remainder
split : (x y w : ℕ) → x / y ≡ w → w * y + x % y ≡ x
split x y w e = ap (λ (z : ℕ). z * y + x % y) (sym e) ∙ div-add-mod' x y

half_le : (x y w r : ℕ) → w * y + r ≡ x → y ≤ r * 2 → (2 * w + 1) * y ≤ 2 * x
half_le x y w r e h = omega arith

half_lt : (x y w r : ℕ) → w * y + r ≡ x → y < r * 2 → 2 * x < (2 * w + 1) * y → ⊥
half_lt x y w r e h k = omega arith

under_half : (x y w r : ℕ) → w * y + r ≡ x → (2 * w + 1) * y ≤ 2 * x → y ≤ r * 2
under_half x y w r e h = omega arith

fours : (a : ℕ) → 2 * 2 * a ≡ a * 4
fours a = omega arith

-- strict: (2 w + 1) y < 2 x
strict : (x y a b t : ℕ) → 0 < y → 0 < b → Under x y a b → t * y < 2 * x → t * t * b < a * 4
strict x y a b t Y B h k =
    lt_of_mul-lt-mul_right (y * y)
    (lt_of_le_of_lt (le_of_eq (r1 t b y)) (lt_of_lt_of_le (mul-lt-mul_of_pos_right (sq (t * y) (2 * x) k) B) (le_trans (le_of_eq (r2 x b)) (le_trans (mul-le-mul_right 4 h) (le_of_eq (r3 a y))))))
  where
    sq : (u v : ℕ) → u < v → u * u < v * v
    sq u v l = lt_of_le_of_lt (mul-le-mul (le_refl u) (le_of_lt l)) (mul-lt-mul_of_pos_right l (lt_of_le_of_lt zero-le l))

    r1 : (t b y : ℕ) → t * t * b * (y * y) ≡ t * y * (t * y) * b
    r1 t b y = omega arith

    r2 : (x b : ℕ) → 2 * x * (2 * x) * b ≡ x * x * b * 4
    r2 x b = omega arith

    r3 : (a y : ℕ) → a * (y * y) * 4 ≡ a * 4 * (y * y)
    r3 a y = omega arith

closest_under : (x y a b : ℕ) → 0 < y → 0 < b → Under x y a b → closest x y ≤ closest_root a b
closest_under x y a b Y B h =
    let w = isqrt (a / b) in
    subst (λ (z : ℕ). closest x y ≤ z) (sym (closest_root_is a b))
    (elim (eq-or-lt_of_le (part_under x y a b Y B h)) [
      | inl e ↦
          subst (λ (z : ℕ). nearest z (compare (x % y * 2) y) ≤ nearest w (compare (a * 4) ((2 * w + 1) * (2 * w + 1) * b))) (sym e)
          (same_under w (compare (x % y * 2) y) (compare (a * 4) ((2 * w + 1) * (2 * w + 1) * b)) (x % y * 2) y (a * 4) ((2 * w + 1) * (2 * w + 1) * b) (cmp (x % y * 2) y) (cmp (a * 4) ((2 * w + 1) * (2 * w + 1) * b))
          (λ l. le_trans (sq_under x y a b (2 * w + 1) 2 Y h (half_le x y w (x % y) (split x y w e) l)) (le_of_eq (fours a)))
          (λ l. strict x y a b (2 * w + 1) Y B h (more x y w (x % y) (split x y w e) l)))
      | inr l ↦ le_trans (nearest-le (x / y) (compare (x % y * 2) y)) (le_trans l (nearest-ge w (compare (a * 4) ((2 * w + 1) * (2 * w + 1) * b))))
    ])
  where
    more : (x y w r : ℕ) → w * y + r ≡ x → y < r * 2 → (2 * w + 1) * y < 2 * x
    more x y w r e h = omega arith

-- the other way: t * t * b < 4 a gives t y < 2 x
strict_over : (x y a b t : ℕ) → 0 < y → 0 < b → Over x y a b → t * t * b < a * 4 → t * y < 2 * x
strict_over x y a b t Y B h k =
    square_lt (t * y) (2 * x)
    (lt_of_mul-lt-mul_right b (lt_of_le_of_lt (le_of_eq (r1 t b y)) (lt_of_lt_of_le (mul-lt-mul_of_pos_right k (mul-pos Y Y)) (le_trans (le_of_eq (sym (r3 a y))) (le_trans (mul-le-mul_right 4 h) (le_of_eq (sym (r2 x b))))))))
  where
    r1 : (t b y : ℕ) → t * y * (t * y) * b ≡ t * t * b * (y * y)
    r1 t b y = omega arith

    r2 : (x b : ℕ) → 2 * x * (2 * x) * b ≡ x * x * b * 4
    r2 x b = omega arith

    r3 : (a y : ℕ) → a * (y * y) * 4 ≡ a * 4 * (y * y)
    r3 a y = omega arith

closest_over : (x y a b : ℕ) → 0 < y → 0 < b → Over x y a b → closest_root a b ≤ closest x y
closest_over x y a b Y B h =
    let w = isqrt (a / b) in
    subst (λ (z : ℕ). z ≤ closest x y) (sym (closest_root_is a b))
    (elim (eq-or-lt_of_le (part_over x y a b Y B h)) [
      | inl e ↦
          subst (λ (z : ℕ). nearest w (compare (a * 4) ((2 * w + 1) * (2 * w + 1) * b)) ≤ nearest z (compare (x % y * 2) y)) e
          (same_under w (compare (a * 4) ((2 * w + 1) * (2 * w + 1) * b)) (compare (x % y * 2) y) (a * 4) ((2 * w + 1) * (2 * w + 1) * b) (x % y * 2) y (cmp (a * 4) ((2 * w + 1) * (2 * w + 1) * b)) (cmp (x % y * 2) y)
          (λ l. under_half x y w (x % y) (split x y w (sym e)) (sq_over x y a b (2 * w + 1) 2 B h (le_trans l (le_of_eq (sym (fours a))))))
          (λ l. past x y w (x % y) (split x y w (sym e)) (strict_over x y a b (2 * w + 1) Y B h l)))
      | inr l ↦ le_trans (nearest-le w (compare (a * 4) ((2 * w + 1) * (2 * w + 1) * b))) (le_trans l (nearest-ge (x / y) (compare (x % y * 2) y)))
    ])
  where
    past : (x y w r : ℕ) → w * y + r ≡ x → (2 * w + 1) * y < 2 * x → y < r * 2
    past x y w r e h = omega arith

-- ---- the numbers kept: `kept` of Order for a fraction, and this for a root
abbrev pub drop_r : ℕ → ℕ → ℕ → ℕ
drop_r p n den = size (isqrt (n / den)) - p

abbrev pub kept_r : ℕ → ℕ → ℕ → ℕ
kept_r p n den = closest_root n (den * 2 ^ (drop_r p n den + drop_r p n den))

pub kept_le : (p n den : ℕ) → kept p n den ≤ 2 ^ p
kept_le p n den =
    let k = drop p n den in
    let u = den * 2 ^ k in
    le_trans (nearest-le (n / u) (compare (n % u * 2) u)) (subst (λ (x : ℕ). x < 2 ^ p) (div-div-eq-div-mul n den (2 ^ k)) (kept-lt p (n / den)))

pub all_in_use : (z p : ℕ) → 0 < p → 0 < z - p → p - 1 + (z - p) < z
all_in_use z p P h = omega arith

pub kept_ge : (p n den : ℕ) → 0 < p → 0 < drop p n den → 2 ^ (p - 1) ≤ kept p n den
kept_ge p n den P K =
    let k = drop p n den in
    let u = den * 2 ^ k in
    let w = n / den in
    let a : 2 ^ (p - 1) * 2 ^ k ≤ w = le_trans (le_of_eq (sym (pow-add 2 (p - 1) k))) (size_reaches w (p - 1 + k) (all_in_use (size w) p P K)) in
    le_trans (subst (λ (x : ℕ). 2 ^ (p - 1) ≤ x) (div-div-eq-div-mul n den (2 ^ k)) ((le-div_iff_mul-le (pow_pos k)).1 a)) (nearest-ge (n / u) (compare (n % u * 2) u))

pub squares : (i j : ℕ) → 2 ^ (i + j) * 2 ^ (i + j) ≡ 2 ^ i * 2 ^ i * 2 ^ (j + j)
squares i j = ap (λ (x : ℕ). x * x) (pow-add 2 i j) ∙ mul-mul-mul_comm (2 ^ i) (2 ^ j) (2 ^ i) (2 ^ j) ∙ ap (λ (x : ℕ). 2 ^ i * 2 ^ i * x) (sym (pow-add 2 j j))

pub kept_r_le : (p n den : ℕ) → kept_r p n den ≤ 2 ^ p
kept_r_le p n den =
    let k = drop_r p n den in
    let R = isqrt (n / den) in
    let b = den * 2 ^ (k + k) in
    let w = isqrt (n / b) in
    let r_lt : R + 1 ≤ 2 ^ (p + k) = le_trans (le_of_eq (add1 R)) (lt_of_lt_of_le (size-lt R) (pow_mono (cover (size R) p))) in
    let q_lt : n / den < 2 ^ p * 2 ^ p * 2 ^ (k + k) = lt_of_lt_of_le (isqrt_is (n / den)).most (le_trans (mul-le-mul r_lt r_lt) (le_of_eq (squares p k))) in
    let w_lt : w < 2 ^ p = square_lt w (2 ^ p) (lt_of_le_of_lt (isqrt_is (n / b)).least (subst (λ (x : ℕ). x < 2 ^ p * 2 ^ p) (div-div-eq-div-mul n den (2 ^ (k + k))) ((div-lt_iff_lt-mul (pow_pos (k + k))).1 q_lt))) in
    le_trans (le_of_eq (closest_root_is n b)) (le_trans (nearest-le w (compare (n * 4) ((2 * w + 1) * (2 * w + 1) * b))) w_lt)
  where
    add1 : (r : ℕ) → r + 1 ≡ suc r
    add1 r = omega arith

    cover : (z p : ℕ) → z ≤ p + (z - p)
    cover z p = omega arith

pub kept_r_ge : (p n den : ℕ) → 0 < p → 0 < drop_r p n den → 2 ^ (p - 1) ≤ kept_r p n den
kept_r_ge p n den P K =
    let k = drop_r p n den in
    let R = isqrt (n / den) in
    let b = den * 2 ^ (k + k) in
    let w = isqrt (n / b) in
    let r_ge : 2 ^ (p - 1 + k) ≤ R = size_reaches R (p - 1 + k) (all_in_use (size R) p P K) in
    let q_ge : 2 ^ (p - 1) * 2 ^ (p - 1) * 2 ^ (k + k) ≤ n / den = le_trans (le_of_eq (sym (squares (p - 1) k))) (le_trans (mul-le-mul r_ge r_ge) (isqrt_is (n / den)).least) in
    let w_ge : 2 ^ (p - 1) ≤ w = root_at_least w (n / b) (2 ^ (p - 1)) (isqrt_is (n / b)) (subst (λ (x : ℕ). 2 ^ (p - 1) * 2 ^ (p - 1) ≤ x) (div-div-eq-div-mul n den (2 ^ (k + k))) ((le-div_iff_mul-le (pow_pos (k + k))).1 q_ge)) in
    le_trans w_ge (le_trans (nearest-ge w (compare (n * 4) ((2 * w + 1) * (2 * w + 1) * b))) (le_of_eq (sym (closest_root_is n b))))

size_mono : (a b : ℕ) → a ≤ b → size a ≤ size b
size_mono a b h = size-le a (size b) (lt_of_le_of_lt h (size-lt b))

fewer : (x y p : ℕ) → x ≤ y → x - p ≤ y - p
fewer x y p h = omega arith

room : (p j k : ℕ) → 0 < p → j < k → p + j ≤ p - 1 + k
room p j k P h = omega arith

scaled : (x y n den k : ℕ) → x * x * (den * 2 ^ (k + k)) ≡ x * x * den * (2 ^ k * 2 ^ k)
scaled x y n den k = sym (mul_assoc (x * x) den (2 ^ (k + k))) ∙ ap (λ (z : ℕ). x * x * den * z) (pow-add 2 k k)

scaled' : (y n k : ℕ) → n * (y * 2 ^ k * (y * 2 ^ k)) ≡ n * (y * y) * (2 ^ k * 2 ^ k)
scaled' y n k = ap (λ (z : ℕ). n * z) (mul-mul-mul_comm y (2 ^ k) y (2 ^ k)) ∙ sym (mul_assoc n (y * y) (2 ^ k * 2 ^ k))

module _ (p x y n den : ℕ) (P : 0 < p) (Y : 0 < y) (D : 0 < den) where
  grid_under : Under x y n den → kept p x y * 2 ^ drop p x y ≤ kept_r p n den * 2 ^ drop_r p n den
  grid_under h =
      let j = drop p x y in
      let k = drop_r p n den in
      elim (eq-or-lt_of_le (fewer (size (x / y)) (size (isqrt (n / den))) p (size_mono (x / y) (isqrt (n / den)) (part_under x y n den Y D h)))) [
        | inl e ↦
            subst (λ (z : ℕ). closest x (y * 2 ^ z) * 2 ^ z ≤ kept_r p n den * 2 ^ k) (sym e)
            (mul-le-mul_right (2 ^ k) (closest_under x (y * 2 ^ k) n (den * 2 ^ (k + k)) (mul-pos Y (pow_pos k)) (mul-pos D (pow_pos (k + k)))
            (le_trans (le_of_eq (scaled x y n den k)) (le_trans (mul-le-mul_right (2 ^ k * 2 ^ k) h) (le_of_eq (sym (scaled' y n k)))))))
        | inr l ↦
            le_trans (mul-le-mul_right (2 ^ j) (kept_le p x y))
            (le_trans (le_of_eq (sym (pow-add 2 p j)))
            (le_trans (pow_mono (room p j k P l))
            (le_trans (le_of_eq (pow-add 2 (p - 1) k)) (mul-le-mul_right (2 ^ k) (kept_r_ge p n den P (lt_of_le_of_lt zero-le l))))))
      ]

  grid_over : Over x y n den → kept_r p n den * 2 ^ drop_r p n den ≤ kept p x y * 2 ^ drop p x y
  grid_over h =
      let j = drop_r p n den in
      let k = drop p x y in
      elim (eq-or-lt_of_le (fewer (size (isqrt (n / den))) (size (x / y)) p (size_mono (isqrt (n / den)) (x / y) (part_over x y n den Y D h)))) [
        | inl e ↦
            subst (λ (z : ℕ). closest_root n (den * 2 ^ (z + z)) * 2 ^ z ≤ kept p x y * 2 ^ k) (sym e)
            (mul-le-mul_right (2 ^ k) (closest_over x (y * 2 ^ k) n (den * 2 ^ (k + k)) (mul-pos Y (pow_pos k)) (mul-pos D (pow_pos (k + k)))
            (le_trans (le_of_eq (scaled' y n k)) (le_trans (mul-le-mul_right (2 ^ k * 2 ^ k) h) (le_of_eq (sym (scaled x y n den k)))))))
        | inr l ↦
            le_trans (mul-le-mul_right (2 ^ j) (kept_r_le p n den))
            (le_trans (le_of_eq (sym (pow-add 2 p j)))
            (le_trans (pow_mono (room p j k P l))
            (le_trans (le_of_eq (pow-add 2 (p - 1) k)) (mul-le-mul_right (2 ^ k) (kept_ge p x y P (lt_of_le_of_lt zero-le l))))))
      ]

-- ---- `units` keeps the order (as in lib.Ieee.Order, where it is private)
le_inf : (x : Float) (a c : ℕ) → HasValue x false a c → T (le x (inf false))
unfolding le
le_inf nan a c p = absurd p
le_inf (inf s) a c p = absurd p
le_inf (fin true m e) a c p = absurd (true≢false p.0)
le_inf (fin false m e) a c p = tt

clash : (x y z : ℕ) → x ≤ y → y < z → z ≤ x → ⊥
clash x y z a b c = omega arith

units_mono : (f : Format) (q j r k : ℕ) → q * 2 ^ j ≤ r * 2 ^ k → T (le (units f false q j) (units f false r k))
unfolding units
units_mono f q j r k h =
    let overflow = 2 ^ (low f + suc (emax f)) in
    go (nat_lt (q * 2 ^ j) overflow) (nat_lt (r * 2 ^ k) overflow) (nltb→le (q * 2 ^ j) overflow) (ltb→lt (r * 2 ^ k) overflow)
  where
    go : (x y : Bool) → (T (not x) → 2 ^ (low f + suc (emax f)) ≤ q * 2 ^ j) → (T y → r * 2 ^ k < 2 ^ (low f + suc (emax f)))
        → T (le (cond x (odd (suc (prec f)) false q j (low f)) (inf false)) (cond y (odd (suc (prec f)) false r k (low f)) (inf false)))
    go true true a b =
        le_of_values (odd (suc (prec f)) false q j (low f)) (odd (suc (prec f)) false r k (low f)) (q * 2 ^ j) (2 ^ low f) (r * 2 ^ k) (2 ^ low f) (pow_pos (low f)) (pow_pos (low f))
        (odd_sign (suc (prec f)) false q j (low f)) (odd_sign (suc (prec f)) false r k (low f)) (mul-le-mul_right (2 ^ low f) h)
    go true false a b = le_inf (odd (suc (prec f)) false q j (low f)) (q * 2 ^ j) (2 ^ low f) (odd_sign (suc (prec f)) false q j (low f))
    go false true a b = absurd (clash (q * 2 ^ j) (r * 2 ^ k) (2 ^ (low f + suc (emax f))) h (b tt) (a tt))
    go false false a b = unfold le in tt

-- ---- the two theorems
pub round_root_is : (f : Format) (num den : ℕ) → round_root f num den ≡ units f false (kept_r (prec f) (num * 2 ^ (low f + low f)) den) (drop_r (prec f) (num * 2 ^ (low f + low f)) den)
unfolding round_root
round_root_is f num den = refl

in_units : (a b num den l : ℕ) → a * 2 ^ l * (a * 2 ^ l) * den ≡ a * a * den * 2 ^ (l + l)
in_units a b num den l = ap (λ (z : ℕ). z * den) (mul-mul-mul_comm a (2 ^ l) a (2 ^ l) ∙ ap (λ (z : ℕ). a * a * z) (sym (pow-add 2 l l))) ∙ mul_right_comm (a * a) (2 ^ (l + l)) den

module _ (f : Format) (a b num den : ℕ) (B : 0 < b) (D : 0 < den) where
  pub root_above : a * a * den ≤ num * (b * b) → T (le (round f false a b) (round_root f num den))
  root_above h =
      let l = low f in
      subst (λ (z : Float). T (le z (round_root f num den))) (sym (round_is f false a b))
      (subst (λ (z : Float). T (le (units f false (kept (prec f) (a * 2 ^ l) b) (drop (prec f) (a * 2 ^ l) b)) z)) (sym (round_root_is f num den))
      (units_mono f (kept (prec f) (a * 2 ^ l) b) (drop (prec f) (a * 2 ^ l) b) (kept_r (prec f) (num * 2 ^ (l + l)) den) (drop_r (prec f) (num * 2 ^ (l + l)) den)
      (grid_under (prec f) (a * 2 ^ l) b (num * 2 ^ (l + l)) den (two-le_pos (prec f) (two f)) B D
      (le_trans (le_of_eq (in_units a b num den l)) (le_trans (mul-le-mul_right (2 ^ (l + l)) h) (le_of_eq (mul_right_comm num (b * b) (2 ^ (l + l)))))))))

  pub root_below : num * (b * b) ≤ a * a * den → T (le (round_root f num den) (round f false a b))
  root_below h =
      let l = low f in
      subst (λ (z : Float). T (le z (round f false a b))) (sym (round_root_is f num den))
      (subst (λ (z : Float). T (le (units f false (kept_r (prec f) (num * 2 ^ (l + l)) den) (drop_r (prec f) (num * 2 ^ (l + l)) den)) z)) (sym (round_is f false a b))
      (units_mono f (kept_r (prec f) (num * 2 ^ (l + l)) den) (drop_r (prec f) (num * 2 ^ (l + l)) den) (kept (prec f) (a * 2 ^ l) b) (drop (prec f) (a * 2 ^ l) b)
      (grid_over (prec f) (a * 2 ^ l) b (num * 2 ^ (l + l)) den (two-le_pos (prec f) (two f)) B D
      (le_trans (le_of_eq (mul_right_comm num (2 ^ (l + l)) (b * b))) (le_trans (mul-le-mul_right (2 ^ (l + l)) h) (le_of_eq (sym (in_units a b num den l))))))))
