-- The numbers of `root`, `sqrt_finite` and `sqrt`. Assumes nothing.
use Rattle.std.proofs.Common.{◌≡◌, ℕ, zero, suc, ◌+◌, ◌-◌, ◌*◌, ◌/◌, ◌%◌, ◌^◌, ◌<◌, ◌≤◌, Bool, true, false, cond, not, ◌&&◌, ◌||◌, T, eqb, leb, ℤ, pos, sym, refl, ap, ◌∙◌, subst, le_trans, le_of_eq, lt_of_lt_of_le, lt_irrefl, mul-le-mul_right, mod-eq_of_lt, zero-lt-suc, mul_assoc, mul-lt-mul_of_pos_right, mul-pos, lt_of_not-le, zero-mul, mul-one, not-le_of_lt, mul_left_comm, arith, lit≤, le→leb, eqb→eq, leb→le, pow_pos, pow_mono, pow-add, shl_lt}
use native.Mathlib.Nat.{pow-succ', eq_of_mul-eq-mul_right}
use mathlib.Core.Bool.{beq, false≢true}
use lib.Dec.{nleb→lt, not_T}
use lib.Arith.{lt→nleb}
use lib.Count.{count_leading_zeros, leading_top}
use lib.Ieee.{Float, nan, inf, fin, Format, binary32, binary64, prec, low, hid, ones, top, up, down, ne, eq, is_nan, of_bits, to_bits, fits}
use lib.Ieee.Fits.{up_pos, down_pos, and_l, eq→eqb}
use lib.Ieee.Bits.{of_bits-to_bits, is_true, is_false}
use lib.Ieee.Compare.{differs_from_itself}
use lib.Ieee.Exact.{HasValue}
use lib.Ieee.Positive.{first_pos}
use Rattle.numbers.specs.Root.{round_root, sqrt_of}
use Rattle.numbers.specs.Numbers.{sign_of}
use Rattle.numbers.specs.Roots.{rooted_bits, half_most, round_root_same}
use Rattle.laws.specs.FloatParts.{field, digits_of, power_of, bits_inf, finite_field, float_value, digits_lt}
use Rattle.numbers.specs.Laws.{ne_self, sign_is}
use Rattle.roots.specs.Radicands.{radicand_of}
use Rattle.roots.specs.declared.Radicand.{Radicand}
use Rattle.roots.specs.declared.Radicand.TheVariants.{Itself, Negative, Digits}

-- ---- a digit
pub digit_le : (b : Bool) (g : ℕ) → g ≡ cond b 1 0 → g ≤ 1
digit_le true g e = omega arith
digit_le false g e = omega arith

pub digit_takes : (c a g : ℕ) → g ≡ cond (leb c a) 1 0 → g * c ≤ a
digit_takes c a g = go (leb c a) (leb→le c a)
  where
    one : g ≡ 1 → c ≤ a → g * c ≤ a
    one e h = subst (λ (x : ℕ). x * c ≤ a) (sym e) (omega arith)

    none : g ≡ 0 → g * c ≤ a
    none e = subst (λ (x : ℕ). x * c ≤ a) (sym e) (omega arith)

    go : (b : Bool) → (T b → c ≤ a) → g ≡ cond b 1 0 → g * c ≤ a
    go true h e = one e (h tt)
    go false h e = none e

-- ---- d moved up to two places of the highest
pub record Lead (d z : ℕ) : Type 0 where
  pub least : 1 ≤ z
  pub most : z ≤ 63
  pub over : (b : ℕ) → b ≤ 1 → 2 ^ 62 ≤ d * 2 ^ (z - b)
  pub under : (b : ℕ) → d * 2 ^ (z - b) < 2 ^ 64

pub lead : (d : ℕ) → 0 < d → d < 2 ^ 53 → Lead d (count_leading_zeros 64 d)
lead d P h =
    let t = leading_top 64 d P (lt_of_lt_of_le h (lit≤ tt)) in
    let z = count_leading_zeros 64 d in
    let l = low_place t.0 t.2 in
    record {
      least = one z t.0 t.1 l;
      most = most z t.0 t.1;
      over = λ b B. le_trans (pow_mono (deep z t.0 b t.1 l B)) (le_trans (le_of_eq (pow-add 2 t.0 (z - b))) (mul-le-mul_right (2 ^ (z - b)) t.2));
      under = λ b. lt_of_lt_of_le (shl_lt (suc t.0) (z - b) t.3) (pow_mono (room z t.0 b t.1));
    }
  where
    low_place : (j : ℕ) → 2 ^ j ≤ d → j < 53
    low_place j k = lt_of_not-le (λ (g : 53 ≤ j). not-le_of_lt h (le_trans (pow_mono g) k))

    one : (z j : ℕ) → z + suc j ≡ 64 → j < 53 → 1 ≤ z
    one z j e l = omega arith

    most : (z j : ℕ) → z + suc j ≡ 64 → z ≤ 63
    most z j e = omega arith

    deep : (z j b : ℕ) → z + suc j ≡ 64 → j < 53 → b ≤ 1 → 62 ≤ j + (z - b)
    deep z j b e l B = omega arith

    room : (z j b : ℕ) → z + suc j ≡ 64 → suc j + (z - b) ≤ 64
    room z j b e = omega arith

-- ---- the root of an `f64`
same_power : (d p y l c t k : ℕ) → p + (l + c) ≡ y + (t + k) → d * 2 ^ p * 2 ^ l * 2 ^ c ≡ d * 2 ^ y * 2 ^ t * 2 ^ k
same_power d p y l c t k e = all d p l c ∙ ap (λ (x : ℕ). d * 2 ^ x) e ∙ sym (all d y t k)
  where
    all : (d a b c : ℕ) → d * 2 ^ a * 2 ^ b * 2 ^ c ≡ d * 2 ^ (a + (b + c))
    all d a b c = mul_assoc (d * 2 ^ a) (2 ^ b) (2 ^ c) ∙ ap (λ (x : ℕ). d * 2 ^ a * x) (sym (pow-add 2 b c)) ∙ mul_assoc d (2 ^ a) (2 ^ (b + c)) ∙ ap (λ (x : ℕ). d * x) (sym (pow-add 2 a (b + c)))

-- a square of an odd number is odd
pub no_tie : (d y t w : ℕ) → 65 ≤ y + t → w % 2 ≡ 1 → d * 2 ^ y * 2 ^ t ≡ w * w * 2 ^ 64 → ⊥
no_tie d y t w l o e =
    odd (w / 2) (ap (λ (x : ℕ). x * x) (halves w o))
    (eq_of_mul-eq-mul_right (2 ^ 64) (pow_pos 64) (d * 2 ^ (y + t - 64)) (w * w)
    (mul_assoc d (2 ^ (y + t - 64)) (2 ^ 64) ∙ ap (λ (x : ℕ). d * x) (sym (pow-add 2 (y + t - 64) 64) ∙ ap (λ (x : ℕ). 2 ^ x) (back (y + t) l) ∙ pow-add 2 y t) ∙ sym (mul_assoc d (2 ^ y) (2 ^ t)) ∙ e))
  where
    back : (n : ℕ) → 65 ≤ n → n - 64 + 64 ≡ n
    back n h = omega arith

    halves : (w : ℕ) → w % 2 ≡ 1 → w ≡ 2 * (w / 2) + 1
    halves w h = omega arith

    clash : (x a b : ℕ) → x ≡ 2 * a → x ≡ 2 * b + 1 → ⊥
    clash x a b h k = omega arith

    square : (u : ℕ) → (2 * u + 1) * (2 * u + 1) ≡ 2 * (2 * (u * u) + 2 * u) + 1
    square u = omega arith

    first : (n : ℕ) → 65 ≤ n → n - 64 ≡ suc (n - 65)
    first n h = omega arith

    double : d * 2 ^ (y + t - 64) ≡ 2 * (d * 2 ^ (y + t - 65))
    double = ap (λ (x : ℕ). d * 2 ^ x) (first (y + t) l) ∙ ap (λ (x : ℕ). d * x) (pow-succ' 2 (y + t - 65)) ∙ mul_left_comm d 2 (2 ^ (y + t - 65))

    odd : (u : ℕ) → w * w ≡ (2 * u + 1) * (2 * u + 1) → d * 2 ^ (y + t - 64) ≡ w * w → ⊥
    odd u a b = clash (w * w) (d * 2 ^ (y + t - 65)) (2 * (u * u) + 2 * u) (sym b ∙ double) (a ∙ square u)

-- for either format: b, 0 or 1, makes p + c - (z - b) even, and k is its half
module _ (f : Format) (d p z w b k c : ℕ) (Z : Lead d z) (B : b ≤ 1) (K : k + k + (z - b) ≡ p + c) (C : c + (suc (prec f) + suc (prec f)) ≡ low f + 66)
    (N : 65 ≤ z - b + (suc (prec f) + suc (prec f)))
    (lo : w * w * 2 ^ 64 ≤ d * 2 ^ (z - b) * 2 ^ (suc (prec f) + suc (prec f))) (hi : d * 2 ^ (z - b) * 2 ^ (suc (prec f) + suc (prec f)) < (w + 1) * (w + 1) * 2 ^ 64) where
  abbrev y : ℕ
  y = z - b

  abbrev t : ℕ
  t = suc (prec f) + suc (prec f)

  powers : p + (low f + low f + 66) ≡ y + (t + (low f + (k + k)))
  powers = go y t (k + k) (low f) K C
    where
      go : (y t kk l : ℕ) → kk + y ≡ p + c → c + t ≡ l + 66 → p + (l + l + 66) ≡ y + (t + (l + kk))
      go y t kk l h g = omega arith

  e : d * 2 ^ p * 2 ^ (low f + low f) * (2 ^ 64 * 4) ≡ d * 2 ^ y * 2 ^ t * (2 ^ low f * 2 ^ (k + k))
  e = same_power d p y (low f + low f) 66 t (low f + (k + k)) powers ∙ ap (λ (x : ℕ). d * 2 ^ y * 2 ^ t * x) (pow-add 2 (low f) (k + k))

  least : 2 ^ prec f * 2 ^ prec f * 2 ^ 64 ≤ d * 2 ^ y * 2 ^ t
  least = le_trans (le_of_eq (go f)) (mul-le-mul_right (2 ^ t) (Z.over b B))
    where
      go : (f : Format) → 2 ^ prec f * 2 ^ prec f * 2 ^ 64 ≡ 2 ^ 62 * 2 ^ (suc (prec f) + suc (prec f))
      go binary32 = refl
      go binary64 = refl

  most : d * 2 ^ y * 2 ^ t < 2 ^ suc (prec f) * 2 ^ suc (prec f) * 2 ^ 64
  most = lt_of_lt_of_le (mul-lt-mul_of_pos_right (Z.under b) (pow_pos t)) (le_of_eq (go f))
    where
      go : (f : Format) → 2 ^ 64 * 2 ^ (suc (prec f) + suc (prec f)) ≡ 2 ^ suc (prec f) * 2 ^ suc (prec f) * 2 ^ 64
      go binary32 = refl
      go binary64 = refl

  pub half_le : (w + 1) / 2 ≤ 2 ^ prec f
  half_le = half_most f (d * 2 ^ p) (2 ^ low f) (d * 2 ^ y * 2 ^ t) (2 ^ 64) w k (pow_pos (low f)) (pow_pos 64) e lo hi (no_tie d y t w N) least most

  pub is_root : k * hid f + (w + 1) / 2 < ones f * hid f → round_root f (d * 2 ^ p) (2 ^ low f) ≡ of_bits f (k * hid f + (w + 1) / 2)
  is_root = rooted_bits f (d * 2 ^ p) (2 ^ low f) (d * 2 ^ y * 2 ^ t) (2 ^ 64) w k (pow_pos (low f)) (pow_pos 64) e lo hi (no_tie d y t w N) least most

-- ---- the two formats' numbers
pub even_64 : (p z : ℕ) → 1 ≤ z → z ≤ 63 → (p + 1032 - (z - (p + z) % 2)) / 2 + (p + 1032 - (z - (p + z) % 2)) / 2 + (z - (p + z) % 2) ≡ p + 1032
even_64 p z a b = omega arith

pub even_32 : (p z : ℕ) → 1 ≤ z → z ≤ 63 → (p + 165 - (z - (p + z + 1) % 2)) / 2 + (p + 165 - (z - (p + z + 1) % 2)) / 2 + (z - (p + z + 1) % 2) ≡ p + 165
even_32 p z a b = omega arith

pub bit_le : (n : ℕ) → n % 2 ≤ 1
bit_le n = omega arith

pub small_64 : (p y q : ℕ) → p ≤ 2045 → q ≤ 2 ^ 53 → (p + 1032 - y) / 2 * 0x10_0000_0000_0000 + q < 2047 * 0x10_0000_0000_0000
small_64 p y q a b = omega arith

pub small_32 : (p y q : ℕ) → p ≤ 253 → q ≤ 2 ^ 24 → (p + 165 - y) / 2 * 8388608 + q < 255 * 8388608
small_32 p y q a b = omega arith

pub deep_64 : (y : ℕ) → 65 ≤ y + 108
deep_64 y = omega arith

pub deep_32 : (z b : ℕ) → 40 ≤ z → b ≤ 1 → 65 ≤ z - b + 50
deep_32 z b h k = omega arith

pub lead_32 : (d : ℕ) → 0 < d → d < 2 ^ 24 → 40 ≤ count_leading_zeros 64 d
lead_32 d P h =
    let t = leading_top 64 d P (lt_of_lt_of_le h (lit≤ tt)) in
    go (count_leading_zeros 64 d) t.0 t.1 (lt_of_not-le (λ (g : 24 ≤ t.0). not-le_of_lt h (le_trans (pow_mono g) t.2)))
  where
    go : (z j : ℕ) → z + suc j ≡ 64 → j < 24 → 40 ≤ z
    go z j e l = omega arith

-- ---- `sqrt_of`, arm by arm
pub sqrt_nan : (f : Format) (x : Float) → ne x x ≡ true → x ≡ sqrt_of f x
unfolding sqrt_of
sqrt_nan f x h = rw (differs_from_itself x (subst T (sym h) tt))

zero_product : (m u : ℕ) → 0 < u → m * u ≡ 0 → m ≡ 0
zero_product zero u P h = refl
zero_product (suc m) u P h = absurd (lt_irrefl 0 (subst (λ (x : ℕ). 0 < x) h (mul-pos (zero-lt-suc m) P)))

zero_stays : (f : Format) (s : Bool) (m : ℕ) (e : ℤ) → m ≡ 0 → fin s m e ≡ sqrt_of f (fin s m e)
unfolding sqrt_of
zero_stays f s m e h = rw h

pub sqrt_zero : (f : Format) (x : Float) → eq x (fin false 0 (pos 0)) ≡ true → x ≡ sqrt_of f x
unfolding eq
sqrt_zero f nan h = absurd (false≢true h)
sqrt_zero f (inf s) h = absurd (false≢true h)
sqrt_zero f (fin s m e) h = zero_stays f s m e (zero_product m (up e) (up_pos e) (sym (mul-one (m * up e)) ∙ eqb→eq (m * up e * 1) (0 * 1 * down e) (and_l (eqb (m * up e * 1) (0 * 1 * down e)) (beq s false || eqb (m * up e * 1) 0) (subst T (sym h) tt)) ∙ zero-mul (down e)))

-- a zero equals 0
level_zero : (s : Bool) (a b : ℕ) → a ≡ 0 → b ≡ 0 → (eqb a b && (beq s false || eqb a 0)) ≡ true
level_zero true a b h k = ap (λ (x : ℕ). eqb x b && eqb x 0) h ∙ ap (λ (x : ℕ). eqb 0 x && true) k
level_zero false a b h k = ap (λ (x : ℕ). eqb x b && true) h ∙ ap (λ (x : ℕ). eqb 0 x && true) k

zero_equals : (s : Bool) (m : ℕ) (e : ℤ) → m ≡ 0 → eq (fin s m e) (fin false 0 (pos 0)) ≡ true
unfolding eq
zero_equals s m e h = level_zero s (m * up e * 1) (0 * 1 * down e) (mul-one (m * up e) ∙ ap (λ (x : ℕ). x * up e) h ∙ zero-mul (up e)) (zero-mul (down e))

pub sqrt_neg : (f : Format) (x : Float) → sign_of x ≡ true → eq x (fin false 0 (pos 0)) ≡ false → nan ≡ sqrt_of f x
unfolding sqrt_of sign_of
sqrt_neg f nan h n = refl
sqrt_neg f (inf s) h n = rw h
sqrt_neg f (fin s zero e) h n = absurd (false≢true (sym n ∙ zero_equals s zero e refl))
sqrt_neg f (fin s (suc m) e) h n = rw h

pub sqrt_inf : (f g : Format) (x : Float) → T (fits g x) → to_bits g x ≡ ones g * hid g → x ≡ sqrt_of f x
unfolding sqrt_of
sqrt_inf f g x F h = rw (is_inf)
  where
    at_top : (g : Format) → (ones g * hid g % top g ≡ ones g * hid g) × (leb (top g) (ones g * hid g) ≡ false)
    at_top binary32 = (refl, refl)
    at_top binary64 = (refl, refl)

    is_inf : x ≡ inf false
    is_inf = sym (of_bits-to_bits g x F) ∙ bits_inf g (to_bits g x) (ap (λ (b : ℕ). b % top g) h ∙ (at_top g).0) ∙ ap (λ (b : ℕ). inf (leb (top g) b)) h ∙ ap inf (at_top g).1

-- a value above zero
pub nonzero : (x : Float) (s : Bool) (a c : ℕ) → eq x (fin false 0 (pos 0)) ≡ false → 0 < c → HasValue x s a c → 0 < a
nonzero nan s a c n C v = absurd v
nonzero (inf t) s a c n C v = absurd v
nonzero (fin t m e) s zero c n C v = absurd (false≢true (sym n ∙ zero_equals t m e (zero_product m (up e) (up_pos e) (zero_product (m * up e) c C (v.1 ∙ zero-mul (down e))))))
nonzero (fin t m e) s (suc a) c n C v = zero-lt-suc a

pub sqrt_value : (f : Format) (x : Float) (a c : ℕ) → 0 < a → 0 < c → HasValue x false a c → sqrt_of f x ≡ round_root f a c
unfolding sqrt_of
sqrt_value f nan a c A C v = absurd v
sqrt_value f (inf t) a c A C v = absurd v
sqrt_value f (fin t zero e) a c A C v = absurd (lt_irrefl 0 (subst (λ (x : ℕ). 0 < x) (sym v.1 ∙ ap (λ (x : ℕ). x * c) (zero-mul (up e)) ∙ zero-mul c) (mul-pos A (down_pos e))))
sqrt_value f (fin t (suc m) e) a c A C v = ap (λ (b : Bool). cond b nan (round_root f (suc m * up e) (down e))) v.0 ∙ round_root_same f (suc m * up e) (down e) a c (down_pos e) C v.1

-- ---- by what the root is taken of
module _ (f : Format) (x : Float) where
  abbrev bits : ℕ
  bits = to_bits f x

  -- the five ways to come by it
  data Way : Radicand → Type 0 where
    none : T (is_nan x) → Way Itself
    nought : eq x (fin false 0 (pos 0)) ≡ true → Way Itself
    below : T (not (is_nan x)) → eq x (fin false 0 (pos 0)) ≡ false → top f ≤ bits → Way Negative
    endless : bits ≡ ones f * hid f → Way Itself
    above : T (not (is_nan x)) → eq x (fin false 0 (pos 0)) ≡ false → bits < top f → (bits ≡ ones f * hid f → ⊥) → Way (Digits (digits_of f bits) (power_of f bits))

  way : Way (radicand_of f x)
  unfolding radicand_of
  way = go (is_nan x) (eq x (fin false 0 (pos 0))) (leb (top f) bits) (eqb bits (ones f * hid f)) refl none nought below endless above (leb→le (top f) bits) (nleb→lt (top f) bits) (eqb→eq bits (ones f * hid f)) (λ (e : bits ≡ ones f * hid f). eq→eqb e)
    where
      go : (n z s i : Bool) → eq x (fin false 0 (pos 0)) ≡ z → (T n → Way Itself) → (eq x (fin false 0 (pos 0)) ≡ true → Way Itself) → (T (not n) → eq x (fin false 0 (pos 0)) ≡ false → top f ≤ bits → Way Negative)
          → (bits ≡ ones f * hid f → Way Itself) → (T (not n) → eq x (fin false 0 (pos 0)) ≡ false → bits < top f → (bits ≡ ones f * hid f → ⊥) → Way (Digits (digits_of f bits) (power_of f bits)))
          → (T s → top f ≤ bits) → (T (not s) → bits < top f) → (T i → bits ≡ ones f * hid f) → (bits ≡ ones f * hid f → T i)
          → Way (cond n Itself (cond z Itself (cond s Negative (cond i Itself (Digits (digits_of f bits) (power_of f bits))))))
      go true z s i e a b c d g h k l m = a tt
      go false true s i e a b c d g h k l m = b e
      go false false true i e a b c d g h k l m = c tt e (h tt)
      go false false false true e a b c d g h k l m = d (l tt)
      go false false false false e a b c d g h k l m = g tt e (k tt) m

  -- what it makes, and that it is `sqrt_of`
  abbrev pub made : Radicand → Float
  made Itself = x
  made Negative = nan
  made (Digits d p) = round_root f (d * 2 ^ p) (2 ^ low f)

  -- the digits fit the format, are above zero, and stand below the infinity
  abbrev pub Bounded : Radicand → Type 0
  Bounded Itself = Unit
  Bounded Negative = Unit
  Bounded (Digits d p) = (0 < d) × ((d < 2 ^ prec f) × (p ≤ ones f - 2))

  module _ (F : T (fits f x)) where
    module _ (n : T (not (is_nan x))) (z : eq x (fin false 0 (pos 0)) ≡ false) (l : bits < top f) (i : bits ≡ ones f * hid f → ⊥) where
      in_field : field f bits < ones f
      in_field = finite_field f x F n (λ e. i (sym (mod-eq_of_lt l) ∙ e))

      value : HasValue x false (digits_of f bits * 2 ^ power_of f bits) (2 ^ low f)
      value = subst (λ (b : Bool). HasValue x b (digits_of f bits * 2 ^ power_of f bits) (2 ^ low f)) (is_false (leb (top f) bits) (lt→nleb (top f) bits l)) (float_value f x F in_field)

      more : 0 < digits_of f bits * 2 ^ power_of f bits
      more = nonzero x false (digits_of f bits * 2 ^ power_of f bits) (2 ^ low f) z (pow_pos (low f)) value

    made_root : made (radicand_of f x) ≡ sqrt_of f x
    made_root = go (radicand_of f x) way
      where
        go : (r : Radicand) → Way r → made r ≡ sqrt_of f x
        go r (none n) = sqrt_nan f x (ne_self x ∙ is_true (is_nan x) n)
        go r (nought z) = sqrt_zero f x z
        go r (below n z s) = sqrt_neg f x (sym (sign_is f x F n) ∙ is_true (leb (top f) bits) (le→leb (top f) bits s)) z
        go r (endless i) = sqrt_inf f f x F i
        go r (above n z l i) = sym (sqrt_value f x (digits_of f bits * 2 ^ power_of f bits) (2 ^ low f) (more n z l i) (pow_pos (low f)) (value n z l i))

    bounded : Bounded (radicand_of f x)
    bounded = go (radicand_of f x) way
      where
        power_le : (x o : ℕ) → x < o → x - 1 ≤ o - 2
        power_le x o h = omega arith

        go : (r : Radicand) → Way r → Bounded r
        go r (none n) = tt
        go r (nought z) = tt
        go r (below n z s) = tt
        go r (endless i) = tt
        go r (above n z l i) = (first_pos (digits_of f bits) (2 ^ power_of f bits) (more n z l i), (digits_lt f bits, power_le (field f bits) (ones f) (in_field n z l i)))

    -- the same, from what a match learns
    pub root_made : (r : Radicand) → radicand_of f x ≡ r → made r ≡ sqrt_of f x
    root_made r e = sym (ap made e) ∙ made_root

    pub root_bounded : (r : Radicand) → radicand_of f x ≡ r → Bounded r
    root_bounded r e = subst Bounded e bounded
