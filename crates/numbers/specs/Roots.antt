-- Square roots of whole numbers and of fractions, and `round_root` by a root that was worked out to one digit more. Assumes nothing.
use Rattle.std.specs.Prelude.{◌≡◌, ℕ, zero, suc, ◌+◌, ◌-◌, ◌*◌, ◌/◌, ◌%◌, ◌^◌, ◌<◌, ◌≤◌, Bool, true, false, cond, not, T, ◌⊎◌, ◌≢◌, from_bits, nat_le, refl}
use Rattle.std.proofs.Common.{sym, ◌∙◌, subst, inl, inr, zero-add, le_refl, le_trans, le_of_eq, lt_of_lt_of_le, lt_of_le_of_lt, lt_of_not-le, not-le_of_lt, le_antisymm, zero-lt-suc, mul-le-mul, mul-le-mul_right, mul-lt-mul_of_pos_right, le_of_mul-le-mul_right, lt_of_mul-lt-mul_right, mul-pos, mul_assoc, mul_right_comm, div-lt_iff_lt-mul, le-div_iff_mul-le, pow-suc, arith, leb→le, lit≤, pow-add, pow_pos, pow_mono}
use Rattle.std.proofs.Math.Path.{ap}
use Prim.Native.Nat.{zero-le, compare, Ordering}
use Rattle.std.proofs.Math.Dec.{nleb→lt}
use Rattle.std.proofs.Math.Arith.{lt_of_le-ne}
use Rattle.std.specs.Float.{Format, binary32, binary64}
use Rattle.std.specs.Float.Ieee.{prec, low, size, nearest, units, hid, ones}
use Rattle.std.specs.Float.Ieee.Digits.{size-lt, size-le}
use Rattle.std.specs.Float.Ieee.Nearest.{div_same}
use Rattle.numbers.specs.Root.{root_in, isqrt, closest_root, round_root}
use Rattle.patterns.specs.Shift.{near_lt, near_eq, near_gt, Cmp, cmp}
use Rattle.laws.specs.FloatPack.{packed}

-- ---- r is the whole part of √n
pub record Root (r n : ℕ) : Type 0 where
  pub least : r * r ≤ n
  pub most : n < (r + 1) * (r + 1)

quarter_lt : (n m : ℕ) → n / 4 < m → n < 4 * m
quarter_lt n m h = omega arith

quarter_le : (n m : ℕ) → m ≤ n / 4 → 4 * m ≤ n
quarter_le n m h = omega arith

root_in_is : (k n : ℕ) → n < 4 ^ k → Root (root_in k n) n
unfolding root_in
root_in_is zero n h = record { least = zero-le; most = h }
root_in_is (suc k) n h =
    go (root_in k (n / 4)) (root_in_is k (n / 4) ((div-lt_iff_lt-mul (zero-lt-suc 3)).1 (subst (λ (x : ℕ). n < x) (pow-suc 4 k) h)))
    (nat_le ((2 * root_in k (n / 4) + 1) * (2 * root_in k (n / 4) + 1)) n)
    (leb→le ((2 * root_in k (n / 4) + 1) * (2 * root_in k (n / 4) + 1)) n)
    (nleb→lt ((2 * root_in k (n / 4) + 1) * (2 * root_in k (n / 4) + 1)) n)
  where
    go : (r : ℕ) → Root r (n / 4) → (b : Bool) → (T b → (2 * r + 1) * (2 * r + 1) ≤ n) → (T (not b) → n < (2 * r + 1) * (2 * r + 1)) → Root (cond b (2 * r + 1) (2 * r)) n
    go r R true l g = record { least = l tt; most = lt_of_lt_of_le (quarter_lt n ((r + 1) * (r + 1)) R.most) (le_of_eq (four r)) }
      where
        four : (r : ℕ) → 4 * ((r + 1) * (r + 1)) ≡ (2 * r + 1 + 1) * (2 * r + 1 + 1)
        four r = omega arith
    go r R false l g = record { least = le_trans (le_of_eq (four r)) (quarter_le n (r * r) R.least); most = g tt }
      where
        four : (r : ℕ) → 2 * r * (2 * r) ≡ 4 * (r * r)
        four r = omega arith

two_four : (k : ℕ) → 2 ^ k ≤ 4 ^ k
two_four zero = le_refl 1
two_four (suc k) = subst (λ (x : ℕ). 2 ^ suc k ≤ x) (sym (pow-suc 4 k)) (subst (λ (x : ℕ). x ≤ 4 ^ k * 4) (sym (pow-suc 2 k)) (mul-le-mul (two_four k) (lit≤ tt)))

pub isqrt_is : (n : ℕ) → Root (isqrt n) n
unfolding isqrt
isqrt_is n = root_in_is (size n) n (lt_of_lt_of_le (size-lt n) (two_four (size n)))

-- a root is one
pub square_le : (a b : ℕ) → a * a < b * b → a < b
square_le a b h = lt_of_not-le (λ (g : b ≤ a). not-le_of_lt h (mul-le-mul g g))

pub root_one : (p q n : ℕ) → Root p n → Root q n → p ≡ q
root_one p q n P Q = le_antisymm (half p q P Q) (half q p Q P)
  where
    half : (p q : ℕ) → Root p n → Root q n → p ≤ q
    half p q P Q = below (square_le p (q + 1) (lt_of_le_of_lt P.least Q.most))
      where
        below : p < q + 1 → p ≤ q
        below h = omega arith

-- of a fraction
pub root_of : (r a b : ℕ) → 0 < b → r * r * b ≤ a → a < (r + 1) * (r + 1) * b → Root r (a / b)
root_of r a b B l m = record { least = (le-div_iff_mul-le B).1 l; most = (div-lt_iff_lt-mul B).1 m }

pub isqrt_frac : (r a b : ℕ) → 0 < b → r * r * b ≤ a → a < (r + 1) * (r + 1) * b → isqrt (a / b) ≡ r
isqrt_frac r a b B l m = root_one (isqrt (a / b)) r (a / b) (isqrt_is (a / b)) (root_of r a b B l m)

-- ---- `closest_root` sees only the value of its fraction
near_scale : (q u v c : ℕ) → 0 < c → nearest q (compare u v) ≡ nearest q (compare (u * c) (v * c))
near_scale q u v c C = go (compare u v) (cmp u v)
  where
    go : (o : Ordering) → Cmp o u v → nearest q o ≡ nearest q (compare (u * c) (v * c))
    go Ordering.lt h = sym (near_lt q (u * c) (v * c) (mul-lt-mul_of_pos_right h C))
    go Ordering.eq h = sym (near_eq q (u * c) (v * c) (ap (λ (x : ℕ). x * c) h))
    go Ordering.gt h = one q ∙ sym (near_gt q (u * c) (v * c) (mul-lt-mul_of_pos_right h C))
      where
        one : (q : ℕ) → suc q ≡ q + 1
        one q = omega arith

pub closest_root_is : (a b : ℕ) → closest_root a b ≡ nearest (isqrt (a / b)) (compare (a * 4) ((2 * isqrt (a / b) + 1) * (2 * isqrt (a / b) + 1) * b))
unfolding closest_root
closest_root_is a b = refl

pub closest_root_same : (a b c d : ℕ) → 0 < b → 0 < d → a * d ≡ c * b → closest_root a b ≡ closest_root c d
closest_root_same a b c d B D e =
    let w = isqrt (a / b) in
    let v = isqrt (c / d) in
    let E : w ≡ v = ap isqrt (div_same a b c d B D e) in
    let X = (2 * v + 1) * (2 * v + 1) in
    closest_root_is a b
    ∙ ap (λ (y : ℕ). nearest y (compare (a * 4) ((2 * y + 1) * (2 * y + 1) * b))) E
    ∙ near_scale v (a * 4) (X * b) d D
    ∙ ap (λ (y : ℕ). nearest v (compare y (X * b * d))) (mul_right_comm a 4 d ∙ ap (λ (y : ℕ). y * 4) e ∙ mul_right_comm c b 4)
    ∙ ap (λ (y : ℕ). nearest v (compare (c * 4 * b) y)) (mul_right_comm X b d)
    ∙ sym (near_scale v (c * 4) (X * d) b B)
    ∙ sym (closest_root_is c d)

-- ---- from the root to one digit more, w, which is no tie: half of w, rounded up
even_half : (w : ℕ) → w % 2 ≡ 0 → (w ≡ 2 * (w / 2)) × ((w + 1) / 2 ≡ w / 2)
even_half w h = omega arith

odd_half : (w : ℕ) → w % 2 ≡ 1 → (w ≡ 2 * (w / 2) + 1) × ((w + 1) / 2 ≡ w / 2 + 1)
odd_half w h = omega arith

parity : (w : ℕ) → (w % 2 ≡ 0) ⊎ (w % 2 ≡ 1)
parity w = go (w % 2) refl
  where
    no : (r : ℕ) → w % 2 ≢ suc (suc r)
    no r e = omega arith

    go : (r : ℕ) → w % 2 ≡ r → (w % 2 ≡ 0) ⊎ (w % 2 ≡ 1)
    go zero e = inl e
    go (suc zero) e = inr e
    go (suc (suc r)) e = absurd (no r e)

pub halved : (a B w : ℕ) → 0 < B → w * w * B ≤ a → a < (w + 1) * (w + 1) * B → (w % 2 ≡ 1 → a ≢ w * w * B) → closest_root a (B * 4) ≡ (w + 1) / 2
halved a B w P lo hi tie =
    let q = w / 2 in
    elim (parity w) [
      | inl e ↦
          let h = even_half w e in
          let L : q * q * (B * 4) ≤ a = le_trans (le_of_eq (square q B ∙ ap (λ (x : ℕ). x * x * B) (sym h.0))) lo in
          let M : a < (2 * q + 1) * (2 * q + 1) * B = subst (λ (x : ℕ). a < (x + 1) * (x + 1) * B) h.0 hi in
          let Z : isqrt (a / (B * 4)) ≡ q = isqrt_frac q a (B * 4) (mul-pos P (zero-lt-suc 3)) L (lt_of_lt_of_le M (wider q B)) in
          closest_root_is a (B * 4)
          ∙ ap (λ (y : ℕ). nearest y (compare (a * 4) ((2 * y + 1) * (2 * y + 1) * (B * 4)))) Z
          ∙ near_lt q (a * 4) ((2 * q + 1) * (2 * q + 1) * (B * 4)) (lt_of_lt_of_le (mul-lt-mul_of_pos_right M (zero-lt-suc 3)) (le_of_eq (mul_assoc ((2 * q + 1) * (2 * q + 1)) B 4)))
          ∙ sym h.1
      | inr e ↦
          let h = odd_half w e in
          let L : (2 * q + 1) * (2 * q + 1) * B ≤ a = subst (λ (x : ℕ). x * x * B ≤ a) h.0 lo in
          let S : (2 * q + 1) * (2 * q + 1) * B < a = lt_of_le-ne L (λ (z : (2 * q + 1) * (2 * q + 1) * B ≡ a). tie e (sym z ∙ ap (λ (x : ℕ). x * x * B) (sym h.0))) in
          let M : a < (q + 1) * (q + 1) * (B * 4) = lt_of_lt_of_le hi (le_of_eq (ap (λ (x : ℕ). (x + 1) * (x + 1) * B) h.0 ∙ next q B)) in
          let Z : isqrt (a / (B * 4)) ≡ q = isqrt_frac q a (B * 4) (mul-pos P (zero-lt-suc 3)) (le_trans (narrower q B) L) M in
          closest_root_is a (B * 4)
          ∙ ap (λ (y : ℕ). nearest y (compare (a * 4) ((2 * y + 1) * (2 * y + 1) * (B * 4)))) Z
          ∙ near_gt q (a * 4) ((2 * q + 1) * (2 * q + 1) * (B * 4)) (lt_of_le_of_lt (le_of_eq (sym (mul_assoc ((2 * q + 1) * (2 * q + 1)) B 4))) (mul-lt-mul_of_pos_right S (zero-lt-suc 3)))
          ∙ sym h.1
    ]
  where
    square : (q B : ℕ) → q * q * (B * 4) ≡ 2 * q * (2 * q) * B
    square q B = omega arith

    wider : (q B : ℕ) → (2 * q + 1) * (2 * q + 1) * B ≤ (q + 1) * (q + 1) * (B * 4)
    wider q B = omega arith

    next : (q B : ℕ) → (2 * q + 1 + 1) * (2 * q + 1 + 1) * B ≡ (q + 1) * (q + 1) * (B * 4)
    next q B = omega arith

    narrower : (q B : ℕ) → q * q * (B * 4) ≤ (2 * q + 1) * (2 * q + 1) * B
    narrower q B = omega arith

-- ---- `round_root` sees only the value of its fraction
pub round_root_same : (f : Format) (a b c d : ℕ) → 0 < b → 0 < d → a * d ≡ c * b → round_root f a b ≡ round_root f c d
unfolding round_root
round_root_same f a b c d B D e =
    let l = 2 ^ (low f + low f) in
    let x : a * l * d ≡ c * l * b = mul_right_comm a l d ∙ ap (λ (z : ℕ). z * l) e ∙ mul_right_comm c b l in
    let k : size (isqrt (a * l / b)) - prec f ≡ size (isqrt (c * l / d)) - prec f = ap (λ (z : ℕ). size (isqrt z) - prec f) (div_same (a * l) b (c * l) d B D x) in
    let j = size (isqrt (c * l / d)) - prec f in
    let y : a * l * (d * 2 ^ (j + j)) ≡ c * l * (b * 2 ^ (j + j)) = sym (mul_assoc (a * l) d (2 ^ (j + j))) ∙ ap (λ (z : ℕ). z * 2 ^ (j + j)) x ∙ mul_assoc (c * l) b (2 ^ (j + j)) in
    ap (λ (z : ℕ). units f false (closest_root (a * l) (b * 2 ^ (z + z))) z) k
    ∙ ap (λ (z : ℕ). units f false z j) (closest_root_same (a * l) (b * 2 ^ (j + j)) (c * l) (d * 2 ^ (j + j)) (mul-pos B (pow_pos (j + j))) (mul-pos D (pow_pos (j + j))) y)

-- ---- the root's digits
pub root_at_least : (R n p : ℕ) → Root R n → p * p ≤ n → p ≤ R
root_at_least R n p H h = below (square_le p (R + 1) (lt_of_le_of_lt h H.most))
  where
    below : p < R + 1 → p ≤ R
    below h = omega arith

pub size_gt : (n j : ℕ) → 2 ^ j ≤ n → j < size n
size_gt n j h = lt_of_not-le (λ (g : size n ≤ j). not-le_of_lt (lt_of_lt_of_le (size-lt n) (pow_mono g)) h)

between : (z p k : ℕ) → 0 < p → z ≤ p + k → p - 1 + k < z → z - p ≡ k
between z p k P h g = omega arith

prec_pos : (f : Format) → 0 < prec f
prec_pos binary32 = lit≤ tt
prec_pos binary64 = lit≤ tt

-- the fraction is a / (B * 4) * 4 ^ k, and w is the root of a / B
module _ (f : Format) (num den a B w k : ℕ) (D : 0 < den) (P : 0 < B) (e : num * 2 ^ (low f + low f) * (B * 4) ≡ a * (den * 2 ^ (k + k)))
    (lo : w * w * B ≤ a) (hi : a < (w + 1) * (w + 1) * B) (tie : w % 2 ≡ 1 → a ≢ w * w * B)
    (least : 2 ^ prec f * 2 ^ prec f * B ≤ a) (most : a < 2 ^ suc (prec f) * 2 ^ suc (prec f) * B) where
  twice : 2 ^ prec f ≡ 2 * 2 ^ (prec f - 1)
  twice = go f
    where
      go : (f : Format) → 2 ^ prec f ≡ 2 * 2 ^ (prec f - 1)
      go binary32 = refl
      go binary64 = refl

  n_least : 2 ^ (prec f - 1 + k) * 2 ^ (prec f - 1 + k) * den ≤ num * 2 ^ (low f + low f)
  n_least =
      le_of_mul-le-mul_right
      (le_trans (le_of_eq (poly (prec f - 1) B den)) (le_trans (mul-le-mul_right (den * 2 ^ (k + k)) (subst (λ (x : ℕ). x * x * B ≤ a) twice least)) (le_of_eq (sym e))))
      (mul-pos P (zero-lt-suc 3))
    where
      regroup : (x y B den : ℕ) → x * y * (x * y) * den * (B * 4) ≡ 2 * x * (2 * x) * B * (den * (y * y))
      regroup x y B den = omega arith

      poly : (p B den : ℕ) → 2 ^ (p + k) * 2 ^ (p + k) * den * (B * 4) ≡ 2 * 2 ^ p * (2 * 2 ^ p) * B * (den * 2 ^ (k + k))
      poly p B den = ap (λ (x : ℕ). x * x * den * (B * 4)) (pow-add 2 p k) ∙ regroup (2 ^ p) (2 ^ k) B den ∙ ap (λ (x : ℕ). 2 * 2 ^ p * (2 * 2 ^ p) * B * (den * x)) (sym (pow-add 2 k k))

  n_most : num * 2 ^ (low f + low f) < 2 ^ (prec f + k) * 2 ^ (prec f + k) * den
  n_most =
      lt_of_mul-lt-mul_right (B * 4)
      (lt_of_le_of_lt (le_of_eq e) (lt_of_lt_of_le (mul-lt-mul_of_pos_right most (mul-pos D (pow_pos (k + k)))) (le_of_eq (poly (prec f) B den))))
    where
      regroup : (x y B den : ℕ) → x * 2 * (x * 2) * B * (den * (y * y)) ≡ x * y * (x * y) * den * (B * 4)
      regroup x y B den = omega arith

      poly : (p B den : ℕ) → 2 ^ suc p * 2 ^ suc p * B * (den * 2 ^ (k + k)) ≡ 2 ^ (p + k) * 2 ^ (p + k) * den * (B * 4)
      poly p B den =
          ap (λ (x : ℕ). x * x * B * (den * 2 ^ (k + k))) (pow-suc 2 p) ∙ ap (λ (x : ℕ). 2 ^ p * 2 * (2 ^ p * 2) * B * (den * x)) (pow-add 2 k k) ∙ regroup (2 ^ p) (2 ^ k) B den ∙ ap (λ (x : ℕ). x * x * den * (B * 4)) (sym (pow-add 2 p k))

  dropped : size (isqrt (num * 2 ^ (low f + low f) / den)) - prec f ≡ k
  dropped =
      let n = num * 2 ^ (low f + low f) in
      let R = isqrt (n / den) in
      let H = isqrt_is (n / den) in
      between (size R) (prec f) k (prec_pos f) (size-le R (prec f + k) (square_le R (2 ^ (prec f + k)) (lt_of_le_of_lt H.least ((div-lt_iff_lt-mul D).1 n_most))))
      (size_gt R (prec f - 1 + k) (root_at_least R (n / den) (2 ^ (prec f - 1 + k)) H ((le-div_iff_mul-le D).1 n_least)))

  pub rooted : round_root f num den ≡ units f false ((w + 1) / 2) k
  unfolding round_root
  rooted =
      let n = num * 2 ^ (low f + low f) in
      ap (λ (z : ℕ). units f false (closest_root n (den * 2 ^ (z + z))) z) dropped
      ∙ ap (λ (z : ℕ). units f false z k) (closest_root_same n (den * 2 ^ (k + k)) a (B * 4) (mul-pos D (pow_pos (k + k))) (mul-pos P (zero-lt-suc 3)) e ∙ halved a B w P lo hi tie)

  w_most : w < 2 ^ suc (prec f)
  w_most = square_le w (2 ^ suc (prec f)) (lt_of_mul-lt-mul_right B (lt_of_le_of_lt lo most))

  w_least : 2 ^ prec f ≤ w
  w_least = below (square_le (2 ^ prec f) (w + 1) (lt_of_mul-lt-mul_right B (lt_of_le_of_lt least hi)))
    where
      below : 2 ^ prec f < w + 1 → 2 ^ prec f ≤ w
      below h = omega arith

  pub half_most : (w + 1) / 2 ≤ 2 ^ prec f
  half_most = go (2 ^ prec f) (subst (λ (x : ℕ). w < x) (pow-suc 2 (prec f)) w_most)
    where
      go : (p : ℕ) → w < p * 2 → (w + 1) / 2 ≤ p
      go p h = omega arith

  pub half_least : hid f ≤ (w + 1) / 2
  half_least = go (hid f) (subst (λ (x : ℕ). x ≤ w) twice w_least)
    where
      go : (p : ℕ) → 2 * p ≤ w → p ≤ (w + 1) / 2
      go p h = omega arith

  pub rooted_bits : k * hid f + (w + 1) / 2 < ones f * hid f → round_root f num den ≡ from_bits f (k * hid f + (w + 1) / 2)
  rooted_bits h = rooted ∙ packed f false ((w + 1) / 2) k half_most (λ _. half_least) h ∙ ap (from_bits f) (zero-add (k * hid f + (w + 1) / 2))

-- ---- a digit of the root at a time: n * 4 ^ i is (q * q + rem) * 2 ^ 64 + rest
pub record Digits (n i q rem rest : ℕ) : Type 0 where
  pub sum : n * 2 ^ (i + i) ≡ (q * q + rem) * 2 ^ 64 + rest
  pub left : rem ≤ 2 * q
  pub rest_lt : rest < 2 ^ 64
  pub small : q < 2 ^ i

pub start : (n : ℕ) → n < 2 ^ 64 → Digits n 0 0 0 n
start n h = record { sum = omega arith; left = zero-le; rest_lt = h; small = zero-lt-suc 0 }

pub step : (n i q rem rest g : ℕ) → g ≡ cond (nat_le (q * 4 + 1) (rem * 4 + rest / 2 ^ 62)) 1 0 → Digits n i q rem rest
    → Digits n (i + 1) (q * 2 + g) (rem * 4 + rest / 2 ^ 62 - g * (q * 4 + 1)) (rest % 2 ^ 62 * 4)
step n i q rem rest g G I = go (nat_le (q * 4 + 1) (rem * 4 + rest / 2 ^ 62)) (leb→le (q * 4 + 1) (rem * 4 + rest / 2 ^ 62)) (nleb→lt (q * 4 + 1) (rem * 4 + rest / 2 ^ 62)) G
  where
    -- the next two digits of n come down
    quad : n * 2 ^ (i + 1 + (i + 1)) ≡ n * 2 ^ (i + i) * 4
    quad = ap (λ (x : ℕ). n * 2 ^ x) (more i) ∙ ap (λ (x : ℕ). n * x) (pow-add 2 (i + i) 2) ∙ sym (mul_assoc n (2 ^ (i + i)) 4)
      where
        more : (i : ℕ) → i + 1 + (i + 1) ≡ i + i + 2
        more i = omega arith

    down : n * 2 ^ (i + 1 + (i + 1)) ≡ (4 * (q * q) + (rem * 4 + rest / 2 ^ 62)) * 2 ^ 64 + rest % 2 ^ 62 * 4
    down = quad ∙ ap (λ (x : ℕ). x * 4) I.sum ∙ omega arith

    power : q < 2 ^ i → q * 2 + 1 < 2 ^ (i + 1)
    power h = lt_of_lt_of_le (two (2 ^ i) h) (le_of_eq (sym (pow-add 2 i 1)))
      where
        two : (p : ℕ) → q < p → q * 2 + 1 < p * 2
        two p h = omega arith

    less : q * 2 + 0 ≤ q * 2 + 1
    less = omega arith

    go : (b : Bool) → (T b → q * 4 + 1 ≤ rem * 4 + rest / 2 ^ 62) → (T (not b) → rem * 4 + rest / 2 ^ 62 < q * 4 + 1) → g ≡ cond b 1 0 → Digits n (i + 1) (q * 2 + g) (rem * 4 + rest / 2 ^ 62 - g * (q * 4 + 1)) (rest % 2 ^ 62 * 4)
    go true h k e =
        subst (λ (x : ℕ). Digits n (i + 1) (q * 2 + x) (rem * 4 + rest / 2 ^ 62 - x * (q * 4 + 1)) (rest % 2 ^ 62 * 4)) (sym e)
        (record { sum = down ∙ ap (λ (x : ℕ). x * 2 ^ 64 + rest % 2 ^ 62 * 4) (taken (rem * 4 + rest / 2 ^ 62) (h tt)); left = bound I.left I.rest_lt (h tt); rest_lt = omega arith; small = power I.small })
      where
        taken : (a : ℕ) → q * 4 + 1 ≤ a → 4 * (q * q) + a ≡ (q * 2 + 1) * (q * 2 + 1) + (a - 1 * (q * 4 + 1))
        taken a h = omega arith

        bound : rem ≤ 2 * q → rest < 2 ^ 64 → q * 4 + 1 ≤ rem * 4 + rest / 2 ^ 62 → rem * 4 + rest / 2 ^ 62 - 1 * (q * 4 + 1) ≤ 2 * (q * 2 + 1)
        bound a b c = omega arith
    go false h k e =
        subst (λ (x : ℕ). Digits n (i + 1) (q * 2 + x) (rem * 4 + rest / 2 ^ 62 - x * (q * 4 + 1)) (rest % 2 ^ 62 * 4)) (sym e)
        (record { sum = down ∙ ap (λ (x : ℕ). x * 2 ^ 64 + rest % 2 ^ 62 * 4) (kept (rem * 4 + rest / 2 ^ 62)); left = bound (rem * 4 + rest / 2 ^ 62) (k tt); rest_lt = omega arith; small = lt_of_le_of_lt less (power I.small) })
      where
        kept : (a : ℕ) → 4 * (q * q) + a ≡ (q * 2 + 0) * (q * 2 + 0) + (a - 0 * (q * 4 + 1))
        kept a = omega arith

        bound : (a : ℕ) → a < q * 4 + 1 → a - 0 * (q * 4 + 1) ≤ 2 * (q * 2 + 0)
        bound a h = omega arith

-- so q is the root
pub digits_root : (n i q rem rest : ℕ) → Digits n i q rem rest → (q * q * 2 ^ 64 ≤ n * 2 ^ (i + i)) × (n * 2 ^ (i + i) < (q + 1) * (q + 1) * 2 ^ 64)
digits_root n i q rem rest I = (subst (λ (x : ℕ). q * q * 2 ^ 64 ≤ x) (sym I.sum) low_side, subst (λ (x : ℕ). x < (q + 1) * (q + 1) * 2 ^ 64) (sym I.sum) (high_side I.left I.rest_lt))
  where
    low_side : q * q * 2 ^ 64 ≤ (q * q + rem) * 2 ^ 64 + rest
    low_side = omega arith

    high_side : rem ≤ 2 * q → rest < 2 ^ 64 → (q * q + rem) * 2 ^ 64 + rest < (q + 1) * (q + 1) * 2 ^ 64
    high_side a b = omega arith
