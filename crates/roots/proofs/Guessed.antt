-- The numbers of `confirmed`: a root to the nearest whole number, by the squares around it. Assumes nothing.
use Rattle.std.proofs.Common.{◌≡◌, ℕ, zero, suc, ◌+◌, ◌-◌, ◌*◌, ◌/◌, ◌%◌, ◌^◌, ◌<◌, ◌≤◌, Bool, true, false, not, T, leb, ap, ◌∙◌, subst, le_trans, le_of_eq, lt_of_le_of_lt, mul-le-mul_right, mul-le-mul, mul-lt-mul_of_pos_right, arith, lit<, leb→le, pow_pos}
use lib.Dec.{nleb→lt}
use Rattle.roots.specs.Radicands.{HalfRoot}

-- ---- the whole part is twice q, or one less
scaled : (n : ℕ) → n * 2 ^ 42 * 4 * 2 ^ 64 ≡ n * 2 ^ 108
scaled n = omega arith

scaled_le : (n a : ℕ) → a ≤ n * 2 ^ 42 * 4 → a * 2 ^ 64 ≤ n * 2 ^ 108
scaled_le n a h = le_trans (mul-le-mul_right (2 ^ 64) h) (le_of_eq (scaled n))

scaled_lt : (n a : ℕ) → n * 2 ^ 42 * 4 < a → n * 2 ^ 108 < a * 2 ^ 64
scaled_lt n a h = subst (λ (x : ℕ). x < a * 2 ^ 64) (scaled n) (mul-lt-mul_of_pos_right h (pow_pos 64))

nearest_half : (n q : ℕ) → q * q < n * 2 ^ 42 + q → n * 2 ^ 42 ≤ q * q + q → HalfRoot n q
nearest_half n q lo hi = go (leb (q * q) (n * 2 ^ 42)) (leb→le (q * q) (n * 2 ^ 42)) (nleb→lt (q * q) (n * 2 ^ 42))
  where
    even : (q : ℕ) → (2 * q + 1) / 2 ≡ q
    even q = omega arith

    odd : (k : ℕ) → (2 * k + 1 + 1) / 2 ≡ suc k
    odd k = omega arith

    even_le : (q m : ℕ) → q * q ≤ m → 2 * q * (2 * q) ≤ m * 4
    even_le q m h = omega arith

    even_lt : (q m : ℕ) → m ≤ q * q + q → m * 4 < (2 * q + 1) * (2 * q + 1)
    even_lt q m h = omega arith

    odd_le : (k m : ℕ) → suc k * suc k < m + suc k → (2 * k + 1) * (2 * k + 1) ≤ m * 4
    odd_le k m h = omega arith

    odd_lt : (k m : ℕ) → m < suc k * suc k → m * 4 < (2 * k + 1 + 1) * (2 * k + 1 + 1)
    odd_lt k m h = omega arith

    none : (m : ℕ) → m < zero * zero → ⊥
    none m h = omega arith

    less : (q : ℕ) → q * q < n * 2 ^ 42 + q → n * 2 ^ 42 < q * q → HalfRoot n q
    less zero l h = absurd (none (n * 2 ^ 42) h)
    less (suc k) l h = record { whole = 2 * k + 1; half = odd k; least = scaled_le n ((2 * k + 1) * (2 * k + 1)) (odd_le k (n * 2 ^ 42) l); most = scaled_lt n ((2 * k + 1 + 1) * (2 * k + 1 + 1)) (odd_lt k (n * 2 ^ 42) h) }

    go : (b : Bool) → (T b → q * q ≤ n * 2 ^ 42) → (T (not b) → n * 2 ^ 42 < q * q) → HalfRoot n q
    go true h k = record { whole = 2 * q; half = even q; least = scaled_le n (2 * q * (2 * q)) (even_le q (n * 2 ^ 42) (h tt)); most = scaled_lt n ((2 * q + 1) * (2 * q + 1)) (even_lt q (n * 2 ^ 42) hi) }
    go false h k = less q lo (k tt)

-- ---- by the halves of q, and what each step leaves
module _ (n q first last : ℕ) where
  abbrev h : ℕ
  h = q / 0x800_0000

  abbrev l : ℕ
  l = q % 0x800_0000

  both : first + h * h ≡ n / 4096 + 1 → last + h * l * 2 ≡ first * 0x800_0000 + n % 4096 * 32768 → last * 0x800_0000 + q * q ≡ n * 2 ^ 42 + 2 ^ 54 + l * l
  both a b = ap (λ (x : ℕ). last * 0x800_0000 + x) (ap (λ (x : ℕ). x * x) (halves q) ∙ square h l) ∙ sides n first last (h * h) (h * l) (l * l) a b
    where
      halves : (q : ℕ) → q ≡ q / 0x800_0000 * 0x800_0000 + q % 0x800_0000
      halves q = omega arith

      square : (h l : ℕ) → (h * 0x800_0000 + l) * (h * 0x800_0000 + l) ≡ h * h * 2 ^ 54 + h * l * 2 ^ 28 + l * l
      square h l = omega arith

      sides : (n f m a x c : ℕ) → f + a ≡ n / 4096 + 1 → m + x * 2 ≡ f * 0x800_0000 + n % 4096 * 32768 → m * 0x800_0000 + (a * 2 ^ 54 + x * 2 ^ 28 + c) ≡ n * 2 ^ 42 + 2 ^ 54 + c
      sides n f m a x c k e = omega arith

  pub seen_half : first + h * h ≡ n / 4096 + 1 → last + h * l * 2 ≡ first * 0x800_0000 + n % 4096 * 32768 → l * l + 2 ^ 54 < last * 0x800_0000 + q → last * 0x800_0000 ≤ l * l + 2 ^ 54 + q → HalfRoot n q
  seen_half a b lo hi = nearest_half n q (under (last * 0x800_0000) (q * q) (n * 2 ^ 42) (l * l) (both a b) lo) (over (last * 0x800_0000) (q * q) (n * 2 ^ 42) (l * l) (both a b) hi)
    where
      under : (r s m c : ℕ) → r + s ≡ m + 2 ^ 54 + c → c + 2 ^ 54 < r + q → s < m + q
      under r s m c e k = omega arith

      over : (r s m c : ℕ) → r + s ≡ m + 2 ^ 54 + c → r ≤ c + 2 ^ 54 + q → m ≤ s + q
      over r s m c e k = omega arith

-- a small difference did not wrap
pub unwrapped : (r a b : ℕ) → (r + b) % 2 ^ 64 ≡ a → r < 2 ^ 30 → b < 2 ^ 55 → r + b ≡ a
unwrapped r a b e h k = omega arith

-- ---- the products fit
pub product_lt : (a b : ℕ) → a < 2 ^ 27 → b < 2 ^ 27 → a * b < 2 ^ 54
product_lt a b h k = lt_of_le_of_lt (mul-le-mul (le a h) (le b k)) (lit< tt)
  where
    le : (a : ℕ) → a < 2 ^ 27 → a ≤ 0x7ff_ffff
    le a h = omega arith
