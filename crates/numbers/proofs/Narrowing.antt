-- Narrowing by the bits: a number moved up to a fixed place and rounded off, and the everyday case rounded in place. Assumes nothing.
use Rattle.std.proofs.Common.{◌≡◌, ℕ, suc, ◌+◌, ◌-◌, ◌*◌, ◌/◌, ◌%◌, ◌^◌, ◌<◌, ◌≤◌, min, Bool, true, false, cond, not, T, ltb, leb, ◌⊎◌, sym, refl, ap, ◌∙◌, subst, inl, inr, le_trans, le_of_eq, lt_of_lt_of_le, mul-le-mul_right, mul_assoc, eq-zero-or-pos, lt_of_not-le, zero-mul, mul-one, not-le_of_lt, arith, lit≤, leb→le, nltb→le, pow_pos, pow_mono, pow-add, shl_lt}
use Prim.Native.Nat.{compare, Ordering}
use lib.Dec.{nleb→lt}
use lib.Count.{count_leading_zeros, leading_of_zero, leading_top, leading_le}
use lib.Ieee.{binary32, binary64, nearest, round, of_bits}
use lib.Ieee.Nearest.{closest}
use Rattle.laws.specs.FloatPack.{shifted_bits, shifted_min, closest_top}
use Rattle.laws.specs.FloatParts.{field, digits_of, power_of, digits_lt, digits_some}
use Rattle.patterns.specs.Shift.{Cmp, cmp}
use Rattle.numbers.specs.Rare.{rare}
use Rattle.laws.specs.Branches.{or_false, from_false}

-- d, moved up so that its highest digit stands at place 62
pub record Norm (d z : ℕ) : Type 0 where
  pub least : 1 ≤ z
  pub most : z ≤ 64
  pub under : d * 2 ^ (z - 1) < 2 ^ 63
  pub over : 0 < d → 2 ^ 62 ≤ d * 2 ^ (z - 1)

low_place : (j d : ℕ) → 2 ^ j ≤ d → d < 2 ^ 53 → j < 53
low_place j d h k = lt_of_not-le (λ (g : 53 ≤ j). not-le_of_lt k (le_trans (pow_mono g) h))

pub norm : (d : ℕ) → d < 2 ^ 53 → Norm d (count_leading_zeros 64 d)
norm d h = go (eq-zero-or-pos d)
  where
    no : (x : ℕ) → x ≡ 0 → 0 < x → ⊥
    no x e p = omega arith

    one : (z j : ℕ) → z + suc j ≡ 64 → j < 53 → 1 ≤ z
    one z j e l = omega arith

    sum : (z j : ℕ) → z + suc j ≡ 64 → j < 53 → suc j + (z - 1) ≡ 63
    sum z j e l = omega arith

    sum_low : (z j : ℕ) → z + suc j ≡ 64 → j < 53 → 62 ≡ j + (z - 1)
    sum_low z j e l = omega arith

    go : (d ≡ 0) ⊎ (0 < d) → Norm d (count_leading_zeros 64 d)
    go (inl e) =
        let z : count_leading_zeros 64 d ≡ 64 = ap (count_leading_zeros 64) e ∙ leading_of_zero 64 in
        record {
          least = subst (λ (x : ℕ). 1 ≤ x) (sym z) (lit≤ tt);
          most = leading_le 64 d;
          under = subst (λ (x : ℕ). x * 2 ^ (count_leading_zeros 64 d - 1) < 2 ^ 63) (sym e) (subst (λ (x : ℕ). x < 2 ^ 63) (sym (zero-mul (2 ^ (count_leading_zeros 64 d - 1)))) (lit≤ tt));
          over = λ p. absurd (no d e p);
        }
    go (inr p) =
        let t = leading_top 64 d p (lt_of_lt_of_le h (lit≤ tt)) in
        let l = low_place t.0 d t.2 h in
        let z = count_leading_zeros 64 d in
        record {
          least = one z t.0 t.1 l;
          most = leading_le 64 d;
          under = subst (λ (x : ℕ). d * 2 ^ (z - 1) < 2 ^ x) (sum z t.0 t.1 l) (shl_lt (suc t.0) (z - 1) t.3);
          over = λ _. le_trans (le_of_eq (ap (λ (x : ℕ). 2 ^ x) (sum_low z t.0 t.1 l) ∙ pow-add 2 t.0 (z - 1))) (mul-le-mul_right (2 ^ (z - 1)) t.2);
        }

-- ---- the powers of two on both sides
same_power : (d a b c z k sh : ℕ) → a + (b + sh) ≡ z + (c + k) → d * 2 ^ a * 2 ^ b * 2 ^ sh ≡ d * 2 ^ z * (2 ^ c * 2 ^ k)
same_power d a b c z k sh e =
    mul_assoc (d * 2 ^ a) (2 ^ b) (2 ^ sh)
    ∙ ap (λ (x : ℕ). d * 2 ^ a * x) (sym (pow-add 2 b sh))
    ∙ mul_assoc d (2 ^ a) (2 ^ (b + sh))
    ∙ ap (λ (x : ℕ). d * x) (sym (pow-add 2 a (b + sh)) ∙ ap (λ (x : ℕ). 2 ^ x) e ∙ pow-add 2 z (c + k))
    ∙ sym (mul_assoc d (2 ^ z) (2 ^ (c + k)))
    ∙ ap (λ (x : ℕ). d * 2 ^ z * x) (pow-add 2 c k)

module _ (d e z : ℕ) (D : d < 2 ^ 53) (lead : 0 < e → 2 ^ 52 ≤ d) (N : Norm d z) where
  powers : (k sh : ℕ) → k ≡ e - (z + 885) → sh ≡ k + z + 924 - e → e + (149 + sh) ≡ z - 1 + (1074 + k)
  powers k sh a b = omega (arith, N.least)

  pub shift_ge : (k sh : ℕ) → k ≡ e - (z + 885) → sh ≡ k + z + 924 - e → 39 ≤ sh
  shift_ge k sh a b = omega arith

  wide_enough : (sh : ℕ) → 39 ≤ sh → 63 ≤ 24 + sh
  wide_enough sh h = omega arith

  at_39 : (k sh : ℕ) → k ≡ e - (z + 885) → sh ≡ k + z + 924 - e → 0 < k → 23 + sh ≤ 62
  at_39 k sh a b p = omega arith

  up_from : (k : ℕ) → k ≡ e - (z + 885) → 0 < k → 0 < e
  up_from k a p = omega arith

  above : 2 ^ 52 ≤ d → 0 < d
  above h = omega arith

  pub narrowed : (s : Bool) (k sh : ℕ) → k ≡ e - (z + 885) → sh ≡ k + z + 924 - e
      → round binary32 s (d * 2 ^ e) (2 ^ 1074) ≡ of_bits binary32 (cond s 0x8000_0000 0 + min (k * 8388608 + closest (d * 2 ^ (z - 1)) (2 ^ sh)) 0x7f80_0000)
  narrowed s k sh a b =
      shifted_min binary32 s (d * 2 ^ e) (2 ^ 1074) (d * 2 ^ (z - 1)) sh k (pow_pos 1074)
      (same_power d e 149 1074 (z - 1) k sh (powers k sh a b))
      (lt_of_lt_of_le N.under (pow_mono (wide_enough sh (shift_ge k sh a b))))
      (λ p. le_trans (pow_mono (at_39 k sh a b p)) (N.over (above (lead (up_from k a p)))))

  pub kept_le : (k sh : ℕ) → k ≡ e - (z + 885) → sh ≡ k + z + 924 - e → closest (d * 2 ^ (z - 1)) (2 ^ sh) ≤ 2 ^ 24
  kept_le k sh a b = closest_top (d * 2 ^ (z - 1)) 24 sh (lt_of_lt_of_le N.under (pow_mono (wide_enough sh (shift_ge k sh a b))))

-- the sign's bit and the pattern fit a `u32`
pub pattern_lt : (s : Bool) (p : ℕ) → p ≤ 0x7f80_0000 → cond s 0x8000_0000 0 + p < 2 ^ 32
pattern_lt true p h = omega arith
pattern_lt false p h = omega arith

pub min_le : (a b : ℕ) → min a b ≤ b
min_le a b = omega arith

-- ---- the everyday case
-- n / 2 ^ 29 to the nearest, a tie to the even one, by adding before the division
pub rounded_in_place : (n : ℕ) → (n + 0xfff_ffff + n / 0x2000_0000 % 2) / 0x2000_0000 ≡ closest n (2 ^ 29)
rounded_in_place n = go (cmp (n % 0x2000_0000 * 2) 0x2000_0000)
  where
    go : Cmp (compare (n % 0x2000_0000 * 2) 0x2000_0000) (n % 0x2000_0000 * 2) 0x2000_0000 → (n + 0xfff_ffff + n / 0x2000_0000 % 2) / 0x2000_0000 ≡ nearest (n / 0x2000_0000) (compare (n % 0x2000_0000 * 2) 0x2000_0000)
    go = by (compare (n % 0x2000_0000 * 2) 0x2000_0000)
      where
        by : (o : Ordering) → Cmp o (n % 0x2000_0000 * 2) 0x2000_0000 → (n + 0xfff_ffff + n / 0x2000_0000 % 2) / 0x2000_0000 ≡ nearest (n / 0x2000_0000) o
        by Ordering.lt l = omega arith
        by Ordering.eq l = omega arith
        by Ordering.gt l = omega arith

-- a multiple of 2 ^ 52 more is a multiple of 2 ^ 23 more
moved_up : (k d : ℕ) → closest (k * 0x10_0000_0000_0000 + d) (2 ^ 29) ≡ k * 8388608 + closest d (2 ^ 29)
moved_up k d =
    let q : (k * 0x10_0000_0000_0000 + d) / 0x2000_0000 ≡ k * 8388608 + d / 0x2000_0000 = omega arith in
    let r : (k * 0x10_0000_0000_0000 + d) % 0x2000_0000 ≡ d % 0x2000_0000 = omega arith in
    ap (λ (x : ℕ). nearest x (compare ((k * 0x10_0000_0000_0000 + d) % 0x2000_0000 * 2) 0x2000_0000)) q
    ∙ ap (λ (x : ℕ). nearest (k * 8388608 + d / 0x2000_0000) (compare (x * 2) 0x2000_0000)) r
    ∙ up (d / 0x2000_0000) (compare (d % 0x2000_0000 * 2) 0x2000_0000)
  where
    up : (q : ℕ) (o : Ordering) → nearest (k * 8388608 + q) o ≡ k * 8388608 + nearest q o
    up q Ordering.lt = refl
    up q Ordering.eq = omega arith
    up q Ordering.gt = omega arith

-- what the tests leave
pub record Everyday (b : ℕ) : Type 0 where
  pub least : 0x3810000000000000 ≤ b % 0x8000_0000_0000_0000
  pub most : b % 0x8000_0000_0000_0000 < 0x47effffff0000000

pub everyday : (b : ℕ) → rare (b % 2 ^ 63) ≡ false → Everyday b
everyday b h =
    let m = b % 2 ^ 63 in
    let t = or_false (ltb m 0x3810000000000000) (leb 0x47effffff0000000 m) h in
    record {
      least = nltb→le m 0x3810000000000000 (from_false (ltb m 0x3810000000000000) t.0);
      most = nleb→lt 0x47effffff0000000 m (from_false (leb 0x47effffff0000000 m) t.1);
    }

module _ (b : ℕ) (E : Everyday b) where
  abbrev moved : ℕ
  moved = b % 0x8000_0000_0000_0000 - 0x3800_0000_0000_0000

  abbrev pub kept : ℕ
  kept = (moved + 0xfff_ffff + moved / 0x2000_0000 % 2) / 0x2000_0000

  pub kept_lt : kept < 0x7f80_0000
  kept_lt = let l = E.least in let h = E.most in omega arith

  -- the exponent's field less 897, and the digits
  abbrev over : ℕ
  over = field binary64 b - 897

  some : field binary64 b ≡ 0 → ⊥
  some e = let l = E.least in omega arith

  digits_are : digits_of binary64 b ≡ b % 0x10_0000_0000_0000 + 0x10_0000_0000_0000
  digits_are = sym (digits_some binary64 b some)

  moved_is : moved ≡ over * 0x10_0000_0000_0000 + digits_of binary64 b
  moved_is = let l = E.least in split b l ∙ ap (λ (x : ℕ). over * 0x10_0000_0000_0000 + x) (sym digits_are)
    where
      split : (b : ℕ) → 0x3810000000000000 ≤ b % 0x8000_0000_0000_0000
          → b % 0x8000_0000_0000_0000 - 0x3800_0000_0000_0000 ≡ (b % 0x8000_0000_0000_0000 / 0x10_0000_0000_0000 - 897) * 0x10_0000_0000_0000 + (b % 0x10_0000_0000_0000 + 0x10_0000_0000_0000)
      split b l = omega arith

  kept_is : kept ≡ over * 8388608 + closest (digits_of binary64 b) (2 ^ 29)
  kept_is = rounded_in_place moved ∙ ap (λ (x : ℕ). closest x (2 ^ 29)) moved_is ∙ moved_up over (digits_of binary64 b)

  powers_are : power_of binary64 b + (149 + 29) ≡ 0 + (1074 + over)
  powers_are = let l = E.least in go b l
    where
      go : (b : ℕ) → 0x3810000000000000 ≤ b % 0x8000_0000_0000_0000 → b % 0x8000_0000_0000_0000 / 0x10_0000_0000_0000 - 1 + (149 + 29) ≡ 0 + (1074 + (b % 0x8000_0000_0000_0000 / 0x10_0000_0000_0000 - 897))
      go b l = omega arith

  high_digit : 2 ^ 52 ≤ digits_of binary64 b
  high_digit = subst (λ (x : ℕ). 2 ^ 52 ≤ x) (sym digits_are) (omega arith)

  pub everyday_is : (s : Bool) → of_bits binary32 (cond s 0x8000_0000 0 + kept) ≡ round binary32 s (digits_of binary64 b * 2 ^ power_of binary64 b) (2 ^ 1074)
  everyday_is s =
      let d = digits_of binary64 b in
      ap (λ (x : ℕ). of_bits binary32 (cond s 0x8000_0000 0 + x)) kept_is
      ∙ sym (shifted_bits binary32 s (d * 2 ^ power_of binary64 b) (2 ^ 1074) d 29 over (pow_pos 1074)
      (same_power d (power_of binary64 b) 149 1074 0 over 29 powers_are ∙ ap (λ (x : ℕ). x * (2 ^ 1074 * 2 ^ over)) (mul-one d))
      (digits_lt binary64 b) (λ _. high_digit) (subst (λ (x : ℕ). x < 0x7f80_0000) kept_is kept_lt))

-- the highest bit, as a number
pub sign_bit : (b : ℕ) → b < 2 ^ 64 → b / 0x8000_0000_0000_0000 * 0x8000_0000 ≡ cond (leb 0x8000_0000_0000_0000 b) 0x8000_0000 0
sign_bit b h = go (leb 0x8000_0000_0000_0000 b) (leb→le 0x8000_0000_0000_0000 b) (nleb→lt 0x8000_0000_0000_0000 b)
  where
    go : (t : Bool) → (T t → 0x8000_0000_0000_0000 ≤ b) → (T (not t) → b < 0x8000_0000_0000_0000) → b / 0x8000_0000_0000_0000 * 0x8000_0000 ≡ cond t 0x8000_0000 0
    go true y n = let l = y tt in omega arith
    go false y n = let l = n tt in omega arith
