-- What an angle of 0 to 64 reaches on its way: its quarter turns are a whole number up to 64, as the code's cast asks, and every step gives a number.
-- By sizes below powers of two. Assumes nothing.
use Rattle.std.specs.Prelude.{◌≡◌, ℕ, ◌+◌, ◌-◌, ◌*◌, ◌/◌, ◌^◌, ◌<◌, ◌≤◌, Bool, true, false, cond, not, T, pos, ◌==◌, nat_le, Float}
use Rattle.std.proofs.Common.{sym, ap₂, subst, subst₂, zero-le, le_trans, le_of_eq, mul-one, mul_comm, arith, true≢false, lt→ltb, leb→le}
use Rattle.std.proofs.Math.Nat.{min-le_left, div-le_of_le-mul}
use Rattle.std.specs.Float.{nan, inf, fin}
use Rattle.std.specs.Float.Ieee.{binary64, up, down, round, add, sub, mul, neg, le, lt, below, fits, of_bits, of_int, to_unsigned}
use Rattle.std.specs.Float.Ieee.Fits.{down_pos}
use Rattle.std.specs.Float.Ieee.Scale.{finite}
use Rattle.std.specs.Float.Ieee.Positive.{num, den, den_pos}
use Rattle.laws.specs.FloatOrder.{plus, minus, sign_times, nonneg, le→, →le, le→cross}
use Rattle.laws.specs.FloatSums.{In, in_finite, add_in, in_wider}
use Rattle.laws.specs.FloatProducts.{mul_in}
use Rattle.laws.specs.FloatSizes.{Small, power, const_small, round_small, mul_small, add_small, sub_small}
use Rattle.numbers.specs.Numbers.{sign_of}
use Rattle.routines.specs.declared.circle.Remainder.{Remainder}
use Rattle.routines.specs.Circle.{half, one, farthest, two_over_pi, half_pi_high, half_pi_middle, half_pi_low, under, turns_of, left_of, reduced_of, near_sine, near_cosine, turned_sine, turned_cosine, S1, S2, S3, S4, S5, S6, C1, C2, C3, C4, C5, C6}

-- ---- strictly below, by natural numbers
→below : (s : Bool) (a : ℕ) (t : Bool) (b : ℕ) → cond s 0 a + cond t b 0 < cond t 0 b + cond s a 0 → T (below s a t b)
→below false a false b h = lt→ltb a b (omega arith)
→below false a true b h = absurd (no_less h)
  where
    no_less : a + b < 0 + 0 → ⊥
    no_less h = omega arith
→below true a false b h = lt→ltb 0 (a + b) (omega arith)
→below true a true b h = lt→ltb b a (omega arith)

→lt : (x y : Float) → T (finite x) → T (finite y) → plus x * den y + minus y * den x < plus y * den x + minus x * den y → T (lt x y)
unfolding lt
→lt nan y p q h = absurd p
→lt (inf s) y p q h = absurd p
→lt (fin s m e) nan p q h = absurd q
→lt (fin s m e) (inf t) p q h = absurd q
→lt (fin s m e) (fin t n d) p q h =
    let u = sign_times s (m * up e) (down d) in
    let v = sign_times t (n * up d) (down e) in
    →below s (m * up e * down d) t (n * up d * down e) (subst₂ (λ (a b : ℕ). a < b) (sym (ap₂ ◌+◌ u.0 v.1)) (sym (ap₂ ◌+◌ v.0 u.1)) h)

-- ---- the quarter turns
abbrev nought : Float
nought = fin false 0 (pos 0)

abbrev reach : Float
reach = power 6

within_turns : (a : Float) → In nought reach a → In nought reach (add binary64 (mul binary64 two_over_pi a) half)
unfolding of_bits add mul le
within_turns a i =
    in_wider (add binary64 (mul binary64 two_over_pi nought) half) (add binary64 (mul binary64 two_over_pi reach) half) nought reach tt tt tt tt
    (add_in binary64 (mul binary64 two_over_pi nought) (mul binary64 two_over_pi reach) half half tt tt (mul_in binary64 two_over_pi nought reach tt tt i) (record { lower = tt; upper = tt }))

above_minus_one : (v : Float) → In nought reach v → T (lt (fin true 1 (pos 0)) v)
above_minus_one v i =
    let q = in_finite nought reach v tt tt i in
    let h = le→ nought v tt q i.lower in
    let d = den_pos v in
    →lt (fin true 1 (pos 0)) v tt q (omega arith)

below_2_64 : (v : Float) → In nought reach v → T (lt v (fin false 1 (pos 64)))
below_2_64 v i =
    let q = in_finite nought reach v tt tt i in
    let h = le→ v reach q tt i.upper in
    let d = den_pos v in
    →lt v (fin false 1 (pos 64)) q tt (omega arith)

-- an angle with no sign that is at most 64
from_sign : (a : Float) → sign_of a ≡ false → le a reach ≡ true → In nought reach a
unfolding sign_of le
from_sign nan s h = absurd (true≢false (sym h))
from_sign (inf t) s h = absurd (true≢false (sym (subst (λ (b : Bool). le (inf b) reach ≡ true) s h)))
from_sign (fin t m e) s h = record { lower = →le nought (fin t m e) tt tt (subst (λ (b : Bool). plus nought * down e + minus (fin b m e) * 1 ≤ plus (fin b m e) * 1 + 0 * down e) (sym s) (least (m * up e) (down e))); upper = subst T (sym h) tt }
  where
    least : (n d : ℕ) → 0 * 1 * d + 0 * 1 ≤ n * 1 + 0 * d
    least n d = omega arith

pub turns_asks : (a : Float) → sign_of a ≡ false → le a farthest ≡ true → T (lt (fin true 1 (pos 0)) (add binary64 (mul binary64 two_over_pi a) half)) × T (lt (add binary64 (mul binary64 two_over_pi a) half) (fin false 1 (pos 64)))
unfolding of_bits
turns_asks a s h = let i = within_turns a (from_sign a s h) in (above_minus_one (add binary64 (mul binary64 two_over_pi a) half) i, below_2_64 (add binary64 (mul binary64 two_over_pi a) half) i)

cut_most : (v : Float) → T (finite v) → T (le v reach) → to_unsigned 64 v ≤ 64
unfolding to_unsigned
cut_most nan h l = absurd h
cut_most (inf s) h l = absurd h
cut_most (fin true m e) h l = zero-le
cut_most (fin false m e) h l =
    le_trans (min-le_left (m * up e / down e) (2 ^ 64 - 1))
    (div-le_of_le-mul (down e) (le_trans (le_of_eq (sym (mul-one (m * up e)))) (le_trans (le→cross (fin false m e) reach tt tt l) (le_of_eq (mul_comm 64 (down e))))))

turns_most : (a : Float) → sign_of a ≡ false → le a farthest ≡ true → turns_of a ≤ 64
unfolding turns_of of_bits
turns_most a s h =
    let v = add binary64 (mul binary64 two_over_pi a) half in
    let i = within_turns a (from_sign a s h) in
    cut_most v (in_finite nought reach v tt tt i) i.upper

-- ---- the sizes on the way
plain : (a : Float) → sign_of a ≡ false → T (finite a) → T (nonneg a)
unfolding sign_of
plain nan s f = f
plain (inf t) s f = f
plain (fin t m e) s f = subst (λ (b : Bool). T (not b)) (sym s) tt

angle_small : (a : Float) → sign_of a ≡ false → le a farthest ≡ true → Small 6 a
unfolding of_bits
angle_small a s h =
    let i = from_sign a s h in
    let f = in_finite nought reach a tt tt i in
    record { is_finite = f; most = le_trans (le_of_eq (sym (mul-one (num a)))) (le→cross a reach (plain a s f) tt i.upper) }

-- c - z p with c of at most 1 in size
under_small : (i j k : ℕ) (c z p : Float) → T (nat_le (2 ^ 0 + 2 ^ (i + j)) (2 ^ k)) → T (fits binary64 (power (i + j))) → T (fits binary64 (power k)) → Small 0 c → Small i z → Small j p → Small k (under c z p)
under_small i j k c z p L F G C Z P = sub_small binary64 0 (i + j) k c (mul binary64 z p) L G C (mul_small binary64 i j z p F Z P)

record Parts (a : Remainder) : Type 0 where
  rest_small : Small 13 a.rest
  tail_small : Small 15 a.tail

left_small : (a : Float) (n : ℕ) → Small 6 a → n ≤ 64 → Parts (left_of a n)
unfolding of_int fits of_bits
left_small a n A l =
    let k = round binary64 false n 1 in
    let K = round_small binary64 false n 1 6 (down_pos (pos 0)) tt (le_trans l (leb→le 64 (2 ^ 6 * 1) tt)) in
    let t = sub binary64 a (mul binary64 k half_pi_high) in
    let Ts = sub_small binary64 6 7 8 a (mul binary64 k half_pi_high) tt tt A (mul_small binary64 6 1 k half_pi_high tt K (const_small 1 half_pi_high tt tt)) in
    let w = mul binary64 k half_pi_middle in
    let W = mul_small binary64 6 0 k half_pi_middle tt K (const_small 0 half_pi_middle tt tt) in
    let u = sub binary64 t w in
    let U = sub_small binary64 8 6 9 t w tt tt Ts W in
    let e = sub binary64 (sub binary64 t u) w in
    let E = sub_small binary64 10 6 11 (sub binary64 t u) w tt tt (sub_small binary64 8 9 10 t u tt tt Ts U) W in
    let v = sub binary64 (mul binary64 k half_pi_low) e in
    let Vs = sub_small binary64 6 11 12 (mul binary64 k half_pi_low) e tt tt (mul_small binary64 6 0 k half_pi_low tt K (const_small 0 half_pi_low tt tt)) E in
    let r = sub binary64 u v in
    let R = sub_small binary64 9 12 13 u v tt tt U Vs in
    record { rest_small = R; tail_small = sub_small binary64 14 12 15 (sub binary64 u r) v tt tt (sub_small binary64 9 13 14 u r tt tt U R) Vs }

module _ (rest tail : Float) (R : Small 13 rest) (S : Small 15 tail) where
  abbrev z : Float
  z = mul binary64 rest rest

  Z : Small 26 z
  unfolding fits
  Z = mul_small binary64 13 13 rest rest tt R R

  sine_small : Small 177 (near_sine rest tail)
  unfolding near_sine fits of_bits
  sine_small =
      let v = mul binary64 z rest in
      let Vs = mul_small binary64 26 13 z rest tt Z R in
      let q5 = under S5 z S6 in
      let Q5 = under_small 26 0 27 S5 z S6 tt tt tt (const_small 0 S5 tt tt) Z (const_small 0 S6 tt tt) in
      let q4 = under S4 z q5 in
      let Q4 = under_small 26 27 54 S4 z q5 tt tt tt (const_small 0 S4 tt tt) Z Q5 in
      let q3 = under S3 z q4 in
      let Q3 = under_small 26 54 81 S3 z q4 tt tt tt (const_small 0 S3 tt tt) Z Q4 in
      let q2 = under S2 z q3 in
      let Q2 = under_small 26 81 108 S2 z q3 tt tt tt (const_small 0 S2 tt tt) Z Q3 in
      let i = sub binary64 (mul binary64 half tail) (mul binary64 v q2) in
      let I = sub_small binary64 15 147 148 (mul binary64 half tail) (mul binary64 v q2) tt tt (mul_small binary64 0 15 half tail tt (const_small 0 half tt tt) S) (mul_small binary64 39 108 v q2 tt Vs Q2) in
      let g = sub binary64 (mul binary64 z i) tail in
      let G = sub_small binary64 174 15 175 (mul binary64 z i) tail tt tt (mul_small binary64 26 148 z i tt Z I) S in
      sub_small binary64 13 176 177 rest (add binary64 g (mul binary64 v S1)) tt tt R (add_small binary64 175 39 176 g (mul binary64 v S1) tt tt G (mul_small binary64 39 0 v S1 tt Vs (const_small 0 S1 tt tt)))

  cosine_small : Small 190 (near_cosine rest tail)
  unfolding near_cosine fits of_bits
  cosine_small =
      let q5 = under C5 z C6 in
      let Q5 = under_small 26 0 27 C5 z C6 tt tt tt (const_small 0 C5 tt tt) Z (const_small 0 C6 tt tt) in
      let q4 = under C4 z q5 in
      let Q4 = under_small 26 27 54 C4 z q5 tt tt tt (const_small 0 C4 tt tt) Z Q5 in
      let q3 = under C3 z q4 in
      let Q3 = under_small 26 54 81 C3 z q4 tt tt tt (const_small 0 C3 tt tt) Z Q4 in
      let q2 = under C2 z q3 in
      let Q2 = under_small 26 81 108 C2 z q3 tt tt tt (const_small 0 C2 tt tt) Z Q3 in
      let q1 = under C1 z q2 in
      let Q1 = under_small 26 108 135 C1 z q2 tt tt tt (const_small 0 C1 tt tt) Z Q2 in
      let h = mul binary64 half z in
      let H = mul_small binary64 0 26 half z tt (const_small 0 half tt tt) Z in
      let w = sub binary64 one h in
      let W = sub_small binary64 0 26 27 one h tt tt (const_small 0 one tt tt) H in
      let i = sub binary64 (sub binary64 one w) h in
      let I = sub_small binary64 28 26 29 (sub binary64 one w) h tt tt (sub_small binary64 0 27 28 one w tt tt (const_small 0 one tt tt) W) H in
      let j = sub binary64 (mul binary64 z (mul binary64 z q1)) (mul binary64 rest tail) in
      let J = sub_small binary64 187 28 188 (mul binary64 z (mul binary64 z q1)) (mul binary64 rest tail) tt tt (mul_small binary64 26 161 z (mul binary64 z q1) tt Z (mul_small binary64 26 135 z q1 tt Z Q1)) (mul_small binary64 13 15 rest tail tt R S) in
      add_small binary64 27 189 190 w (add binary64 i j) tt tt W (add_small binary64 29 188 189 i j tt tt I J)

-- ---- so the last step before the sign, which brings a value back to -1..1, is given a number
finite_neg : (x : Float) → T (finite x) → T (finite (neg x))
unfolding neg
finite_neg nan f = f
finite_neg (inf s) f = f
finite_neg (fin s m e) f = tt

choose : (p q r : Bool) (a b c d : Float) → T (finite a) → T (finite b) → T (finite c) → T (finite d) → T (finite (cond p a (cond q b (cond r c d))))
choose true q r a b c d A B C D = A
choose false true r a b c d A B C D = B
choose false false true a b c d A B C D = C
choose false false false a b c d A B C D = D

module _ (a : Float) (s : sign_of a ≡ false) (h : le a farthest ≡ true) where
  parts : Parts (reduced_of a)
  unfolding reduced_of
  parts = left_small a (turns_of a) (angle_small a s h) (turns_most a s h)

  abbrev r : Remainder
  r = reduced_of a

  abbrev S : Float
  S = near_sine r.rest r.tail

  abbrev C : Float
  C = near_cosine r.rest r.tail

  sine_finite : T (finite S)
  sine_finite = (sine_small r.rest r.tail parts.rest_small parts.tail_small).is_finite

  cosine_finite : T (finite C)
  cosine_finite = (cosine_small r.rest r.tail parts.rest_small parts.tail_small).is_finite

  pub sine_number : T (finite (turned_sine (reduced_of a)))
  unfolding turned_sine
  sine_number = let q = r.quarter in choose (q == 0) (q == 1) (q == 2) S C (neg S) (neg C) sine_finite cosine_finite (finite_neg S sine_finite) (finite_neg C cosine_finite)

  pub cosine_number : T (finite (turned_cosine (reduced_of a)))
  unfolding turned_cosine
  cosine_number = let q = r.quarter in choose (q == 0) (q == 1) (q == 2) C (neg S) (neg C) S cosine_finite (finite_neg S sine_finite) (finite_neg C cosine_finite) sine_finite
