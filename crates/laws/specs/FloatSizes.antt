-- A float that is finite and at most 2 ^ k in size, and what sums and products keep of that, in either format and whatever the signs. At closed k every side condition is `tt`.
-- Assumes nothing.
use Rattle.std.proofs.Common.{sym, ◌∙◌, subst, le_trans, le_of_eq, mul-one, one-mul, mul-pos, mul-le-mul, leb→le, pow-add}
use Rattle.std.proofs.Math.Path.{ap}
use Rattle.std.specs.Prelude.{ℕ, ◌+◌, ◌-◌, ◌*◌, ◌^◌, ◌≤◌, ◌<◌, Bool, true, false, ◌&&◌, cond, pos, T, leb, ltb, Float}
use Rattle.std.proofs.Math.Nat.{mul-mul-mul_comm, mul-le-mul_right}
use native.Mathlib.Omega.{arith}
use Rattle.std.specs.Bool.{beq}
use Rattle.std.specs.Float.Ieee.{nan, up, down, unlike, round, sum, add, sub, mul, neg, le, fits}
use Rattle.std.specs.Float.{inf, fin, Format}
use Rattle.std.specs.Float.Ieee.Fits.{down_pos}
use Rattle.std.specs.Float.Ieee.Scale.{finite}
use Rattle.std.specs.Float.Ieee.Positive.{num, den}
use Rattle.laws.specs.FloatOrder.{nonneg, le→cross}
use Rattle.laws.specs.FloatRounding.{signed, round_signed, round_neg}
use Rattle.laws.specs.FloatValues.{round_most}

pub record Small (k : ℕ) (x : Float) : Type 0 where
  pub is_finite : T (finite x)
  pub most : num x ≤ 2 ^ k * den x

-- 2 ^ k
abbrev pub power : ℕ → Float
power k = fin false 1 (pos k)

-- what is rounded without a sign and is at most 2 ^ k is a number
pub capped : (z : Float) (k : ℕ) → T (signed false z) → T (le z (power k)) → T (nonneg z)
unfolding le
capped nan k u h = absurd u
capped (inf true) k u h = absurd u
capped (inf false) k u h = absurd h
capped (fin true m e) k u h = absurd u
capped (fin false m e) k u h = tt

pub nonneg_finite : (x : Float) → T (nonneg x) → T (finite x)
nonneg_finite nan h = absurd h
nonneg_finite (inf s) h = absurd h
nonneg_finite (fin s m e) h = tt

pub const_small : (k : ℕ) (x : Float) → T (finite x) → T (leb (num x) (2 ^ k * den x)) → Small k x
const_small k x f l = record { is_finite = f; most = leb→le (num x) (2 ^ k * den x) l }

pub neg_small : (k : ℕ) (x : Float) → Small k x → Small k (neg x)
unfolding neg
neg_small k nan h = h
neg_small k (inf s) h = absurd h.is_finite
neg_small k (fin s m e) h = record { is_finite = tt; most = h.most }

module _ (f : Format) where
  plain_small : (a b k : ℕ) → 0 < b → T (fits f (power k)) → a ≤ 2 ^ k * b → Small k (round f false a b)
  plain_small a b k B F h =
      let r = round f false a b in
      let l : T (le r (power k)) = round_most f a b (power k) B tt F (le_trans (le_of_eq (mul-one a)) (le_trans h (le_of_eq (ap (λ (z : ℕ). z * b) (sym (one-mul (2 ^ k))))))) in
      let n = capped r k (round_signed false f a b) l in
      record { is_finite = nonneg_finite r n; most = le_trans (le_of_eq (sym (mul-one (num r)))) (le_trans (le→cross r (power k) n tt l) (le_of_eq (ap (λ (z : ℕ). z * den r) (one-mul (2 ^ k))))) }

  pub round_small : (s : Bool) (a b k : ℕ) → 0 < b → T (fits f (power k)) → a ≤ 2 ^ k * b → Small k (round f s a b)
  round_small false a b k B F h = plain_small a b k B F h
  round_small true a b k B F h = subst (Small k) (sym (round_neg f a b)) (neg_small k (round f false a b) (plain_small a b k B F h))

  pub mul_small : (i j : ℕ) (x y : Float) → T (fits f (power (i + j))) → Small i x → Small j y → Small (i + j) (mul f x y)
  unfolding mul
  mul_small i j nan y F h k = absurd h.is_finite
  mul_small i j (inf s) y F h k = absurd h.is_finite
  mul_small i j (fin s m e) nan F h k = absurd k.is_finite
  mul_small i j (fin s m e) (inf t) F h k = absurd k.is_finite
  mul_small i j (fin s m e) (fin t n d) F h k =
      round_small (unlike s t) (m * up e * (n * up d)) (down e * down d) (i + j) (mul-pos (down_pos e) (down_pos d)) F
      (le_trans (mul-le-mul h.most k.most) (le_of_eq (mul-mul-mul_comm (2 ^ i) (down e) (2 ^ j) (down d) ∙ ap (λ (z : ℕ). z * (down e * down d)) (sym (pow-add 2 i j)))))

  sum_small : (s : Bool) (a : ℕ) (t : Bool) (b c k : ℕ) → 0 < c → T (fits f (power k)) → a + b ≤ 2 ^ k * c → Small k (sum f s a t b c)
  unfolding sum
  sum_small s a t b c k C F h = go (beq s t) (ltb a b)
    where
      first : a + b ≤ 2 ^ k * c → a - b ≤ 2 ^ k * c
      first h = omega arith

      second : a + b ≤ 2 ^ k * c → b - a ≤ 2 ^ k * c
      second h = omega arith

      go : (p q : Bool) → Small k (cond p (round f s (a + b) c) (cond q (round f t (b - a) c) (round f (s && ltb b a) (a - b) c)))
      go true q = round_small s (a + b) c k C F h
      go false true = round_small t (b - a) c k C F (second h)
      go false false = round_small (s && ltb b a) (a - b) c k C F (first h)

  pub add_small : (i j k : ℕ) (x y : Float) → T (leb (2 ^ i + 2 ^ j) (2 ^ k)) → T (fits f (power k)) → Small i x → Small j y → Small k (add f x y)
  unfolding add
  add_small i j k nan y L F h g = absurd h.is_finite
  add_small i j k (inf s) y L F h g = absurd h.is_finite
  add_small i j k (fin s m e) nan L F h g = absurd g.is_finite
  add_small i j k (fin s m e) (inf t) L F h g = absurd g.is_finite
  add_small i j k (fin s m e) (fin t n d) L F h g =
      sum_small s (m * up e * down d) t (n * up d * down e) (down e * down d) k (mul-pos (down_pos e) (down_pos d)) F
      (both (m * up e) (down e) (n * up d) (down d) (2 ^ i) (2 ^ j) (2 ^ k) h.most g.most (leb→le (2 ^ i + 2 ^ j) (2 ^ k) L))
    where
      both : (a b c d P Q R : ℕ) → a ≤ P * b → c ≤ Q * d → P + Q ≤ R → a * d + c * b ≤ R * (b * d)
      both a b c d P Q R h k l =
          let u : a * d ≤ P * b * d = mul-le-mul_right d h in
          let v : c * b ≤ Q * d * b = mul-le-mul_right b k in
          let w : (P + Q) * (b * d) ≤ R * (b * d) = mul-le-mul_right (b * d) l in
          omega arith

  pub sub_small : (i j k : ℕ) (x y : Float) → T (leb (2 ^ i + 2 ^ j) (2 ^ k)) → T (fits f (power k)) → Small i x → Small j y → Small k (sub f x y)
  unfolding sub
  sub_small i j k x y L F h g = add_small i j k x (neg y) L F h (neg_small j y g)
