-- What rounding keeps of the order, in either format, whatever the signs, subnormal results and overflow included; and the sign of what is rounded.
-- Assumes nothing.
use Rattle.std.specs.Prelude.{◌≡◌, ◌⊎◌, ℕ, zero, suc, ◌+◌, ◌-◌, ◌*◌, ◌^◌, ◌≤◌, ◌<◌, Bool, true, false, not, ◌&&◌, ◌||◌, cond, pos, T, ltb, Float}
use Rattle.std.proofs.Math.Path.{refl}
use Rattle.std.proofs.Common.{sym, ap, ◌∙◌, subst, inl, inr, zero-mul, mul-le-mul_right, le_of_mul-le-mul_right, add-mul, sub-add_cancel, zero-lt-suc, arith, ltb→lt, nltb→le}
use Rattle.std.specs.Bool.{beq}
use Rattle.std.specs.Float.{nan, inf, fin, Format, binary32}
use Rattle.std.specs.Float.Ieee.{binary64, prec, emax, low, up, down, odd, units, round, sum, neg, le}
use Rattle.std.specs.Float.Ieee.Order.{round_mono}
use Rattle.std.specs.Float.Ieee.Scale.{round_same}
use Rattle.laws.specs.FloatOrder.{at_most→, →at_most}

-- ---- negation
pub neg_neg : (x : Float) → neg (neg x) ≡ x
unfolding neg
neg_neg nan = refl
neg_neg (inf true) = refl
neg_neg (inf false) = refl
neg_neg (fin true m e) = refl
neg_neg (fin false m e) = refl

-- it turns the order round
swap : (s : Bool) (a : ℕ) (t : Bool) (b : ℕ) → cond s 0 a + cond t b 0 ≤ cond t 0 b + cond s a 0 → cond (not t) 0 b + cond (not s) a 0 ≤ cond (not s) 0 a + cond (not t) b 0
swap false a false b h = omega arith
swap false a true b h = omega arith
swap true a false b h = omega arith
swap true a true b h = omega arith

not_or : (b : Bool) → T (not (not b) || false) → T (b || false)
not_or true t = tt
not_or false t = t

pub le_neg : (x y : Float) → T (le x y) → T (le (neg y) (neg x))
unfolding le neg
le_neg nan y h = absurd h
le_neg (inf s) nan h = absurd (elim s as (λ b. T (false || false) → ⊥) [ true ↦ λ t. t | false ↦ λ t. t ] h)
le_neg (inf true) (inf true) h = tt
le_neg (inf true) (inf false) h = tt
le_neg (inf false) (inf true) h = absurd h
le_neg (inf false) (inf false) h = tt
le_neg (inf true) (fin t n d) h = tt
le_neg (inf false) (fin t n d) h = absurd h
le_neg (fin s m e) nan h = absurd h
le_neg (fin s m e) (inf true) h = absurd h
le_neg (fin s m e) (inf false) h = tt
le_neg (fin s m e) (fin t n d) h =
    →at_most (not t) (n * up d * down e) (not s) (m * up e * down d) (swap s (m * up e * down d) t (n * up d * down e) (at_most→ s (m * up e * down d) t (n * up d * down e) h))

odd_neg : (d q k l : ℕ) → odd d true q k l ≡ neg (odd d false q k l)
unfolding odd neg
odd_neg d zero k l = refl
odd_neg d (suc q) k l = refl

units_neg : (f : Format) (q k : ℕ) → units f true q k ≡ neg (units f false q k)
unfolding units
units_neg f q k = go (ltb (q * 2 ^ k) (2 ^ (low f + suc (emax f))))
  where
    go : (b : Bool) → cond b (odd (suc (prec f)) true q k (low f)) (inf true) ≡ neg (cond b (odd (suc (prec f)) false q k (low f)) (inf false))
    go true = odd_neg (suc (prec f)) q k (low f)
    go false = unfold neg in refl

pub round_neg : (f : Format) (a c : ℕ) → round f true a c ≡ neg (round f false a c)
unfolding round
round_neg f a c = units_neg f _ _

-- what is rounded with the sign is no more than what is rounded without
abbrev pub signed : Bool → Float → Bool
signed s nan = false
signed s (inf t) = beq s t
signed s (fin t m e) = beq s t

same_sign : (s : Bool) → T (beq s s)
same_sign true = tt
same_sign false = tt

odd_signed : (s : Bool) (d q k l : ℕ) → T (signed s (odd d s q k l))
unfolding odd
odd_signed s d zero k l = same_sign s
odd_signed s d (suc q) k l = same_sign s

pub units_signed : (s : Bool) (f : Format) (q k : ℕ) → T (signed s (units f s q k))
unfolding units
units_signed s f q k = go (ltb (q * 2 ^ k) (2 ^ (low f + suc (emax f))))
  where
    go : (b : Bool) → T (signed s (cond b (odd (suc (prec f)) s q k (low f)) (inf s)))
    go true = odd_signed s (suc (prec f)) q k (low f)
    go false = same_sign s

pub round_signed : (s : Bool) (f : Format) (a c : ℕ) → T (signed s (round f s a c))
unfolding round
round_signed s f a c = units_signed s f _ _

below_zero : (a b : ℕ) → cond true 0 a + cond false b 0 ≤ cond false 0 b + cond true a 0
below_zero a b = omega arith

le_signs : (x y : Float) → T (signed true x) → T (signed false y) → T (le x y)
unfolding le
le_signs nan y p q = absurd p
le_signs (inf true) nan p q = absurd q
le_signs (inf true) (inf true) p q = absurd q
le_signs (inf true) (inf false) p q = tt
le_signs (inf true) (fin t n d) p q = tt
le_signs (inf false) y p q = absurd p
le_signs (fin true m e) nan p q = absurd q
le_signs (fin true m e) (inf true) p q = absurd q
le_signs (fin true m e) (inf false) p q = tt
le_signs (fin true m e) (fin true n d) p q = absurd q
le_signs (fin true m e) (fin false n d) p q = →at_most true (m * up e * down d) false (n * up d * down e) (below_zero (m * up e * down d) (n * up d * down e))
le_signs (fin false m e) y p q = absurd p

-- nothing, rounded, is a zero with its sign
pub round_zero : (f : Format) (s : Bool) (c : ℕ) → 0 < c → round f s 0 c ≡ fin s 0 (pos 0)
round_zero f s c h = round_same f s 0 c 0 1 h (zero-lt-suc 0) (zero-mul 1 ∙ sym (zero-mul c)) ∙ go f
  where
    go : (f : Format) → round f s 0 1 ≡ fin s 0 (pos 0)
    go binary32 = unfold round in refl
    go binary64 = unfold round in refl

zeros : T (le (fin false 0 (pos 0)) (fin true 0 (pos 0)))
unfolding le
zeros = tt

-- ---- r is (p - n) / c, rounded: at p = n with either sign
pub record Up (f : Format) (r : Float) (p n c : ℕ) : Type 0 where
  pub no_less : n ≤ p
  pub is : r ≡ round f false (p - n) c

pub record Down (f : Format) (r : Float) (p n c : ℕ) : Type 0 where
  pub no_more : p ≤ n
  pub is : r ≡ round f true (n - p) c

abbrev pub Rounds : Format → Float → ℕ → ℕ → ℕ → Type 0
Rounds f r p n c = Up f r p n c ⊎ Down f r p n c

diff : (p n c p' n' c' : ℕ) → n ≤ p → n' ≤ p' → p * c' + n' * c ≤ p' * c + n * c' → (p - n) * c' ≤ (p' - n') * c
diff p n c p' n' c' a b h =
    let x : (p - n) * c' + n * c' ≡ p * c' = sym (add-mul (p - n) n c') ∙ ap (λ (z : ℕ). z * c') (sub-add_cancel a) in
    let y : (p' - n') * c + n' * c ≡ p' * c = sym (add-mul (p' - n') n' c) ∙ ap (λ (z : ℕ). z * c) (sub-add_cancel b) in
    gen ((p - n) * c') (n * c') (p * c') ((p' - n') * c) (n' * c) (p' * c) x y h
  where
    gen : (u v w u' v' w' : ℕ) → u + v ≡ w → u' + v' ≡ w' → w + v' ≤ w' + v → u ≤ u'
    gen u v w u' v' w' x y h = omega arith

-- p - n >= 0 >= p' - n' and no more than it: both are 0
both_zero : (p n c p' n' c' : ℕ) → 0 < c → 0 < c' → n ≤ p → p' ≤ n' → p * c' + n' * c ≤ p' * c + n * c' → (p - n ≡ 0) × (n' - p' ≡ 0)
both_zero p n c p' n' c' C C' a b h =
    let x : n * c' ≤ p * c' = mul-le-mul_right c' a in
    let y : p' * c ≤ n' * c = mul-le-mul_right c b in
    let u : p ≤ n = le_of_mul-le-mul_right {k = c'} (gen (p * c') (n' * c) (p' * c) (n * c') x y h) C' in
    let v : n' ≤ p' = le_of_mul-le-mul_right {k = c} (gen' (p * c') (n' * c) (p' * c) (n * c') x y h) C in
    (omega arith, omega arith)
  where
    gen : (w v' w' v : ℕ) → v ≤ w → w' ≤ v' → w + v' ≤ w' + v → w ≤ v
    gen w v' w' v x y h = omega arith

    gen' : (w v' w' v : ℕ) → v ≤ w → w' ≤ v' → w + v' ≤ w' + v → v' ≤ w'
    gen' w v' w' v x y h = omega arith

le_at : (x x' y y' : Float) → x ≡ x' → y ≡ y' → T (le x' y') → T (le x y)
le_at x x' y y' p q t = subst (λ (z : Float). T (le z y)) (sym p) (subst (λ (z : Float). T (le x' z)) (sym q) t)

pub rounds_mono : (f : Format) (r r' : Float) (p n c p' n' c' : ℕ) → 0 < c → 0 < c' → Rounds f r p n c → Rounds f r' p' n' c' → p * c' + n' * c ≤ p' * c + n * c' → T (le r r')
rounds_mono f r r' p n c p' n' c' C C' (inl a) (inl b) h =
    le_at r (round f false (p - n) c) r' (round f false (p' - n') c') a.is b.is (round_mono f (p - n) c (p' - n') c' C C' (diff p n c p' n' c' a.no_less b.no_less h))
rounds_mono f r r' p n c p' n' c' C C' (inl a) (inr b) h =
    let z = both_zero p n c p' n' c' C C' a.no_less b.no_more h in
    le_at r (fin false 0 (pos 0)) r' (fin true 0 (pos 0)) (a.is ∙ ap (λ (k : ℕ). round f false k c) z.0 ∙ round_zero f false c C) (b.is ∙ ap (λ (k : ℕ). round f true k c') z.1 ∙ round_zero f true c' C')
    zeros
rounds_mono f r r' p n c p' n' c' C C' (inr a) (inl b) h =
    le_at r (round f true (n - p) c) r' (round f false (p' - n') c') a.is b.is (le_signs (round f true (n - p) c) (round f false (p' - n') c') (round_signed true f (n - p) c) (round_signed false f (p' - n') c'))
rounds_mono f r r' p n c p' n' c' C C' (inr a) (inr b) h =
    le_at r (neg (round f false (n - p) c)) r' (neg (round f false (n' - p') c')) (a.is ∙ round_neg f (n - p) c) (b.is ∙ round_neg f (n' - p') c')
    (le_neg (round f false (n' - p') c') (round f false (n - p) c) (round_mono f (n' - p') c' (n - p) c C' C (diff n' p' c' n p c b.no_more a.no_more (turn (p * c') (n' * c) (p' * c) (n * c') h))))
  where
    turn : (a b c d : ℕ) → a + b ≤ c + d → b + a ≤ d + c
    turn a b c d h = omega arith

-- ---- a sum of finite values
pub sum_rounds : (f : Format) (s : Bool) (a : ℕ) (t : Bool) (b c : ℕ) → Rounds f (sum f s a t b c) (cond s 0 a + cond t 0 b) (cond s a 0 + cond t b 0) c
unfolding sum
sum_rounds f false a false b c = inl (record { no_less = omega arith; is = ap (λ (k : ℕ). round f false k c) (plain (a + b)) })
  where
    plain : (k : ℕ) → k ≡ k - 0
    plain k = omega arith
sum_rounds f true a true b c = inr (record { no_more = omega arith; is = ap (λ (k : ℕ). round f true k c) (plain (a + b)) })
  where
    plain : (k : ℕ) → k ≡ k - 0
    plain k = omega arith
sum_rounds f false a true b c = go (ltb a b) (ltb→lt a b) (nltb→le a b)
  where
    go : (x : Bool) → (T x → a < b) → (T (not x) → b ≤ a) → Rounds f (cond x (round f true (b - a) c) (round f false (a - b) c)) (a + 0) (0 + b) c
    go true h k = let l = h tt in inr (record { no_more = omega arith; is = ap (λ (k : ℕ). round f true k c) (omega arith) })
    go false h k = let l = k tt in inl (record { no_less = omega arith; is = ap (λ (k : ℕ). round f false k c) (omega arith) })
sum_rounds f true a false b c = go (ltb a b) (ltb b a) (ltb→lt a b) (nltb→le a b) (ltb→lt b a) (nltb→le b a)
  where
    go : (x y : Bool) → (T x → a < b) → (T (not x) → b ≤ a) → (T y → b < a) → (T (not y) → a ≤ b)
        → Rounds f (cond x (round f false (b - a) c) (round f (true && y) (a - b) c)) (0 + b) (a + 0) c
    go true y h k h' k' = let l = h tt in inl (record { no_less = omega arith; is = ap (λ (k : ℕ). round f false k c) (omega arith) })
    go false true h k h' k' = let l = h' tt in inr (record { no_more = omega arith; is = ap (λ (k : ℕ). round f true k c) (omega arith) })
    go false false h k h' k' = let l = k tt in let m = k' tt in inl (record { no_less = omega arith; is = ap (λ (k : ℕ). round f false k c) (omega arith) })
