-- The order of floats, signs and infinities included: of finite values as an order of natural numbers, and of any two values but NaNs as total. Assumes nothing.
use Rattle.std.specs.Prelude.{◌≡◌, refl, ◌⊎◌, ℕ, ◌+◌, ◌*◌, ◌≤◌, ◌<◌, Bool, true, false, not, ◌&&◌, ◌||◌, cond, T, ltb, eqb, Float}
use Rattle.std.proofs.Common.{sym, ap, ap₂, ◌∙◌, subst, inl, inr, zero-le, le_trans, le_of_eq, le_of_lt, not-le_of_lt, eq-or-lt_of_le, zero-mul, mul-le-mul_right, le_of_mul-le-mul_right, arith, true≢false, eqb→eq, ltb→lt, lt→ltb, nltb→le}
use Rattle.std.specs.Float.{nan, inf, fin}
use Rattle.std.specs.Float.Ieee.{up, down, le, lt, eq, below, level, is_nan}
use Rattle.std.specs.Float.Ieee.Fits.{and_l, and_r, and_i, eq→eqb}
use Rattle.std.specs.Float.Ieee.Bits.{is_true, is_false}
use Rattle.std.specs.Float.Ieee.Exact.{HasValue}
use Rattle.std.specs.Float.Ieee.Order.{le_of_values}
use Rattle.std.specs.Float.Ieee.Scale.{finite}
use Rattle.std.specs.Float.Ieee.Positive.{num, den, den_pos}
use Rattle.laws.specs.Branches.{from_false}

-- ---- a finite value is (plus - minus) / den
abbrev pub plus : Float → ℕ
plus nan = 0
plus (inf s) = 0
plus (fin s m e) = cond s 0 (m * up e)

abbrev pub minus : Float → ℕ
minus nan = 0
minus (inf s) = 0
minus (fin s m e) = cond s (m * up e) 0

-- one of two tests passes
pub or_split : (a b : Bool) → T (a || b) → T a ⊎ T b
or_split true b t = inl tt
or_split false b t = inr t

pub or_l : (a b : Bool) → T a → T (a || b)
or_l true b t = tt
or_l false b t = absurd t

pub or_r : (a b : Bool) → T b → T (a || b)
or_r true b t = tt
or_r false b t = t

-- ±a <= ±b
abbrev pub at_most : Bool → ℕ → Bool → ℕ → Bool
at_most s a t b = below s a t b || level s a t b

pub at_most→ : (s : Bool) (a : ℕ) (t : Bool) (b : ℕ) → T (at_most s a t b) → cond s 0 a + cond t b 0 ≤ cond t 0 b + cond s a 0
at_most→ false a false b h = go (or_split (ltb a b) (eqb a b && true) h)
  where
    go : T (ltb a b) ⊎ T (eqb a b && true) → a + 0 ≤ b + 0
    go (inl u) = let l = ltb→lt a b u in omega arith
    go (inr u) = let l = eqb→eq a b (and_l (eqb a b) true u) in omega arith
at_most→ false a true b h =
    let p = eqb→eq a b (and_l (eqb a b) (eqb a 0) h) in
    let q = eqb→eq a 0 (and_r (eqb a b) (eqb a 0) h) in
    omega arith
at_most→ true a false b h = omega arith
at_most→ true a true b h = go (or_split (ltb b a) (eqb a b && true) h)
  where
    go : T (ltb b a) ⊎ T (eqb a b && true) → 0 + b ≤ 0 + a
    go (inl u) = let l = ltb→lt b a u in omega arith
    go (inr u) = let l = eqb→eq a b (and_l (eqb a b) true u) in omega arith

pub →at_most : (s : Bool) (a : ℕ) (t : Bool) (b : ℕ) → cond s 0 a + cond t b 0 ≤ cond t 0 b + cond s a 0 → T (at_most s a t b)
→at_most false a false b h = go (eq-or-lt_of_le {n = a} {m = b} (omega arith))
  where
    go : (a ≡ b) ⊎ (a < b) → T (at_most false a false b)
    go (inl e) = or_r (ltb a b) (eqb a b && true) (and_i (eqb a b) true (eq→eqb e) tt)
    go (inr l) = or_l (ltb a b) (eqb a b && true) (lt→ltb a b l)
→at_most false a true b h =
    let p : a ≡ b = omega arith in
    let q : a ≡ 0 = omega arith in
    and_i (eqb a b) (eqb a 0) (eq→eqb p) (eq→eqb q)
→at_most true a false b h = go (eq-or-lt_of_le {n = 0} {m = a + b} zero-le)
  where
    go : (0 ≡ a + b) ⊎ (0 < a + b) → T (at_most true a false b)
    go (inl e) =
        let p : a ≡ b = omega arith in
        let q : a ≡ 0 = omega arith in
        or_r (ltb 0 (a + b)) (eqb a b && eqb a 0) (and_i (eqb a b) (eqb a 0) (eq→eqb p) (eq→eqb q))
    go (inr l) = or_l (ltb 0 (a + b)) (eqb a b && eqb a 0) (lt→ltb 0 (a + b) l)
→at_most true a true b h = go (eq-or-lt_of_le {n = b} {m = a} (omega arith))
  where
    go : (b ≡ a) ⊎ (b < a) → T (at_most true a true b)
    go (inl e) = or_r (ltb b a) (eqb a b && true) (and_i (eqb a b) true (eq→eqb (sym e)) tt)
    go (inr l) = or_l (ltb b a) (eqb a b && true) (lt→ltb b a l)

-- the order of two finite values, as one of natural numbers
abbrev pub Below : Float → Float → Type 0
Below x y = plus x * den y + minus y * den x ≤ plus y * den x + minus x * den y

pub sign_times : (s : Bool) (a c : ℕ) → (cond s 0 (a * c) ≡ cond s 0 a * c) × (cond s (a * c) 0 ≡ cond s a 0 * c)
sign_times true a c = (sym (zero-mul c), refl)
sign_times false a c = (refl, sym (zero-mul c))

cross : (s t : Bool) (a b c d : ℕ) → (cond s 0 (a * d) + cond t (b * c) 0 ≡ cond s 0 a * d + cond t b 0 * c) × (cond t 0 (b * c) + cond s (a * d) 0 ≡ cond t 0 b * c + cond s a 0 * d)
cross s t a b c d = (ap₂ ◌+◌ (sign_times s a d).0 (sign_times t b c).1, ap₂ ◌+◌ (sign_times t b c).0 (sign_times s a d).1)

pub le→ : (x y : Float) → T (finite x) → T (finite y) → T (le x y) → Below x y
unfolding le
le→ nan y p q h = absurd p
le→ (inf s) y p q h = absurd p
le→ (fin s m e) nan p q h = absurd q
le→ (fin s m e) (inf t) p q h = absurd q
le→ (fin s m e) (fin t n d) p q h =
    let c = cross s t (m * up e) (n * up d) (down e) (down d) in
    le_trans (le_of_eq (sym c.0)) (le_trans (at_most→ s (m * up e * down d) t (n * up d * down e) h) (le_of_eq c.1))

pub →le : (x y : Float) → T (finite x) → T (finite y) → Below x y → T (le x y)
unfolding le
→le nan y p q h = absurd p
→le (inf s) y p q h = absurd p
→le (fin s m e) nan p q h = absurd q
→le (fin s m e) (inf t) p q h = absurd q
→le (fin s m e) (fin t n d) p q h =
    let c = cross s t (m * up e) (n * up d) (down e) (down d) in
    →at_most s (m * up e * down d) t (n * up d * down e) (le_trans (le_of_eq c.0) (le_trans h (le_of_eq (sym c.1))))

-- ---- reflexive and transitive
pub le_self : (x : Float) → T (finite x) → T (le x x)
le_self x p = →le x x p p (omega arith)

pub cross_trans : (px nx dx py ny dy pz nz dz : ℕ) → 0 < dy → px * dy + ny * dx ≤ py * dx + nx * dy → py * dz + nz * dy ≤ pz * dy + ny * dz → px * dz + nz * dx ≤ pz * dx + nx * dz
cross_trans px nx dx py ny dy pz nz dz D h k =
    let a = mul-le-mul_right dz h in
    let b = mul-le-mul_right dx k in
    le_of_mul-le-mul_right {m = px * dz + nz * dx} {n = pz * dx + nx * dz} {k = dy} (omega arith) D

below_trans : (x y z : Float) → Below x y → Below y z → Below x z
below_trans x y z h k = cross_trans (plus x) (minus x) (den x) (plus y) (minus y) (den y) (plus z) (minus z) (den z) (den_pos y) h k

pub le_trans' : (x y z : Float) → T (finite x) → T (finite y) → T (finite z) → T (le x y) → T (le y z) → T (le x z)
le_trans' x y z p q r h k = →le x z p r (below_trans x y z (le→ x y p q h) (le→ y z q r k))

-- what lies between two finite values is finite
pub between_finite : (lo x hi : Float) → T (finite lo) → T (finite hi) → T (le lo x) → T (le x hi) → T (finite x)
unfolding le
between_finite lo nan hi p q h k = absurd k
between_finite nan (inf s) hi p q h k = absurd p
between_finite (inf t) (inf s) hi p q h k = absurd p
between_finite (fin t m e) (inf true) hi p q h k = absurd h
between_finite (fin t m e) (inf false) nan p q h k = absurd q
between_finite (fin t m e) (inf false) (inf u) p q h k = absurd q
between_finite (fin t m e) (inf false) (fin u n d) p q h k = absurd k
between_finite lo (fin s m e) hi p q h k = tt

-- ---- finite, and not negative: a zero counts if its sign is clear
abbrev pub nonneg : Float → Bool
nonneg nan = false
nonneg (inf s) = false
nonneg (fin s m e) = not s

pub own : (x : Float) → T (nonneg x) → HasValue x false (num x) (den x)
own nan h = absurd h
own (inf s) h = absurd h
own (fin true m e) h = absurd h
own (fin false m e) h = (refl, refl)

pub cross→le : (x y : Float) → T (nonneg x) → T (nonneg y) → num x * den y ≤ num y * den x → T (le x y)
cross→le x y p q h = le_of_values x y (num x) (den x) (num y) (den y) (den_pos x) (den_pos y) (own x p) (own y q) h

pub le→cross : (x y : Float) → T (nonneg x) → T (nonneg y) → T (le x y) → num x * den y ≤ num y * den x
unfolding le
le→cross nan y p q h = absurd p
le→cross (inf s) y p q h = absurd p
le→cross (fin true m e) y p q h = absurd p
le→cross (fin false m e) nan p q h = absurd q
le→cross (fin false m e) (inf t) p q h = absurd q
le→cross (fin false m e) (fin true n d) p q h = absurd q
le→cross (fin false m e) (fin false n d) p q h =
    let a = m * up e * down d in
    let b = n * up d * down e in
    elim (or_split (ltb a b) (eqb a b && true) h) [ inl u ↦ le_of_lt (ltb→lt a b u) | inr u ↦ le_of_eq (eqb→eq a b (and_l (eqb a b) true u)) ]

-- ---- of any two values but NaNs, one is below the other or at most it
flip_plain : (a b : ℕ) → ltb a b ≡ false → (ltb b a || (eqb b a && true)) ≡ true
flip_plain a b h = elim (eq-or-lt_of_le (nltb→le a b (from_false (ltb a b) h))) [
  | inl e ↦ right (ltb b a) (eqb b a && true) (and_i (eqb b a) true (eq→eqb e) tt)
  | inr l ↦ left (ltb b a) (eqb b a && true) (lt→ltb b a l)
]
  where
    left : (a b : Bool) → T a → (a || b) ≡ true
    left true b t = refl
    left false b t = absurd t

    right : (a b : Bool) → T b → (a || b) ≡ true
    right true b t = refl
    right false true t = refl
    right false false t = absurd t

same : (a b : ℕ) → a ≡ b → eqb a b ≡ true
same a b e = is_true (eqb a b) (eq→eqb e)

none_left : (a b : ℕ) → ltb 0 (a + b) ≡ false → (a ≡ 0) × (b ≡ 0)
none_left a b h = go (nltb→le 0 (a + b) (from_false (ltb 0 (a + b)) h))
  where
    go : a + b ≤ 0 → (a ≡ 0) × (b ≡ 0)
    go l = omega arith

both_zeros : (a b : ℕ) → a ≡ 0 → b ≡ 0 → (eqb b a && eqb b 0) ≡ true
both_zeros a b p q = ap (λ (x : ℕ). eqb x a && eqb x 0) q ∙ ap (λ (x : ℕ). eqb 0 x && true) p

opposite : (a b : ℕ) (t : Bool) → ltb 0 (b + a) ≡ t → (t || (eqb b a && eqb b 0)) ≡ true
opposite a b true h = refl
opposite a b false h = let z = none_left b a h in both_zeros a b z.1 z.0

pub total : (x y : Float) → T (not (is_nan x)) → T (not (is_nan y)) → lt x y ≡ false → le y x ≡ true
unfolding lt le is_nan
total nan y p q h = absurd p
total (inf s) nan p q h = absurd q
total (inf true) (inf true) p q h = refl
total (inf true) (inf false) p q h = absurd (true≢false h)
total (inf false) (inf true) p q h = refl
total (inf false) (inf false) p q h = refl
total (inf true) (fin t n d) p q h = absurd (true≢false h)
total (inf false) (fin t n d) p q h = refl
total (fin s m e) nan p q h = absurd q
total (fin s m e) (inf true) p q h = refl
total (fin s m e) (inf false) p q h = absurd (true≢false h)
total (fin false m e) (fin false n d) p q h = flip_plain (m * up e * down d) (n * up d * down e) h
total (fin false m e) (fin true n d) p q h = opposite (m * up e * down d) (n * up d * down e) (ltb 0 (n * up d * down e + m * up e * down d)) refl
total (fin true m e) (fin false n d) p q h = let z = none_left (m * up e * down d) (n * up d * down e) h in both_zeros (m * up e * down d) (n * up d * down e) z.0 z.1
total (fin true m e) (fin true n d) p q h = turned (m * up e * down d) (n * up d * down e) h
  where
    turned : (a b : ℕ) → ltb b a ≡ false → (ltb a b || (eqb b a && true)) ≡ true
    turned a b h = elim (eq-or-lt_of_le (nltb→le b a (from_false (ltb b a) h))) [
      | inl e ↦ ap (λ (t : Bool). ltb a b || (t && true)) (same b a (sym e)) ∙ last (ltb a b)
      | inr l ↦ ap (λ (t : Bool). t || (eqb b a && true)) (is_true (ltb a b) (lt→ltb a b l))
    ]
      where
        last : (t : Bool) → (t || true) ≡ true
        last true = refl
        last false = refl

-- ---- below, and at most the other way, exclude each other
below→ : (s : Bool) (a : ℕ) (t : Bool) (b : ℕ) → T (below s a t b) → cond s 0 a + cond t b 0 < cond t 0 b + cond s a 0
below→ false a false b h = let l = ltb→lt a b h in omega arith
below→ false a true b h = absurd h
below→ true a false b h = let l = ltb→lt 0 (a + b) h in omega arith
below→ true a true b h = let l = ltb→lt b a h in omega arith

pub lt_clash : (x y : Float) → T (lt x y) → T (le y x) → ⊥
unfolding lt le
lt_clash nan y h k = h
lt_clash (inf s) nan h k = k
lt_clash (inf true) (inf true) h k = h
lt_clash (inf true) (inf false) h k = k
lt_clash (inf false) (inf t) h k = h
lt_clash (inf true) (fin t n d) h k = k
lt_clash (inf false) (fin t n d) h k = h
lt_clash (fin s m e) nan h k = h
lt_clash (fin s m e) (inf true) h k = h
lt_clash (fin s m e) (inf false) h k = k
lt_clash (fin s m e) (fin t n d) h k = not-le_of_lt (below→ s (m * up e * down d) t (n * up d * down e) h) (at_most→ t (n * up d * down e) s (m * up e * down d) k)

-- ---- a comparison's outcome
-- nothing lies below a NaN
pub lt_nan : (x : Float) → lt x nan ≡ false
unfolding lt
lt_nan nan = refl
lt_nan (inf s) = refl
lt_nan (fin s m e) = refl

pub lt→le : (x y : Float) → T (lt x y) → T (le x y)
unfolding le
lt→le x y t = or_l (lt x y) (eq x y) t

pub not_lt→le : (x y : Float) → T (finite x) → T (finite y) → T (not (lt x y)) → T (le y x)
not_lt→le x y p q h = subst T (sym (total x y (finite_number x p) (finite_number y q) (is_false (lt x y) h))) tt
  where
    finite_number : (x : Float) → T (finite x) → T (not (is_nan x))
    finite_number nan p = absurd p
    finite_number (inf s) p = absurd p
    finite_number (fin s m e) p = unfold is_nan in tt
