-- Bounds of sums and differences of floats, by the sums and differences of the bounds, which antt computes. Assumes nothing.
use Rattle.std.specs.Prelude.{◌≡◌, refl, ℕ, ◌+◌, ◌-◌, ◌*◌, ◌≤◌, ◌<◌, Bool, true, false, not, ◌&&◌, cond, pos, T, ltb, Float}
use Rattle.std.proofs.Common.{sym, ap, ap₂, ◌∙◌, subst, le_trans, le_of_eq, mul_comm, mul_assoc, mul-le-mul_right, mul-pos, add-mul, mul_left_comm, add_assoc, add_comm, add-le-add, lt_irrefl, ltb→lt}
use Rattle.std.proofs.Math.Nat.{add_left_comm, sub_self}
use Rattle.std.specs.Bool.{beq}
use Rattle.std.proofs.Math.Dec.{not_T}
use Rattle.std.specs.Float.{nan, inf, fin, Format}
use Rattle.std.specs.Float.Ieee.{up, down, round, sum, add, sub, neg, le}
use Rattle.std.specs.Float.Ieee.Fits.{and_l, and_r, down_pos}
use Rattle.std.specs.Float.Ieee.Scale.{finite}
use Rattle.std.specs.Float.Ieee.Positive.{den, den_pos}
use Rattle.laws.specs.FloatOrder.{plus, minus, sign_times, le→, le_trans', between_finite}
use Rattle.laws.specs.FloatRounding.{Rounds, rounds_mono, sum_rounds, le_neg, round_zero}

pub add_rounds : (f : Format) (x y : Float) → T (finite x) → T (finite y) → Rounds f (add f x y) (plus x * den y + plus y * den x) (minus x * den y + minus y * den x) (den x * den y)
unfolding add
add_rounds f nan y p q = absurd p
add_rounds f (inf s) y p q = absurd p
add_rounds f (fin s m e) nan p q = absurd q
add_rounds f (fin s m e) (inf t) p q = absurd q
add_rounds f (fin s m e) (fin t n d) p q =
    let a = m * up e in
    let b = n * up d in
    let c = down e in
    let g = down d in
    let P : cond s 0 (a * g) + cond t 0 (b * c) ≡ cond s 0 a * g + cond t 0 b * c = ap₂ ◌+◌ (sign_times s a g).0 (sign_times t b c).0 in
    let N : cond s (a * g) 0 + cond t (b * c) 0 ≡ cond s a 0 * g + cond t b 0 * c = ap₂ ◌+◌ (sign_times s a g).1 (sign_times t b c).1 in
    subst (λ (k : ℕ). Rounds f (sum f s (a * g) t (b * c) (c * g)) k (cond s a 0 * g + cond t b 0 * c) (c * g)) P
    (subst (λ (k : ℕ). Rounds f (sum f s (a * g) t (b * c) (c * g)) (cond s 0 (a * g) + cond t 0 (b * c)) k (c * g)) N
    (sum_rounds f s (a * g) t (b * c) (c * g)))

-- two differences of fractions, added
pub adds : (px nx dx py ny dy pu nu du pv nv dv : ℕ) → px * du + nu * dx ≤ pu * dx + nx * du → py * dv + nv * dy ≤ pv * dy + ny * dv
    → (px * dy + py * dx) * (du * dv) + (nu * dv + nv * du) * (dx * dy) ≤ (pu * dv + pv * du) * (dx * dy) + (nx * dy + ny * dx) * (du * dv)
adds px nx dx py ny dy pu nu du pv nv dv h k =
    le_trans (le_of_eq (regroup px dy py dx du dv nu nv))
    (le_trans (add-le-add (mul-le-mul_right (dy * dv) h) (mul-le-mul_right (dx * du) k))
    (le_of_eq (sym (regroup pu dv pv du dx dy nx ny ∙ ap₂ ◌+◌ (ap (λ (z : ℕ). (pu * dx + nx * du) * z) (mul_comm dv dy)) (ap (λ (z : ℕ). (pv * dy + ny * dv) * z) (mul_comm du dx))))))
  where
    regroup : (a b c d e g n o : ℕ) → (a * b + c * d) * (e * g) + (n * g + o * e) * (d * b) ≡ (a * e + n * d) * (b * g) + (c * g + o * b) * (d * e)
    regroup a b c d e g n o = simp (add-mul, mul_assoc, mul_comm, mul_left_comm, add_assoc, add_comm, add_left_comm)

pub add_mono : (f : Format) (x x' y y' : Float) → T (finite x) → T (finite x') → T (finite y) → T (finite y') → T (le x x') → T (le y y') → T (le (add f x y) (add f x' y'))
add_mono f x x' y y' p p' q q' h k =
    rounds_mono f (add f x y) (add f x' y') (plus x * den y + plus y * den x) (minus x * den y + minus y * den x) (den x * den y) (plus x' * den y' + plus y' * den x') (minus x' * den y' + minus y' * den x') (den x' * den y')
    (mul-pos (den_pos x) (den_pos y)) (mul-pos (den_pos x') (den_pos y')) (add_rounds f x y p q) (add_rounds f x' y' p' q')
    (adds (plus x) (minus x) (den x) (plus y) (minus y) (den y) (plus x') (minus x') (den x') (plus y') (minus y') (den y') (le→ x x' p p' h) (le→ y y' q q' k))

finite_neg : (x : Float) → T (finite x) → T (finite (neg x))
unfolding neg
finite_neg nan p = absurd p
finite_neg (inf s) p = absurd p
finite_neg (fin s m e) p = tt

sub_is : (f : Format) (x y : Float) → sub f x y ≡ add f x (neg y)
unfolding sub
sub_is f x y = refl

pub sub_mono : (f : Format) (x x' y y' : Float) → T (finite x) → T (finite x') → T (finite y) → T (finite y') → T (le x x') → T (le y' y) → T (le (sub f x y) (sub f x' y'))
sub_mono f x x' y y' p p' q q' h k =
    subst (λ (z : Float). T (le z (sub f x' y'))) (sym (sub_is f x y))
    (subst (λ (z : Float). T (le (add f x (neg y)) z)) (sym (sub_is f x' y'))
    (add_mono f x x' (neg y) (neg y') p p' (finite_neg y q) (finite_neg y' q') h (le_neg y' y k)))

-- ---- intervals: with finite ends, x is finite too
pub record In (lo hi x : Float) : Type 0 where
  pub lower : T (le lo x)
  pub upper : T (le x hi)

pub in_finite : (lo hi x : Float) → T (finite lo) → T (finite hi) → In lo hi x → T (finite x)
in_finite lo hi x p q i = between_finite lo x hi p q i.lower i.upper

-- the ends are closed terms: every test is `tt`. The result's interval may be any that holds the computed one.
abbrev pub ends : Float → Float → Bool
ends a b = finite a && finite b

pub add_in : (f : Format) (a b c d : Float) {x y : Float} → T (ends a b) → T (ends c d) → In a b x → In c d y → In (add f a c) (add f b d) (add f x y)
add_in f a b c d {x} {y} p q i j =
    let A = and_l (finite a) (finite b) p in
    let B = and_r (finite a) (finite b) p in
    let C = and_l (finite c) (finite d) q in
    let D = and_r (finite c) (finite d) q in
    let X = in_finite a b x A B i in
    let Y = in_finite c d y C D j in
    record { lower = add_mono f a x c y A X C Y i.lower j.lower; upper = add_mono f x b y d X B Y D i.upper j.upper }

pub sub_in : (f : Format) (a b c d : Float) {x y : Float} → T (ends a b) → T (ends c d) → In a b x → In c d y → In (sub f a d) (sub f b c) (sub f x y)
sub_in f a b c d {x} {y} p q i j =
    let A = and_l (finite a) (finite b) p in
    let B = and_r (finite a) (finite b) p in
    let C = and_l (finite c) (finite d) q in
    let D = and_r (finite c) (finite d) q in
    let X = in_finite a b x A B i in
    let Y = in_finite c d y C D j in
    record { lower = sub_mono f a x d y A X D Y i.lower j.upper; upper = sub_mono f x b y c X B Y C i.upper j.lower }

pub in_wider : (a b a' b' : Float) {x : Float} → T (ends a b) → T (ends a' b') → T (le a' a) → T (le b b') → In a b x → In a' b' x
in_wider a b a' b' {x} p q h k i =
    let A = and_l (finite a) (finite b) p in
    let B = and_r (finite a) (finite b) p in
    let A' = and_l (finite a') (finite b') q in
    let B' = and_r (finite a') (finite b') q in
    let X = in_finite a b x A B i in
    record { lower = le_trans' a' a x A' A X h i.lower; upper = le_trans' x b b' X B B' i.upper k }

-- ---- a value less itself is +0
not_below : (a : ℕ) → T (not (ltb a a))
not_below a = not_T (ltb a a) (λ t. lt_irrefl a (ltb→lt a a t))

cancel : (f : Format) (s : Bool) (a c : ℕ) → 0 < c → sum f s a (not s) a c ≡ fin false 0 (pos 0)
unfolding sum
cancel f s a c C = go s (ltb a a) (not_below a)
  where
    go : (s x : Bool) → T (not x) → cond (beq s (not s)) (round f s (a + a) c) (cond x (round f (not s) (a - a) c) (round f (s && x) (a - a) c)) ≡ fin false 0 (pos 0)
    go s true t = absurd t
    go true false t = ap (λ (k : ℕ). round f false k c) (sub_self a) ∙ round_zero f false c C
    go false false t = ap (λ (k : ℕ). round f false k c) (sub_self a) ∙ round_zero f false c C

pub sub_same : (f : Format) (x : Float) → T (finite x) → sub f x x ≡ fin false 0 (pos 0)
unfolding sub
sub_same f nan p = absurd p
sub_same f (inf s) p = absurd p
sub_same f (fin s m e) p = cancel f s (m * up e * down e) (down e * down e) (mul-pos (down_pos e) (down_pos e))
