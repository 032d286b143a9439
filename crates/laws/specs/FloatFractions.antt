-- Bounds of a float by fractions, and what a rounded sum keeps of them: where a/c + b/d reaches q / 2^j, and the format holds q / 2^j, so does the rounded sum.
-- Assumes nothing.
use Rattle.std.specs.Prelude.{◌≡◌, ℕ, suc, ◌+◌, ◌-◌, ◌*◌, ◌^◌, ◌≤◌, ◌<◌, true, false, T, Float}
use Rattle.std.proofs.Common.{sym, ap, ◌∙◌, subst, inl, zero-le, le_trans, le_of_eq, lt_of_lt_of_le, zero-mul, mul_assoc, mul-pos, add-zero, sub-add_cancel, add_comm, add-le-add, sub-le, arith, true≢false, pow-add, pow_pos, pow_mono, shl_lt}
use Rattle.std.specs.Float.{nan, inf, fin, Format}
use Rattle.std.specs.Float.Ieee.{prec, emax, low, round, add, le}
use Rattle.std.specs.Float.Ieee.Fits.{reach}
use Rattle.std.specs.Float.Ieee.Exact.{HasValue, round_exact}
use Rattle.std.specs.Float.Ieee.Scale.{finite}
use Rattle.std.specs.Float.Ieee.Positive.{den, den_pos}
use Rattle.laws.specs.FloatOrder.{plus, minus, le→, cross_trans}
use Rattle.laws.specs.FloatRounding.{Rounds, rounds_mono}
use Rattle.laws.specs.FloatSums.{add_rounds, adds}

-- a / c <= x, and x <= a / c
abbrev pub AtLeast : Float → ℕ → ℕ → Type 0
AtLeast x a c = a * den x + minus x * c ≤ plus x * c

abbrev pub AtMost : Float → ℕ → ℕ → Type 0
AtMost x a c = plus x * c ≤ a * den x + minus x * c

-- the format holds q / 2^j
pub record Holds (f : Format) (q j : ℕ) : Type 0 where
  pub small : q < 2 ^ prec f
  pub deep : j ≤ low f

pub value : (f : Format) (q j : ℕ) → Holds f q j → HasValue (round f false q (2 ^ j)) false q (2 ^ j)
value f q j h =
    let l = low f in
    let e : 2 ^ (l - j) * 2 ^ j ≡ 2 ^ l = sym (pow-add 2 (l - j) j) ∙ ap (λ (k : ℕ). 2 ^ k) (sub-add_cancel h.deep) in
    round_exact f false q (2 ^ j) q (l - j) (pow_pos j) h.small
    (lt_of_lt_of_le (shl_lt (prec f) (l - j) h.small) (pow_mono (le_trans (add-le-add (reach f) (sub-le l j)) (le_of_eq (add_comm (suc (emax f)) l)))))
    (ap (λ (k : ℕ). q * k) (sym e) ∙ sym (mul_assoc q (2 ^ (l - j)) (2 ^ j)))

record Fraction (x : Float) (q c : ℕ) : Type 0 where
  real : T (finite x)
  least : AtLeast x q c
  most : AtMost x q c

fraction : (x : Float) (q c : ℕ) → HasValue x false q c → Fraction x q c
fraction nan q c h = absurd h
fraction (inf s) q c h = absurd h
fraction (fin true m e) q c h = absurd (true≢false h.0)
fraction (fin false m e) q c h = let e = h.1 in record { real = tt; least = omega arith; most = omega arith }

plain : (k : ℕ) → k ≡ k - 0
plain k = omega arith

itself : (f : Format) (q c : ℕ) → Rounds f (round f false q c) q 0 c
itself f q c = inl (record { no_less = zero-le; is = ap (λ (k : ℕ). round f false k c) (plain q) })

-- ---- the sum
sum_at : (q c p n d : ℕ) → q * d + n * c ≤ p * c → q * d + n * c ≤ p * c + 0 * d
sum_at q c p n d h = le_trans h (le_of_eq (sym (ap (λ (k : ℕ). p * c + k) (zero-mul d) ∙ add-zero (p * c))))

pub add_least : (f : Format) (x y : Float) (a c b d q j : ℕ) → T (finite x) → T (finite y) → T (finite (add f x y)) → 0 < c → 0 < d → Holds f q j → AtLeast x a c → AtLeast y b d
    → q * (c * d) ≤ (a * d + b * c) * 2 ^ j → AtLeast (add f x y) q (2 ^ j)
add_least f x y a c b d q j X Y Z C D H h k l =
    let r = round f false q (2 ^ j) in
    let z = add f x y in
    let v = fraction r q (2 ^ j) (value f q j H) in
    let P = plus x * den y + plus y * den x in
    let N = minus x * den y + minus y * den x in
    let E = den x * den y in
    -- a / c + b / d <= x + y
    let s : (a * d + b * c) * E + N * (c * d) ≤ P * (c * d) + (0 * d + 0 * c) * E =
    adds a 0 c b 0 d (plus x) (minus x) (den x) (plus y) (minus y) (den y) (sum_at a c (plus x) (minus x) (den x) h) (sum_at b d (plus y) (minus y) (den y) k) in
    -- q / 2 ^ j <= x + y
    let t : q * E + N * 2 ^ j ≤ P * 2 ^ j + 0 * E =
    cross_trans q 0 (2 ^ j) (a * d + b * c) (0 * d + 0 * c) (c * d) P N E (mul-pos C D) (fore q (c * d) ((a * d + b * c) * 2 ^ j) (0 * d + 0 * c) (2 ^ j) (nil d c) l) s in
    let w : T (le r z) = rounds_mono f r z q 0 (2 ^ j) P N E (pow_pos j) (mul-pos (den_pos x) (den_pos y)) (itself f q (2 ^ j)) (add_rounds f x y X Y) t in
    last (q * den z + minus z * 2 ^ j) (plus z * 2 ^ j) (den z) (cross_trans q 0 (2 ^ j) (plus r) (minus r) (den r) (plus z) (minus z) (den z) (den_pos r) (sum_at q (2 ^ j) (plus r) (minus r) (den r) v.least) (le→ r z v.real Z w))
  where
    nil : (d c : ℕ) → 0 * d + 0 * c ≡ 0
    nil d c = omega arith

    fore : (q e m n t : ℕ) → n ≡ 0 → q * e ≤ m → q * e + n * t ≤ m + 0 * e
    fore q e m n t z h = subst (λ (k : ℕ). q * e + k * t ≤ m + 0 * e) (sym z) (omega arith)

    last : (A B e : ℕ) → A ≤ B + 0 * e → A ≤ B
    last A B e h = le_trans h (le_of_eq (ap (λ (k : ℕ). B + k) (zero-mul e) ∙ add-zero B))

pub add_most : (f : Format) (x y : Float) (a c b d q j : ℕ) → T (finite x) → T (finite y) → T (finite (add f x y)) → 0 < c → 0 < d → Holds f q j → AtMost x a c → AtMost y b d
    → (a * d + b * c) * 2 ^ j ≤ q * (c * d) → AtMost (add f x y) q (2 ^ j)
add_most f x y a c b d q j X Y Z C D H h k l =
    let r = round f false q (2 ^ j) in
    let z = add f x y in
    let v = fraction r q (2 ^ j) (value f q j H) in
    let P = plus x * den y + plus y * den x in
    let N = minus x * den y + minus y * den x in
    let E = den x * den y in
    let s : P * (c * d) + (0 * d + 0 * c) * E ≤ (a * d + b * c) * E + N * (c * d) =
    adds (plus x) (minus x) (den x) (plus y) (minus y) (den y) a 0 c b 0 d (back (plus x * c) (den x) (a * den x + minus x * c) h) (back (plus y * d) (den y) (b * den y + minus y * d) k) in
    let t : P * 2 ^ j + 0 * E ≤ q * E + N * 2 ^ j =
    cross_trans P N E (a * d + b * c) (0 * d + 0 * c) (c * d) q 0 (2 ^ j) (mul-pos C D) s (fore q (c * d) ((a * d + b * c) * 2 ^ j) (0 * d + 0 * c) (2 ^ j) (nil d c) l) in
    let w : T (le z r) = rounds_mono f z r P N E q 0 (2 ^ j) (mul-pos (den_pos x) (den_pos y)) (pow_pos j) (add_rounds f x y X Y) (itself f q (2 ^ j)) t in
    last (plus z * 2 ^ j) (q * den z + minus z * 2 ^ j) (den z) (cross_trans (plus z) (minus z) (den z) (plus r) (minus r) (den r) q 0 (2 ^ j) (den_pos r) (le→ z r Z v.real w) (back (plus r * 2 ^ j) (den r) (q * den r + minus r * 2 ^ j) v.most))
  where
    nil : (d c : ℕ) → 0 * d + 0 * c ≡ 0
    nil d c = omega arith

    back : (A e B : ℕ) → A ≤ B → A + 0 * e ≤ B
    back A e B h = le_trans (le_of_eq (ap (λ (k : ℕ). A + k) (zero-mul e) ∙ add-zero A)) h

    fore : (q e m n t : ℕ) → n ≡ 0 → m ≤ q * e → m + 0 * e ≤ q * e + n * t
    fore q e m n t z h = subst (λ (k : ℕ). m + 0 * e ≤ q * e + k * t) (sym z) (omega arith)

    last : (A B e : ℕ) → A + 0 * e ≤ B → A ≤ B
    last A B e h = le_trans (le_of_eq (sym (ap (λ (k : ℕ). A + k) (zero-mul e) ∙ add-zero A))) h
