-- 64 sign-times the next output is exact, so its whole part gives the position and the phase: (floor (64 x) + 1) / 2 is `tick x`. Assumes nothing.
use Rattle.std.specs.Prelude.{◌≡◌, ℕ, suc, ◌+◌, ◌-◌, ◌*◌, ◌/◌, ◌%◌, ◌^◌, ◌<◌, ◌≤◌, min, Bool, true, false, cond, T, ℤ, pos, negsuc, refl, Float}
use Rattle.std.proofs.Common.{sym, ap, ap₂, ◌∙◌, subst, subst₂, le_trans, le_of_eq, lt_of_le_of_lt, lt_of_lt_of_le, mul-one, one-mul, mul_comm, mul_assoc, mul_left_comm, mul-le-mul_right, sub-add_cancel, mod-lt, arith, true≢false, lt→ltb, lit<, lit≤, pow_pos, pow-add, pow_mono, shl_lt}
use Rattle.std.proofs.Math.Nat.{min-eq_left, div-le_of_le-mul, div-div-eq-div-mul, add-div_right, div-eq_of_lt}
use Rattle.std.specs.Float.{nan, inf, fin}
use Rattle.std.specs.Float.Ieee.{binary64, low, up, down, round, mul, lt, below, to_unsigned, fits}
use Rattle.std.specs.Float.Ieee.Fits.{down_pos}
use Rattle.std.specs.Float.Ieee.Exact.{HasValue, round_exact}
use Rattle.std.specs.Float.Ieee.Nearest.{div_same}
use Rattle.std.specs.Float.Ieee.Scale.{finite}
use Rattle.std.specs.Float.Ieee.Positive.{den, den_pos}
use Rattle.laws.specs.FloatOrder.{plus, minus, sign_times, le→}
use Rattle.laws.specs.FloatRounding.{signed, round_signed}
use Rattle.laws.specs.FloatSums.{In, in_finite}
use Rattle.laws.specs.FloatProducts.{mul_in}
use Rattle.resampler.specs.Outputs.{tick, position, phase, digits, no_minus}
use Rattle.resampler.specs.declared.pass.Place.{Place}
use Rattle.resampler.specs.Pass.{placed_of}
use Rattle.resampler.specs.Admitted.{f0, far, Near}
use Rattle.resampler.specs.Ticks.{deep, pow_le, placed_is}

abbrev pub sixty_four : Float
sixty_four = fin false 1 (pos 6)

-- m * 2^e sign-times 64
scaled_up : (m : ℕ) (e : ℤ) → T (fits binary64 (fin false m e)) → m * up e ≤ 2 ^ 53 * down e → HasValue (round binary64 false (64 * (m * up e)) (down e)) false (64 * (m * up e)) (down e)
scaled_up m (pos k) t h =
    round_exact binary64 false (64 * (m * 2 ^ k)) 1 m (k + (6 + low binary64)) (lit< tt) (digits false m (pos k) t)
    (lt_of_le_of_lt (le_trans (le_of_eq (ap (λ (z : ℕ). m * z) (pow-add 2 k (6 + low binary64)) ∙ sym (mul_assoc m (2 ^ k) (2 ^ (6 + low binary64))))) (mul-le-mul_right (2 ^ (6 + low binary64)) (le_trans h (le_of_eq (mul-one (2 ^ 53)))))) (lit< tt))
    (regroup m (2 ^ k) (2 ^ low binary64) (2 ^ (k + (6 + low binary64))) (pow-add 2 k (6 + low binary64) ∙ ap (λ (z : ℕ). 2 ^ k * z) (pow-add 2 6 (low binary64))))
  where
    regroup : (m P L Q : ℕ) → Q ≡ P * (64 * L) → 64 * (m * P) * L ≡ m * Q * 1
    regroup m P L Q e = simp (mul_assoc, mul_comm, mul_left_comm, mul-one, one-mul, e)
scaled_up m (negsuc k) t h =
    let L = low binary64 in
    let j = 6 + L - suc k in
    let d : suc k ≤ L = pow_le (suc k) L (deep false m (negsuc k) t) in
    let e : 2 ^ j * 2 ^ suc k ≡ 64 * 2 ^ L = sym (pow-add 2 j (suc k)) ∙ ap (λ (z : ℕ). 2 ^ z) (sub-add_cancel (le_trans d (lit≤ tt))) ∙ pow-add 2 6 L in
    round_exact binary64 false (64 * (m * 1)) (2 ^ suc k) m j (pow_pos (suc k)) (digits false m (negsuc k) t)
    (lt_of_lt_of_le (shl_lt 53 j (digits false m (negsuc k) t)) (pow_mono (room L k d)))
    (regroup m (2 ^ L) (2 ^ j) (2 ^ suc k) e)
  where
    room : (L k : ℕ) → suc k ≤ L → 53 + (6 + L - suc k) ≤ L + 1024
    room L k d = omega arith

    regroup : (m L P K : ℕ) → P * K ≡ 64 * L → 64 * (m * 1) * L ≡ m * P * K
    regroup m L P K e = ap (λ (z : ℕ). 64 * z * L) (mul-one m) ∙ mul_assoc 64 m L ∙ mul_left_comm 64 m L ∙ ap (λ (z : ℕ). m * z) (sym e) ∙ sym (mul_assoc m P K)

-- ---- strict order of finite values
→below : (s : Bool) (a : ℕ) (t : Bool) (b : ℕ) → cond s 0 a + cond t b 0 < cond t 0 b + cond s a 0 → T (below s a t b)
→below false a false b h = lt→ltb a b (omega arith)
→below false a true b h = absurd (no_less h)
  where
    no_less : a + b < 0 + 0 → ⊥
    no_less h = omega arith
→below true a false b h = lt→ltb 0 (a + b) (omega arith)
→below true a true b h = lt→ltb b a (omega arith)

pub →lt : (x y : Float) → T (finite x) → T (finite y) → plus x * den y + minus y * den x < plus y * den x + minus x * den y → T (lt x y)
unfolding lt
→lt nan y p q h = absurd p
→lt (inf s) y p q h = absurd p
→lt (fin s m e) nan p q h = absurd q
→lt (fin s m e) (inf t) p q h = absurd q
→lt (fin s m e) (fin t n d) p q h =
    let u = sign_times s (m * up e) (down d) in
    let v = sign_times t (n * up d) (down e) in
    →below s (m * up e * down d) t (n * up d * down e) (subst₂ (λ (a b : ℕ). a < b) (sym (ap₂ ◌+◌ u.0 v.1)) (sym (ap₂ ◌+◌ v.0 u.1)) h)

-- ---- the scaled value
pub big_in : (x : Float) → In f0 far x → In f0 (fin false 1 (pos 59)) (mul binary64 sixty_four x)
unfolding mul
big_in x i = mul_in binary64 sixty_four f0 far tt tt i

big_finite : (x : Float) → In f0 far x → T (finite (mul binary64 sixty_four x))
big_finite x i = in_finite f0 (fin false 1 (pos 59)) (mul binary64 sixty_four x) tt tt (big_in x i)

pub above_minus_one : (x : Float) → In f0 far x → T (lt (fin true 1 (pos 0)) (mul binary64 sixty_four x))
above_minus_one x i =
    let b = mul binary64 sixty_four x in
    let n = no_minus b (big_finite x i) (big_in x i).lower in
    let d = den_pos b in
    →lt (fin true 1 (pos 0)) b tt (big_finite x i) (omega arith)

pub below_2_64 : (x : Float) → In f0 far x → T (lt (mul binary64 sixty_four x) (fin false 1 (pos 64)))
below_2_64 x i =
    let b = mul binary64 sixty_four x in
    let h = le→ b (fin false 1 (pos 59)) (big_finite x i) tt (big_in x i).upper in
    let d = den_pos b in
    →lt b (fin false 1 (pos 64)) (big_finite x i) tt (omega arith)

-- its whole part
cut : (z : Float) (a c : ℕ) → 0 < c → HasValue z false a c → a / c ≤ 2 ^ 64 - 1 → to_unsigned 64 z ≡ a / c
unfolding to_unsigned
cut nan a c C h l = absurd h
cut (inf s) a c C h l = absurd h
cut (fin true m e) a c C h l = absurd (true≢false h.0)
cut (fin false m e) a c C h l =
    let q : m * up e / down e ≡ a / c = div_same (m * up e) (down e) a c (down_pos e) C h.1 in
    ap (λ (k : ℕ). min k (2 ^ 64 - 1)) q ∙ min-eq_left l

cut_signed : (z : Float) → T (signed true z) → to_unsigned 64 z ≡ 0
unfolding to_unsigned
cut_signed nan h = absurd h
cut_signed (inf true) h = refl
cut_signed (inf false) h = absurd h
cut_signed (fin true m e) h = refl
cut_signed (fin false m e) h = absurd h

mul_64 : (m : ℕ) (e : ℤ) → mul binary64 sixty_four (fin false m e) ≡ round binary64 false (64 * (m * up e)) (down e)
unfolding mul
mul_64 m e = ap (λ (z : ℕ). round binary64 false (64 * (m * up e)) z) (one-mul (down e))

halved : (a D : ℕ) → 0 < D → (a / D + 1) / 2 ≡ (a + D) / (2 * D)
halved a D P = ap (λ (z : ℕ). z / 2) (sym (add-div_right a P)) ∙ div-div-eq-div-mul (a + D) D 2 ∙ ap (λ (z : ℕ). (a + D) / z) (mul_comm D 2)

pub tick_code : (x : Float) → In f0 far x → T (fits binary64 x) → (to_unsigned 64 (mul binary64 sixty_four x) + 1) / 2 ≡ tick x
unfolding tick
tick_code nan i t = absurd (in_finite f0 far nan tt tt i)
tick_code (inf s) i t = absurd (in_finite f0 far (inf s) tt tt i)
tick_code (fin false m e) i t =
    let h = le→ (fin false m e) far tt tt i.upper in
    let b : m * up e ≤ 2 ^ 53 * down e = omega arith in
    let l : 64 * (m * up e) ≤ down e * 2 ^ 59 = omega arith in
    ap (λ (z : ℕ). (z + 1) / 2)
    (ap (to_unsigned 64) (mul_64 m e) ∙ cut (round binary64 false (64 * (m * up e)) (down e)) (64 * (m * up e)) (down e) (down_pos e) (scaled_up m e t b) (le_trans (div-le_of_le-mul (down e) l) (lit≤ tt)))
    ∙ halved (64 * (m * up e)) (down e) (down_pos e)
tick_code (fin true m e) i t =
    ap (λ (z : ℕ). (z + 1) / 2) (cut_signed (mul binary64 sixty_four (fin true m e)) neg_64)
    ∙ sym (div-eq_of_lt (small (down e) (down_pos e)))
  where
    neg_64 : T (signed true (mul binary64 sixty_four (fin true m e)))
    neg_64 = unfold mul in round_signed true binary64 (1 * 2 ^ 6 * (m * up e)) (1 * down e)

    small : (D : ℕ) → 0 < D → 64 * 0 + D < 2 * D
    small D h = omega arith

-- ---- the code's way to the place
pub placed_code : (x : Float) → In f0 far x → T (fits binary64 x) → (h : ℕ) → h ≡ to_unsigned 64 (mul binary64 sixty_four x)
    → ◌≡◌ {A = Place} (record { position = (h / 2 + h % 2) / 32; phase = (h / 2 + h % 2) % 32 }) (placed_of x)
unfolding position phase
placed_code x i f h e =
    let k : (to_unsigned 64 (mul binary64 sixty_four x) + 1) / 2 ≡ tick x = tick_code x i f in
    let a : h / 2 + h % 2 ≡ tick x = go h (tick x) (ap (λ (z : ℕ). (z + 1) / 2) e ∙ k) in
    (λ j. record { position = a j / 32; phase = a j % 32 }) ∙ sym (placed_is x i f)
  where
    go : (h u : ℕ) → (h + 1) / 2 ≡ u → h / 2 + h % 2 ≡ u
    go h u b = omega arith

position_most : (x : Float) → In f0 far x → position x ≤ 2 ^ 53 + 1
unfolding position tick
position_most x i =
    let F : T (finite x) = in_finite f0 far x tt tt i in
    let n : minus x ≡ 0 = no_minus x F i.lower in
    let h = le→ x far F tt i.upper in
    div-le_of_le-mul 32 (div-le_of_le-mul (2 * den x) (go (plus x) (minus x) (den x) n h))
  where
    go : (p n D : ℕ) → n ≡ 0 → p * 1 + 0 * D ≤ 1 * 2 ^ 53 * D + n * 1 → 64 * p + D ≤ 2 * D * (32 * (2 ^ 53 + 1))
    go p n D e h = omega arith

pub placed_near : (x : Float) → In f0 far x → T (fits binary64 x) → (p : Place) → p ≡ placed_of x → Near p
unfolding phase
placed_near x i f p e =
    let k : p ≡ record { position = position x; phase = phase x } = e ∙ placed_is x i f in
    subst Near (sym k) (record { phase_in = mod-lt (tick x) (lit< tt); position_in = position_most x i })
