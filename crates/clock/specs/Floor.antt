-- `phase.floor() as i32` of a phase in -16..48, from one truncation. Assumes nothing.
use Rattle.std.specs.Prelude.{◌≡◌, ℕ, suc, ◌+◌, ◌-◌, ◌*◌, ◌/◌, ◌%◌, ◌^◌, ◌<◌, ◌≤◌, min, Bool, true, false, cond, not, T, ℤ, pos, neg_ℤ, refl, Float}
use Rattle.std.proofs.Common.{zero-le, lt_of_le_of_lt, mul-one, le-div_iff_mul-le, div-lt_iff_lt-mul, mul-le-mul_right, mul_comm, le_of_mul-le-mul_right, mul_right_comm, mul-div_cancel, mod-lt, add-mul, one-mul, arith, sym, ap, ◌∙◌, ⊎_elim, true≢false, ltb→lt, nltb→le, lit<}
use Rattle.std.proofs.Math.Nat.{min-eq_left, zero-div, zero-mod, div-le_of_le-mul, div-add-mod}
use Rattle.std.specs.Float.{nan, inf, fin, binary32}
use Rattle.std.specs.Float.Ieee.{of_bits, of_int, round, neg, lt, le, up, down, emax, to_unsigned, to_signed}
use Rattle.std.specs.Float.Ieee.Fits.{down_pos}
use Rattle.std.specs.Float.Ieee.Exact.{HasValue, round_exact}
use Rattle.numbers.specs.Constants.{zero32}
use Rattle.laws.specs.Ring.{lt_or_ge}
use Rattle.laws.specs.FloatOrder.{le→}
use Rattle.laws.specs.FloatSums.{In, in_finite}
use Rattle.whole.specs.Whole.{whole_of, downward}
use Rattle.clock.specs.Clock.{arm_number_of, sixteen, thirty_two, minus16, f48}
use Rattle.clock.specs.Ranges.{Ceiling}

-- ---- a whole number up to 48 is an f32
exact_value : (s : Bool) (q : ℕ) → q ≤ 48 → HasValue (round binary32 s q 1) s q 1
exact_value s q h = round_exact binary32 s q 1 q 149 (omega arith) (omega arith) (small q h) (sym (mul-one (q * 2 ^ 149)))
  where
    small : (q : ℕ) → q ≤ 48 → q * 2 ^ 149 < 2 ^ (149 + suc (emax binary32))
    small q h = let k : q * 2 ^ 149 ≤ 48 * 2 ^ 149 = mul-le-mul_right (2 ^ 149) h in lt_of_le_of_lt k (lit< tt)

-- and is cast to an integer as it is
cast_value : (x : Float) (s : Bool) (q : ℕ) → q ≤ 48 → HasValue x s q 1 → to_signed 31 x ≡ cond s (neg_ℤ (pos q)) (pos q)
unfolding to_signed
cast_value nan s q h v = absurd v
cast_value (inf t) s q h v = absurd v
cast_value (fin t m e) s q h v =
    let w : m * up e / down e ≡ q = ap (λ (z : ℕ). z / down e) (sym (mul-one (m * up e)) ∙ v.1) ∙ mul-div_cancel q (down_pos e) in
    rw (v.0, w) (go s)
  where
    go : (s : Bool) → cond s (neg_ℤ (pos (min q (2 ^ 31)))) (pos (min q (2 ^ 31 - 1))) ≡ cond s (neg_ℤ (pos q)) (pos q)
    go true = let k : q ≤ 2 ^ 31 = omega arith in ap (λ (z : ℕ). neg_ℤ (pos z)) (min-eq_left k)
    go false = let k : q ≤ 2 ^ 31 - 1 = omega arith in ap pos (min-eq_left k)

arm_value : (s : Bool) (m : ℕ) (e : ℤ) → downward s (m * up e) (down e) ≤ 48 → arm_number_of (fin s m e) ≡ cond s (neg_ℤ (pos (downward s (m * up e) (down e)))) (pos (downward s (m * up e) (down e)))
unfolding arm_number_of whole_of
arm_value s m e h = cast_value (round binary32 s (downward s (m * up e) (down e)) 1) s (downward s (m * up e) (down e)) h (exact_value s (downward s (m * up e) (down e)) h)

pub arm_nan : arm_number_of nan ≡ pos 0
unfolding arm_number_of whole_of to_signed
arm_nan = refl

cut : (w : ℕ) → w ≤ 48 → min w (2 ^ 64 - 1) ≡ w
cut w h = let k : w ≤ 2 ^ 64 - 1 = omega arith in min-eq_left k

-- ---- 32 and up: w is the phase's whole part
pub record High (p : Float) (w : ℕ) : Type 0 where
  pub least : 32 ≤ w
  pub most : w ≤ 48
  pub arm : arm_number_of p ≡ pos w

pub high_from : (p : Float) → In minus16 f48 p → T (le thirty_two p) → (w : ℕ) → w ≡ to_unsigned 64 p → High p w
unfolding to_unsigned of_bits
high_from nan i h w q = absurd (in_finite minus16 f48 nan tt tt i)
high_from (inf s) i h w q = absurd (in_finite minus16 f48 (inf s) tt tt i)
high_from (fin true m e) i h w q = absurd (go (m * up e) (down e) (down_pos e) (le→ thirty_two (fin true m e) tt tt h))
  where
    go : (a D : ℕ) → 0 < D → 1 * up (pos 5) * D + a * 1 ≤ 0 * 1 + 0 * D → ⊥
    go a D d k = omega arith
high_from (fin false m e) i h w q =
    let k : 32 * down e ≤ m * up e = lower (m * up e) (down e) (le→ thirty_two (fin false m e) tt tt h) in
    let l : m * up e ≤ down e * 48 = upper (m * up e) (down e) (le→ (fin false m e) f48 tt tt i.upper) in
    let a : 32 ≤ m * up e / down e = (le-div_iff_mul-le (down_pos e)).1 k in
    let b : m * up e / down e ≤ 48 = div-le_of_le-mul (down e) l in
    let z : w ≡ m * up e / down e = q ∙ cut (m * up e / down e) b in
    record { least = rw z a; most = rw z b; arm = arm_value false m e b ∙ ap pos (sym z) }
  where
    lower : (a D : ℕ) → 1 * up (pos 5) * D + 0 * 1 ≤ a * 1 + 0 * D → 32 * D ≤ a
    lower a D k = omega arith

    upper : (a D : ℕ) → a * 1 + 0 * D ≤ 3 * up (pos 4) * D + 0 * 1 → a ≤ D * 48
    upper a D k = omega arith

-- ---- 0 to 32
pub record Middle (p : Float) (w : ℕ) : Type 0 where
  pub most : w < 32
  pub arm : arm_number_of p ≡ pos w

pub middle_from : (p : Float) → T (not (lt p zero32)) → T (lt p thirty_two) → (w : ℕ) → w ≡ to_unsigned 64 p → Middle p w
unfolding to_unsigned lt of_bits
middle_from nan h k w q = absurd k
middle_from (inf true) h k w q = absurd h
middle_from (inf false) h k w q = absurd k
middle_from (fin true m e) h k w q =
    let z : m * up e ≡ 0 = go (m * up e) (nltb→le 0 (m * up e * 1 + 0 * 1 * down e) h) in
    let n : downward true (m * up e) (down e) ≡ 0 = rw (z, zero-div (down e), zero-mod (down e)) in
    record { most = rw q (omega arith); arm = arm_value true m e (rw n (omega arith)) ∙ rw (n, q) }
  where
    go : (a : ℕ) → a * 1 + 0 * 1 * down e ≤ 0 → a ≡ 0
    go a l = omega arith
middle_from (fin false m e) h k w q =
    let l : m * up e < 32 * down e = go (m * up e) (down e) (ltb→lt (m * up e * 1) (1 * up (pos 5) * down e) k) in
    let b : m * up e / down e < 32 = (div-lt_iff_lt-mul (down_pos e)).1 l in
    let z : w ≡ m * up e / down e = q ∙ cut (m * up e / down e) (omega arith) in
    record { most = rw z b; arm = arm_value false m e (omega arith) ∙ ap pos (sym z) }
  where
    go : (a D : ℕ) → a * 1 < 1 * up (pos 5) * D → a < 32 * D
    go a D k = omega arith

-- ---- below 0: x is the phase's negative, c the smallest whole number that is not below x
top16 : (m : ℕ) (e : ℤ) → In zero32 sixteen (fin false m e) → m * up e ≤ down e * 16
unfolding of_bits
top16 m e i = go (m * up e) (down e) (le→ (fin false m e) sixteen tt tt i.upper)
  where
    go : (a D : ℕ) → a * 1 + 0 * D ≤ 1 * up (pos 4) * D + 0 * 1 → a ≤ D * 16
    go a D k = omega arith

whole_is : (m : ℕ) (e : ℤ) → In zero32 sixteen (fin false m e) → (m * up e / down e ≤ 16) × (to_unsigned 64 (fin false m e) ≡ m * up e / down e)
unfolding to_unsigned
whole_is m e i = let b : m * up e / down e ≤ 16 = div-le_of_le-mul (down e) (top16 m e i) in (b, cut (m * up e / down e) (omega arith))

pub whole_most : (x : Float) → In zero32 sixteen x → to_unsigned 64 x ≤ 16
unfolding to_unsigned of_bits
whole_most nan i = absurd (in_finite zero32 sixteen nan tt tt i)
whole_most (inf s) i = absurd (in_finite zero32 sixteen (inf s) tt tt i)
whole_most (fin true m e) i = zero-le
whole_most (fin false m e) i = let w = whole_is m e i in rw w.1 w.0

-- the whole part w of a / D as a float y, below a / D or not
near_value : (w : ℕ) → w ≤ 16 → HasValue (of_int binary32 (pos w)) false w 1
unfolding of_int
near_value w h = exact_value false w (omega arith)

near_lt : (y : Float) (w m : ℕ) (e : ℤ) → HasValue y false w 1 → T (lt y (fin false m e)) → w * down e < m * up e
unfolding lt
near_lt nan w m e v h = absurd v
near_lt (inf s) w m e v h = absurd v
near_lt (fin true n d) w m e v h = absurd (true≢false v.0)
near_lt (fin false n d) w m e v h = go (n * up d) (down d) (m * up e) (down e) (down_pos d) v.1 (ltb→lt (n * up d * down e) (m * up e * down d) h)
  where
    go : (N E a D : ℕ) → 0 < E → N * 1 ≡ w * E → N * D < a * E → w * D < a
    go N E a D p q l = ⊎_elim
        (λ (z : w * D < a). z)
        (λ (g : a ≤ w * D).
        let x : N ≡ w * E = sym (mul-one N) ∙ q in
        let y : N * D ≡ w * E * D = ap (λ (z : ℕ). z * D) x in
        let u : w * D * E ≡ w * E * D = mul_right_comm w D E in
        let k : a * E ≤ w * D * E = mul-le-mul_right E g in
        absurd (omega arith))
        (lt_or_ge (w * D) a)

near_not_lt : (y : Float) (w m : ℕ) (e : ℤ) → HasValue y false w 1 → T (not (lt y (fin false m e))) → m * up e ≤ w * down e
unfolding lt
near_not_lt nan w m e v h = absurd v
near_not_lt (inf s) w m e v h = absurd v
near_not_lt (fin true n d) w m e v h = absurd (true≢false v.0)
near_not_lt (fin false n d) w m e v h = go (n * up d) (down d) (m * up e) (down e) (down_pos d) v.1 (nltb→le (n * up d * down e) (m * up e * down d) h)
  where
    go : (N E a D : ℕ) → 0 < E → N * 1 ≡ w * E → a * E ≤ N * D → a ≤ w * D
    go N E a D p q l =
        let x : N ≡ w * E = sym (mul-one N) ∙ q in
        let y : N * D ≡ w * E * D = ap (λ (z : ℕ). z * D) x in
        let u : w * D * E ≡ w * E * D = mul_right_comm w D E in
        let k : a * E ≤ w * D * E = omega arith in
        le_of_mul-le-mul_right k p

none_below : (y : Float) (w m : ℕ) (d : ℤ) → HasValue y false w 1 → T (lt y (fin true m d)) → ⊥
unfolding lt
none_below nan w m d v t = v
none_below (inf s) w m d v t = v
none_below (fin true n f) w m d v t = true≢false v.0
none_below (fin false n f) w m d v t = t

-- rounding up, by whether anything is left over
module _ (a D w : ℕ) (e : w ≡ a / D) where
  parts : a ≡ w * D + a % D
  parts =
      let k = div-add-mod a D in
      let c : D * (a / D) ≡ w * D = mul_comm D (a / D) ∙ ap (λ (z : ℕ). z * D) (sym e) in
      omega arith

  within : 0 < D → a ≤ (w + 1) * D
  within d =
      let k = parts in
      let r = mod-lt a {m = D} d in
      let e : (w + 1) * D ≡ w * D + D = add-mul w 1 D ∙ ap (λ (z : ℕ). w * D + z) (one-mul D) in
      omega arith

  over : w * D < a → downward true a D ≡ w + 1
  over h =
      let k = parts in
      let r : 1 ≤ a % D = omega arith in
      rw (min-eq_left r) (ap (λ (z : ℕ). z + 1) (sym e))

  not_over : a ≤ w * D → downward true a D ≡ w
  not_over h =
      let k = parts in
      let r : a % D ≡ 0 = omega arith in
      rw r (let z : a / D + 0 ≡ w = omega arith in z)

-- a zero with its sign
pub minus_zero : (m : ℕ) (e : ℤ) → T (le zero32 (fin true m e)) → m * up e ≡ 0
unfolding of_bits
minus_zero m e h = go (m * up e) (down e) (le→ zero32 (fin true m e) tt tt h)
  where
    go : (a D : ℕ) → 0 * up (pos 0) * D + a * 1 ≤ 0 * 1 + 0 * D → a ≡ 0
    go a D k = omega arith

module _ (x y : Float) (w : ℕ) (i : In zero32 sixteen x) (e : w ≡ to_unsigned 64 x) (q : y ≡ of_int binary32 (pos w)) where
  small : w ≤ 16
  small = rw e (whole_most x i)

  near : HasValue y false w 1
  near = rw q (near_value w small)

ceiling_of : (m : ℕ) (d : ℤ) (c : ℕ) → c ≤ 16 → m * up d ≤ c * down d → downward true (m * up d) (down d) ≡ c → Ceiling (fin false m d) c
unfolding neg
ceiling_of m d c h r e = record { most = h; reached = r; arm = arm_value true m d (rw e (omega arith)) ∙ ap (λ (n : ℕ). neg_ℤ (pos n)) e }

pub ceiling_up : (x y : Float) (w : ℕ) → In zero32 sixteen x → w ≡ to_unsigned 64 x → y ≡ of_int binary32 (pos w) → lt y x ≡ true → Ceiling x (w + 1)
unfolding of_bits
ceiling_up nan y w i e q h = absurd (in_finite zero32 sixteen nan tt tt i)
ceiling_up (inf s) y w i e q h = absurd (in_finite zero32 sixteen (inf s) tt tt i)
ceiling_up (fin true m d) y w i e q h = absurd (none_below y w m d (near (fin true m d) y w i e q) (rw h tt))
ceiling_up (fin false m d) y w i e q h =
    let l : w * down d < m * up d = near_lt y w m d (near (fin false m d) y w i e q) (rw h tt) in
    ceiling_of m d (w + 1) (fits l (top16 m d i)) (within (m * up d) (down d) w (e ∙ (whole_is m d i).1) (down_pos d)) (over (m * up d) (down d) w (e ∙ (whole_is m d i).1) l)
  where
    fits : w * down d < m * up d → m * up d ≤ down d * 16 → w + 1 ≤ 16
    fits l u = ⊎_elim (λ (z : w < 16). omega arith) (λ (g : 16 ≤ w). let r : 16 * down d ≤ w * down d = mul-le-mul_right (down d) g in absurd (omega arith)) (lt_or_ge w 16)

pub ceiling_not : (x y : Float) (w : ℕ) → In zero32 sixteen x → w ≡ to_unsigned 64 x → y ≡ of_int binary32 (pos w) → lt y x ≡ false → Ceiling x w
unfolding of_bits neg to_unsigned
ceiling_not nan y w i e q h = absurd (in_finite zero32 sixteen nan tt tt i)
ceiling_not (inf s) y w i e q h = absurd (in_finite zero32 sixteen (inf s) tt tt i)
ceiling_not (fin true m d) y w i e q h =
    let z = minus_zero m d i.lower in
    let n : downward false (m * up d) (down d) ≡ 0 = rw (z, zero-div (down d)) in
    record { most = rw e zero-le; reached = rw z zero-le; arm = arm_value false m d (rw n zero-le) ∙ rw (n, e) }
ceiling_not (fin false m d) y w i e q h =
    let l : m * up d ≤ w * down d = near_not_lt y w m d (near (fin false m d) y w i e q) (rw h tt) in
    ceiling_of m d w (small (fin false m d) y w i e q) l (not_over (m * up d) (down d) w (e ∙ (whole_is m d i).1) l)
