-- The resampler's way to its position and phase: the whole part, the difference, 32 sign-times it, rounded half away. Each step but the last is exact, so together they are `tick`: 32 x rounded half up.
-- Assumes nothing.
use Rattle.std.specs.Prelude.{◌≡◌, ℕ, zero, suc, ◌+◌, ◌-◌, ◌*◌, ◌/◌, ◌%◌, ◌^◌, ◌<◌, ◌≤◌, Bool, true, false, cond, ◌&&◌, T, ℤ, pos, negsuc, ◌==◌, ◌≢◌, nat_le, nat_lt, refl, Float}
use Rattle.std.proofs.Common.{sym, ◌∙◌, ⊎_elim, le_refl, le_trans, le_of_eq, lt_of_le_of_lt, lt_of_lt_of_le, mul-one, one-mul, mul_comm, mul_assoc, mul-pos, div-add-mod', mod-lt, sub-add_cancel, lt_irrefl, lt_of_not-le, not-le_of_lt, le_of_suc-le-suc, div-lt_iff_lt-mul, zero-lt-suc, true≢false, eqb→eq, ltb→lt, leb→le, lit<, lit≤, pow_pos, pow-add, pow_mono, eq-eqb, ne_eqb}
use Rattle.std.proofs.Math.Path.{ap, subst}
use Rattle.std.proofs.Math.Nat.{mod-le, mod-one, add-mul-div_right, eq_of_mul-eq-mul_right, add_comm, div-le_of_le-mul, pow-succ'}
use native.Mathlib.Omega.{arith}
use Rattle.std.proofs.Math.Decide.{dec_le}
use Rattle.std.proofs.Math.Dec.{le→leb}
use Rattle.std.proofs.Math.Pow.{pow-lt}
use Rattle.std.specs.Float.{nan, inf, Format}
use Rattle.std.specs.Float.Ieee.{fin, binary64, low, emax, up, down, round, sum, sub, mul, of_int, of_bits, to_unsigned, in_float, fits}
use Rattle.std.specs.Float.Ieee.Fits.{and_l, and_r, up_pos, down_pos}
use Rattle.std.specs.Float.Ieee.Exact.{HasValue}
use Rattle.std.specs.Float.Ieee.Back.{round_whole, unsigned_back}
use Rattle.std.specs.Float.Ieee.Scale.{round_same}
use Rattle.std.specs.Float.Ieee.Positive.{den}
use Rattle.laws.specs.FloatOrder.{plus, le→}
use Rattle.laws.specs.FloatSums.{In, in_finite}
use Rattle.laws.specs.FloatFractions.{Holds, value}
use Rattle.laws.specs.Places.{le_or}
use Rattle.whole.specs.Whole.{whole_of, away, downward}
use Rattle.whole.proofs.ToWhole.{away_is, whole_value}
use Rattle.resampler.specs.declared.pass.Place.{Place}
use Rattle.resampler.specs.Pass.{placed_of}
use Rattle.resampler.specs.Admitted.{f0, far}
use Rattle.resampler.specs.Outputs.{tick, position, phase, digits, no_minus}

-- ---- the whole part, and what is left over it
unfoldable pub whole_part : Float → ℕ
whole_part x = plus x / den x

unfoldable pub rest : Float → ℕ
rest x = plus x % den x

-- to the nearest whole number, a half away from zero
abbrev pub nearest : Float → ℕ
nearest z = to_unsigned 64 (whole_of away binary64 z)

-- the value's denominator is a power of two that the format holds
down_pow : (e : ℤ) → (j : ℕ) × (down e ≡ 2 ^ j)
down_pow (pos k) = (0, refl)
down_pow (negsuc k) = (suc k, refl)

pub pow_le : (i j : ℕ) → 2 ^ i ≤ 2 ^ j → i ≤ j
pow_le i j h = go (dec_le i j)
  where
    go : Dec (i ≤ j) → i ≤ j
    go (yes a) = a
    go (no a) = absurd (lt_irrefl (2 ^ j) (lt_of_lt_of_le (pow-lt (lt_of_not-le a)) h))

pub deep : (s : Bool) (m : ℕ) (e : ℤ) → T (fits binary64 (fin s m e)) → down e ≤ 2 ^ low binary64
unfolding fits
deep s zero e t = le_trans (zero_down e (eqb→eq (up e * down e) 1 t)) (lit≤ tt)
  where
    zero_down : (e : ℤ) → up e * down e ≡ 1 → down e ≤ 1
    zero_down (pos k) h = le_refl 1
    zero_down (negsuc k) h = le_of_eq (sym (one-mul (2 ^ suc k)) ∙ h)
deep s (suc m) e t =
    leb→le (down e) (2 ^ low binary64) (and_r (suc m % 2 == 1 && nat_lt (suc m) (2 ^ 53)) (nat_le (down e) (2 ^ low binary64))
    (and_l (suc m % 2 == 1 && nat_lt (suc m) (2 ^ 53) && nat_le (down e) (2 ^ low binary64)) (nat_lt (suc m * up e) (2 ^ suc (emax binary64) * down e)) t))

-- what is left over has few digits: it is below the significand, and 0 where x is whole
few : (m : ℕ) (e : ℤ) → m < 2 ^ 53 → m * up e % down e < 2 ^ 53
few m (pos k) h = le_trans (le_of_eq (ap suc (mod-one (m * 2 ^ k)))) (lit≤ tt)
few m (negsuc k) h = lt_of_le_of_lt (le_trans (mod-le (m * 1) (2 ^ suc k)) (le_of_eq (mul-one m))) h

-- ---- the difference x - p
-- sum f false a true b c with b no more than a
take_off : (f : Format) (a b c : ℕ) → b ≤ a → sum f false a true b c ≡ round f false (a - b) c
unfolding sum
take_off f a b c h = go (nat_lt a b) (ltb→lt a b)
  where
    go : (t : Bool) → (T t → a < b) → cond t (round f true (b - a) c) (round f false (a - b) c) ≡ round f false (a - b) c
    go true k = absurd (not-le_of_lt (k tt) h)
    go false k = refl

sub_opens : (f : Format) (m : ℕ) (e : ℤ) (n : ℕ) (d : ℤ) → sub f (fin false m e) (fin false n d) ≡ sum f false (m * up e * down d) true (n * up d * down e) (down e * down d)
unfolding sub
sub_opens f m e n d = refl

-- v is p, so x - v is (p * D + r) / D - p = r / D
less_whole : (f : Format) (m : ℕ) (e : ℤ) (v : Float) (p r : ℕ) → HasValue v false p 1 → m * up e ≡ p * down e + r → sub f (fin false m e) v ≡ round f false r (down e)
less_whole f m e nan p r h q = absurd h
less_whole f m e (inf s) p r h q = absurd h
less_whole f m e (fin true n d) p r h q = absurd (true≢false h.0)
less_whole f m e (fin false n d) p r h q =
    let A = m * up e * down d in
    let B = n * up d * down e in
    let b : n * up d ≡ p * down d = sym (mul-one (n * up d)) ∙ h.1 in
    let B' : B ≡ p * down d * down e = ap (λ (z : ℕ). z * down e) b in
    let A' : A ≡ p * down d * down e + r * down d = ap (λ (z : ℕ). z * down d) q ∙ regroup p (down e) r (down d) in
    let le' : B ≤ A = omega arith in
    let d' : A - B ≡ r * down d = omega arith in
    sub_opens f m e n d
    ∙ take_off f A B (down e * down d) le'
    ∙ round_same f false (A - B) (down e * down d) r (down e) (mul-pos (down_pos e) (down_pos d)) (down_pos e)
    (ap (λ (z : ℕ). z * down e) d' ∙ mul_assoc r (down d) (down e) ∙ ap (λ (z : ℕ). r * z) (mul_comm (down d) (down e)))
  where
    regroup : (p D r g : ℕ) → (p * D + r) * g ≡ p * g * D + r * g
    regroup p D r g = omega arith

pub fraction_exact : (m : ℕ) (e : ℤ) → T (fits binary64 (fin false m e)) → m * up e / down e ≤ 2 ^ 53
    → HasValue (sub binary64 (fin false m e) (of_int binary64 (pos (m * up e / down e)))) false (m * up e % down e) (down e)
unfolding of_int
fraction_exact m e t h =
    let p = m * up e / down e in
    let r = m * up e % down e in
    let j = down_pow e in
    let k : Holds binary64 r j.0 = record { small = few m e (digits false m e t); deep = pow_le j.0 (low binary64) (subst (λ (z : ℕ). z ≤ 2 ^ low binary64) j.1 (deep false m e t)) } in
    subst (λ (z : Float). HasValue z false r (down e)) (sym (less_whole binary64 m e (round binary64 false p 1) p r (round_whole binary64 false p h) (sym (div-add-mod' (m * up e) (down e)))))
    (subst (λ (z : ℕ). HasValue (round binary64 false r z) false r z) (sym j.1) (value binary64 r j.0 k))

-- ---- 32 sign-times a value
abbrev pub thirty_two : Float
thirty_two = fin false 1 (pos 5)

mul_32 : (f : Format) (y : Float) (r c : ℕ) → 0 < c → HasValue y false r c → mul f y thirty_two ≡ round f false (32 * r) c
unfolding mul
mul_32 f nan r c C h = absurd h
mul_32 f (inf s) r c C h = absurd h
mul_32 f (fin true n d) r c C h = absurd (true≢false h.0)
mul_32 f (fin false n d) r c C h =
    round_same f false (n * up d * (1 * 2 ^ 5)) (down d * 1) (32 * r) c (mul-pos {m = down d} {n = 1} (down_pos d) (lit< tt)) C
    (go (n * up d) c (down d) r h.1)
  where
    go : (a c D r : ℕ) → a * c ≡ r * D → a * (1 * 2 ^ 5) * c ≡ 32 * r * (D * 1)
    go a c D r e = omega arith

-- one value by two fractions
scaled : (x : Float) (a c b d : ℕ) → 0 < c → a * d ≡ b * c → HasValue x false a c → HasValue x false b d
scaled nan a c b d C q h = absurd h
scaled (inf s) a c b d C q h = absurd h
scaled (fin s m e) a c b d C q h = (h.0, eq_of_mul-eq-mul_right c C (m * up e * d) (b * down e) (mid (m * up e) d c a (down e) b h.1 q))
  where
    mid : (x d c a D b : ℕ) → x * c ≡ a * D → a * d ≡ b * c → x * d * c ≡ b * D * c
    mid x d c a D b p q =
        mul_assoc x d c ∙ ap (λ (z : ℕ). x * z) (mul_comm d c) ∙ sym (mul_assoc x c d) ∙ ap (λ (z : ℕ). z * d) p
        ∙ mul_assoc a D d ∙ ap (λ (z : ℕ). a * z) (mul_comm D d) ∙ sym (mul_assoc a d D) ∙ ap (λ (z : ℕ). z * D) q ∙ mul_assoc b c D ∙ ap (λ (z : ℕ). b * z) (mul_comm c D) ∙ sym (mul_assoc b D c)

-- 32 r / 2^j for r below 2^j and 2^53
small_32 : (r j : ℕ) → r < 2 ^ 53 → r < 2 ^ j → j ≤ low binary64 → HasValue (round binary64 false (32 * r) (2 ^ j)) false (32 * r) (2 ^ j)
small_32 r j h k l = go (dec_le 5 j)
  where
    less : (i : ℕ) → ¬ (5 ≤ i) → i ≤ 5
    less i n = omega arith

    thin : (r P : ℕ) → r < P → P ≤ 2 ^ 5 → 32 * r < 2 ^ 53
    thin r P h k = omega arith

    go : Dec (5 ≤ j) → HasValue (round binary64 false (32 * r) (2 ^ j)) false (32 * r) (2 ^ j)
    go (no a) = value binary64 (32 * r) j (record { small = thin r (2 ^ j) k (pow_mono (less j a)); deep = l })
    go (yes a) =
        let i = j - 5 in
        let e : 2 ^ i * 32 ≡ 2 ^ j = sym (pow-add 2 i 5) ∙ ap (λ (z : ℕ). 2 ^ z) (sub-add_cancel a) in
        let v : HasValue (round binary64 false r (2 ^ i)) false r (2 ^ i) = value binary64 r i (record { small = h; deep = omega arith }) in
        let c : r * 2 ^ j ≡ 32 * r * 2 ^ i = ap (λ (z : ℕ). r * z) (sym e) ∙ turn r (2 ^ i) in
        let s : round binary64 false r (2 ^ i) ≡ round binary64 false (32 * r) (2 ^ j) = round_same binary64 false r (2 ^ i) (32 * r) (2 ^ j) (pow_pos i) (pow_pos j) c in
        scaled (round binary64 false (32 * r) (2 ^ j)) r (2 ^ i) (32 * r) (2 ^ j) (pow_pos i) c (subst (λ (z : Float). HasValue z false r (2 ^ i)) s v)
      where
        turn : (r P : ℕ) → r * (P * 32) ≡ 32 * r * P
        turn r P = omega arith

-- a whole number that was rounded to a float, cut again
pub whole_cut : (n : ℕ) → n ≤ 2 ^ 53 → to_unsigned 64 (round binary64 false n 1) ≡ n
whole_cut n h = unfold of_int in (unsigned_back binary64 64 n (unfold in_float in le→leb n (2 ^ 53) h) (lt_of_le_of_lt h (lit< tt))).1

-- rounded half away, by any fraction
pub nearest_at : (x : Float) (a c : ℕ) → 0 < c → HasValue x false a c → (2 * a + c) / (2 * c) ≤ 2 ^ 53 → nearest x ≡ (2 * a + c) / (2 * c)
nearest_at x a c C h l =
    let e : (a * 2 + c) / (c * 2) ≡ (2 * a + c) / (2 * c) = ap (λ (n : ℕ). (n + c) / (c * 2)) (mul_comm a 2) ∙ ap (λ (n : ℕ). (2 * a + c) / n) (mul_comm c 2) in
    ap (to_unsigned 64) (whole_value away away_is binary64 x false a c C h ∙ ap (λ (n : ℕ). round binary64 false n 1) e) ∙ whole_cut ((2 * a + c) / (2 * c)) l

-- and toward minus infinity, of a value from 0 on
floor_at : (m : ℕ) (e : ℤ) → m * up e / down e ≤ 2 ^ 53 → to_unsigned 64 (whole_of downward binary64 (fin false m e)) ≡ m * up e / down e
unfolding whole_of
floor_at m e h = whole_cut (m * up e / down e) h

-- ---- together
abbrev at_phase : ℕ → ℕ → Place
at_phase position phase = cond (phase == 32) (record { position = position + 1; phase = 0 }) (record { position = position; phase = phase })

carried : (p k t : ℕ) → t ≡ 32 * p + k → k ≤ 32 → at_phase p k ≡ record { position = t / 32; phase = t % 32 }
carried p k t e l =
    ⊎_elim
    (λ h. let a : p ≡ t / 32 = omega arith in let b : k ≡ t % 32 = omega arith in ap (λ (c : Bool). cond c (record { position = p + 1; phase = 0 }) (record { position = p; phase = k })) (ne_eqb k 32 (λ z. omega arith)) ∙ (λ i. record { position = a i; phase = b i }))
    (λ h. let a : p + 1 ≡ t / 32 = omega arith in let b : 0 ≡ t % 32 = omega arith in ap (λ (c : Bool). cond c (record { position = p + 1; phase = 0 }) (record { position = p; phase = k })) (eq-eqb k 32 h) ∙ (λ i. record { position = a i; phase = b i }))
    (le_or k 32 l)

module _ (m : ℕ) (e : ℤ) (t : T (fits binary64 (fin false m e))) (h : m * up e / down e ≤ 2 ^ 53) where
  -- the code's steps: whole part, as a float, taken off, sign-times 32, rounded
  pub steps : ℕ
  steps = nearest (mul binary64 (sub binary64 (fin false m e) (of_int binary64 (pos (m * up e / down e)))) thirty_two)

  most : (2 * (32 * (m * up e % down e)) + down e) / (2 * down e) ≤ 32
  most =
      let D = down e in
      let r = m * up e % D in
      le_of_suc-le-suc ((div-lt_iff_lt-mul (mul-pos {m = 2} {n = D} (lit< tt) (down_pos e))).1 (go r D (mod-lt (m * up e) (down_pos e))))
    where
      go : (r D : ℕ) → r < D → 2 * (32 * r) + D < 33 * (2 * D)
      go r D l = omega arith

  left_over : steps ≡ (2 * (32 * (m * up e % down e)) + down e) / (2 * down e)
  unfolding steps
  left_over =
      let r = m * up e % down e in
      let y = sub binary64 (fin false m e) (of_int binary64 (pos (m * up e / down e))) in
      let j = down_pow e in
      let a : mul binary64 y thirty_two ≡ round binary64 false (32 * r) (down e) = mul_32 binary64 y r (down e) (down_pos e) (fraction_exact m e t h) in
      let b : HasValue (round binary64 false (32 * r) (2 ^ j.0)) false (32 * r) (2 ^ j.0) =
      small_32 r j.0 (few m e (digits false m e t)) (subst (λ (z : ℕ). r < z) j.1 (mod-lt (m * up e) (down_pos e))) (pow_le j.0 (low binary64) (subst (λ (z : ℕ). z ≤ 2 ^ low binary64) j.1 (deep false m e t))) in
      let c : HasValue (round binary64 false (32 * r) (down e)) false (32 * r) (down e) = subst (λ (z : ℕ). HasValue (round binary64 false (32 * r) z) false (32 * r) z) (sym j.1) b in
      ap nearest a ∙ nearest_at (round binary64 false (32 * r) (down e)) (32 * r) (down e) (down_pos e) c (le_trans most (lit≤ tt))

  pub tick_is : tick (fin false m e) ≡ 32 * (m * up e / down e) + steps
  unfolding tick
  tick_is =
      let D = down e in
      let p = m * up e / D in
      let r = m * up e % D in
      let q : 64 * (m * up e) + D ≡ 2 * (32 * r) + D + 32 * p * (2 * D) = go (m * up e) p r D (div-add-mod' (m * up e) D) in
      ap (λ (z : ℕ). z / (2 * D)) q
      ∙ add-mul-div_right (2 * (32 * r) + D) (32 * p) (mul-pos {m = 2} {n = D} (lit< tt) (down_pos e))
      ∙ ap (λ (z : ℕ). z + 32 * p) (sym left_over)
      ∙ add_comm steps (32 * p)
    where
      go : (x p r D : ℕ) → p * D + r ≡ x → 64 * x + D ≡ 2 * (32 * r) + D + 32 * p * (2 * D)
      go x p r D e = omega arith

  at_most_32 : steps ≤ 32
  at_most_32 = le_trans (le_of_eq left_over) most

  -- the Rust's steps give the place of the tick: phase 32 becomes 0 at the next position
  pub placed_up : placed_of (fin false m e) ≡ record { position = position (fin false m e); phase = phase (fin false m e) }
  unfolding placed_of of_bits position phase steps
  placed_up =
      let x = fin false m e in
      let p = m * up e / down e in
      let k = tick_is in
      let l = at_most_32 in
      let f = floor_at m e h in
      ap (λ (n : ℕ). at_phase n (nearest (mul binary64 (sub binary64 x (of_int binary64 (pos n))) thirty_two))) f
      ∙ carried p steps (tick x) k l

-- ---- for every next output: -0 too
two_up : (p : ℕ) → 0 < p → 2 * p ≢ 1
two_up p h e = omega arith

zero_whole : (e : ℤ) → up e * down e ≡ 1 → e ≡ pos 0
zero_whole (pos zero) h = refl
zero_whole (pos (suc k)) h = absurd (two_up (2 ^ k) (pow_pos k) (sym (pow-succ' 2 k) ∙ sym (mul-one (2 ^ suc k)) ∙ h))
zero_whole (negsuc k) h = absurd (two_up (2 ^ k) (pow_pos k) (sym (pow-succ' 2 k) ∙ sym (one-mul (2 ^ suc k)) ∙ h))

pub minus_zero : (m : ℕ) (e : ℤ) → T (fits binary64 (fin true m e)) → m * up e ≡ 0 → fin true m e ≡ fin true 0 (pos 0)
unfolding fits
minus_zero zero e t h = ap (fin true 0) (zero_whole e (eqb→eq (up e * down e) 1 t))
minus_zero (suc m) e t h = absurd (lt_irrefl 0 (subst (λ (n : ℕ). 0 < n) h (mul-pos (zero-lt-suc m) (up_pos e))))

at_zero : placed_of (fin true 0 (pos 0)) ≡ record { position = position (fin true 0 (pos 0)); phase = phase (fin true 0 (pos 0)) }
unfolding placed_of position phase whole_of sub mul of_int of_bits to_unsigned
at_zero = refl

pub whole_most : (a D : ℕ) → 0 < D → a ≤ 2 ^ 53 * D → a / D ≤ 2 ^ 53
whole_most a D P h = div-le_of_le-mul D (le_trans h (le_of_eq (mul_comm (2 ^ 53) D)))

pub placed_is : (x : Float) → In f0 far x → T (fits binary64 x) → placed_of x ≡ record { position = position x; phase = phase x }
placed_is nan i t = absurd (in_finite f0 far nan tt tt i)
placed_is (inf s) i t = absurd (in_finite f0 far (inf s) tt tt i)
placed_is (fin false m e) i t =
    let h = le→ (fin false m e) far tt tt i.upper in
    placed_up m e t (whole_most (m * up e) (down e) (down_pos e) (omega arith))
placed_is (fin true m e) i t =
    let z = minus_zero m e t (no_minus (fin true m e) tt i.lower) in
    subst (λ (x : Float). placed_of x ≡ record { position = position x; phase = phase x }) (sym z) at_zero
