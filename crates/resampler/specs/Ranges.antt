-- Every rate that setup admits gives d in 1 to 78, 9,600 to 384,000 values a second after decimation, c in 14 to 576 and a step in 0.5 to 20: the bound 8 never acts, and the cutoff is 4,200.
-- Assumes nothing.
use Rattle.std.specs.Prelude.{◌≡◌, ℕ, zero, suc, ◌+◌, ◌-◌, ◌*◌, ◌/◌, ◌%◌, ◌^◌, ◌<◌, ◌≤◌, max, Bool, true, false, cond, T, ℤ, pos, ◌==◌, refl, Float}
use Rattle.std.proofs.Math.Path.{sym, ap, subst}
use Rattle.std.proofs.Common.{◌∙◌, true≢false, le_of_eq, lt_of_le_of_lt, mul-one, mul_comm, mul_right_comm, mul_left_comm, le_of_mul-le-mul_right, le_of_lt, le_of_suc-le-suc, div-lt_iff_lt-mul, zero-lt-suc, zero-mul, add-mul, lt_irrefl, pow_pos}
use Rattle.std.proofs.Math.Logic.{⊎_elim}
use Rattle.std.proofs.Math.Nat.{le_trans, mul_assoc, mul-pos, mul-le-mul_right, lt_of_mul-lt-mul_right, div-add-mod', div-mul-le_self, mod-lt}
use native.Mathlib.Omega.{arith}
use Rattle.std.proofs.Math.Dec.{lit<, lit≤, eqb-suc-zero}
use Rattle.std.specs.Float.Ieee.{nan, binary64, up, down, round, mul, div, of_int, of_bits, le, lt, is_nan, fits}
use Rattle.std.specs.Float.{inf, fin}
use Rattle.std.specs.Float.Ieee.Fits.{up_pos, down_pos}
use Rattle.std.specs.Float.Ieee.Bits.{is_true}
use Rattle.std.specs.Float.Ieee.Exact.{HasValue}
use Rattle.std.specs.Float.Ieee.Back.{round_whole}
use Rattle.std.specs.Float.Ieee.Nearest.{div_mono}
use Rattle.std.specs.Float.Ieee.Order.{round_mono}
use Rattle.std.specs.Float.Ieee.Scale.{finite, round_same}
use Rattle.std.specs.Float.Ieee.Positive.{num, den, den_pos, value→cross}
use Rattle.laws.specs.Ring.{lt_or_ge}
use Rattle.laws.specs.FloatOrder.{nonneg, own, le→, le→cross}
use Rattle.laws.specs.FloatRounding.{signed, round_signed}
use Rattle.laws.specs.FloatFractions.{Holds, value}
use Rattle.laws.specs.FloatProducts.{mul_in}
use Rattle.laws.specs.FloatQuotients.{div_in}
use Rattle.laws.specs.FloatSizes.{round_small}
use Rattle.laws.specs.FloatValues.{round_least, round_most}
use Rattle.laws.specs.FloatSums.{In, in_finite, in_wider}
use Rattle.resampler.specs.declared.dimensions.Dimensions.{Dimensions}
use Rattle.resampler.specs.Dimensions.{nearest_of, decimation_of, decimated_of, arm_length_of, sized_of, fresh_of}
use Rattle.numbers.specs.Numbers.{sign_of, min_of}
use Rattle.whole.specs.Whole.{whole_of, away}
use Rattle.resampler.specs.Outputs.{no_minus}
use Rattle.resampler.specs.Ticks.{nearest_at, minus_zero}
use Rattle.resampler.specs.Scaled.{→lt}
use Rattle.resampler.specs.AdmittedLaws.{whole_le, whole_from_zero}
use Rattle.resampler.specs.Admitted.{f0, half, twenty, AdmittedRate, Countable, Sized, Admitted}

-- ---- a rounded fraction and a value that the format holds
plain_nonneg : (y : Float) → T (signed false y) → T (finite y) → T (nonneg y)
plain_nonneg nan s F = absurd F
plain_nonneg (inf t) s F = absurd F
plain_nonneg (fin true m e) s F = absurd s
plain_nonneg (fin false m e) s F = tt

value_nonneg : (x : Float) (a c : ℕ) → HasValue x false a c → T (nonneg x)
value_nonneg nan a c v = absurd v
value_nonneg (inf t) a c v = absurd v
value_nonneg (fin true m e) a c v = absurd (true≢false v.0)
value_nonneg (fin false m e) a c v = tt

-- a fraction n / d, rounded
module _ (n d : ℕ) (D : 0 < d) (F : T (finite (round binary64 false n d))) where
  y : Float
  y = round binary64 false n d

  y_nonneg : T (nonneg (round binary64 false n d))
  y_nonneg = plain_nonneg (round binary64 false n d) (round_signed false binary64 n d) F

  pub reaches : (q j : ℕ) → Holds binary64 q j → q * d ≤ n * 2 ^ j → q * den (round binary64 false n d) ≤ num (round binary64 false n d) * 2 ^ j
  reaches q j h l =
      let v = round binary64 false q (2 ^ j) in
      let w = value binary64 q j h in
      cancel (num v) (den v) q (2 ^ j) (num (round binary64 false n d)) (den (round binary64 false n d)) (den_pos v) (value→cross v q (2 ^ j) w)
      (le→cross v (round binary64 false n d) (value_nonneg v q (2 ^ j) w) y_nonneg (round_mono binary64 q (2 ^ j) n d (pow_pos j) D l))
    where
      cancel : (a b q p m e : ℕ) → 0 < b → a * p ≡ q * b → a * e ≤ m * b → q * e ≤ m * p
      cancel a b q p m e B v l =
          le_of_mul-le-mul_right {k = b}
          (le_trans (le_of_eq (mul_right_comm q e b ∙ ap (λ (z : ℕ). z * e) (sym v) ∙ mul_right_comm a p e)) (le_trans (mul-le-mul_right p l) (le_of_eq (mul_right_comm m b p)))) B

  pub stays : (q j : ℕ) → Holds binary64 q j → n * 2 ^ j ≤ q * d → num (round binary64 false n d) * 2 ^ j ≤ q * den (round binary64 false n d)
  stays q j h l =
      let v = round binary64 false q (2 ^ j) in
      let w = value binary64 q j h in
      cancel (num v) (den v) q (2 ^ j) (num (round binary64 false n d)) (den (round binary64 false n d)) (den_pos v) (value→cross v q (2 ^ j) w)
      (le→cross (round binary64 false n d) v y_nonneg (value_nonneg v q (2 ^ j) w) (round_mono binary64 n d q (2 ^ j) D (pow_pos j) l))
    where
      cancel : (a b q p m e : ℕ) → 0 < b → a * p ≡ q * b → m * b ≤ a * e → m * p ≤ q * e
      cancel a b q p m e B v l =
          le_of_mul-le-mul_right {k = b}
          (le_trans (le_of_eq (mul_right_comm m p b)) (le_trans (mul-le-mul_right p l) (le_of_eq (mul_right_comm a e p ∙ ap (λ (z : ℕ). z * e) v ∙ mul_right_comm q b e)))) B

-- ---- a quotient by the values of its terms
divided : (x y : Float) (a c b d : ℕ) → 0 < c → 0 < d → 0 < b → HasValue x false a c → HasValue y false b d → div binary64 x y ≡ round binary64 false (a * d) (b * c)
unfolding div
divided nan y a c b d C D B v w = absurd v
divided (inf s) y a c b d C D B v w = absurd v
divided (fin true m e) y a c b d C D B v w = absurd (true≢false v.0)
divided (fin false m e) nan a c b d C D B v w = absurd w
divided (fin false m e) (inf t) a c b d C D B v w = absurd w
divided (fin false m e) (fin true n g) a c b d C D B v w = absurd (true≢false w.0)
divided (fin false m e) (fin false zero g) a c b d C D B v w =
    absurd (lt_irrefl 0 (subst (λ (k : ℕ). 0 < k) (sym w.1 ∙ ap (λ (k : ℕ). k * d) (zero-mul (up g)) ∙ zero-mul d) (mul-pos B (down_pos g))))
divided (fin false m e) (fin false (suc n) g) a c b d C D B v w =
    ap (λ (t : Bool). cond t (cond (m == 0) nan (inf false)) (round binary64 false (m * up e * down g) (suc n * up g * down e))) (eqb-suc-zero n)
    ∙ round_same binary64 false (m * up e * down g) (suc n * up g * down e) (a * d) (b * c) (mul-pos (mul-pos (zero-lt-suc n) (up_pos g)) (down_pos e)) (mul-pos B C)
    (cross (m * up e) (down e) (suc n * up g) (down g) a c b d v.1 w.1)
  where
    cross : (X E N G a c b d : ℕ) → X * c ≡ a * E → N * d ≡ b * G → X * G * (b * c) ≡ a * d * (N * E)
    cross X E N G a c b d p q =
        (let l : X * G * (b * c) ≡ X * c * (b * G) = simp (mul_assoc, mul_comm, mul_left_comm) in l)
        ∙ ap (λ (k : ℕ). k * (b * G)) p
        ∙ ap (λ (k : ℕ). a * E * k) (sym q)
        ∙ (let r : a * E * (N * d) ≡ a * d * (N * E) = simp (mul_assoc, mul_comm, mul_left_comm) in r)

-- ---- the decimation
lowest : Float
lowest = fin false 75 (pos 7)

highest : Float
highest = fin false 78125 (pos 8)

-- the whole number nearest to a rounded fraction, by its two sides
module _ (n d : ℕ) (D : 0 < d) (F : T (finite (round binary64 false n d))) where
  N : ℕ
  N = num (round binary64 false n d)

  E : ℕ
  E = den (round binary64 false n d)

  near : ℕ
  near = (2 * N + E) / (2 * E)

  near_is : near ≤ 2 ^ 53 → nearest_of (round binary64 false n d) ≡ near
  unfolding near N E
  near_is h = nearest_at (round binary64 false n d) N E (den_pos (round binary64 false n d)) (own (round binary64 false n d) (y_nonneg n d D F)) h

  not_more : near * (2 * E) ≤ 2 * N + E
  unfolding near
  not_more = div-mul-le_self (2 * N + E) (2 * E)

  not_less : 2 * N + E < near * (2 * E) + 2 * E
  unfolding near E
  not_less =
      let a = 2 * N + E in
      let l : a % (2 * E) < 2 * E = mod-lt a (mul-pos {m = 2} (lit< tt) (den_pos (round binary64 false n d))) in
      let e : a / (2 * E) * (2 * E) + a % (2 * E) ≡ a = div-add-mod' a (2 * E) in
      omega arith

  -- half a unit above it the fraction is not yet
  under_next : near < 2 ^ 51 → 2 * n < (2 * near + 1) * d
  unfolding N E
  under_next h =
      ⊎_elim (λ l. l)
      (λ l.
      let r = reaches n d D F (2 * near + 1) 1 (record { small = omega arith; deep = lit≤ tt }) (let g : (2 * near + 1) * d ≤ n * 2 = omega arith in g) in
      let s = not_less in
      absurd (omega arith))
      (lt_or_ge (2 * n) ((2 * near + 1) * d))

  -- and it is not far below half a unit under it
  over_last : 1 ≤ near → near < 2 ^ 42 → (1024 * near - 513) * d < 1024 * n
  unfolding N E
  over_last l h =
      ⊎_elim (λ g. g)
      (λ g.
      let r = stays n d D F (1024 * near - 513) 10 (record { small = omega arith; deep = lit≤ tt }) (let k : n * 1024 ≤ (1024 * near - 513) * d = omega arith in k) in
      let s = not_more in
      let p = den_pos (round binary64 false n d) in
      let z : (1024 * near - 513) * E + 513 * E ≡ 1024 * (near * E) =
      sym (add-mul (1024 * near - 513) 513 E) ∙ ap (λ (k : ℕ). k * E) (let k : 1024 * near - 513 + 513 ≡ 1024 * near = omega arith in k) ∙ mul_assoc 1024 near E in
      absurd (omega arith))
      (lt_or_ge ((1024 * near - 513) * d) (1024 * n))

-- ---- a rate that setup admits
module _ (rate : Float) (a : AdmittedRate rate) where
  in_rate : In lowest highest rate
  unfolding of_bits lowest highest
  in_rate = a.range

  rate_finite : T (finite rate)
  unfolding lowest highest
  rate_finite = in_finite lowest highest rate tt tt in_rate

  P : ℕ
  P = num rate

  D : ℕ
  D = den rate

  D_pos : 0 < D
  unfolding D
  D_pos = den_pos rate

  rate_nonneg : T (nonneg rate)
  unfolding lowest
  rate_nonneg = go rate rate_finite in_rate.lower
    where
      go : (x : Float) → T (finite x) → T (le (fin false 75 (pos 7)) x) → T (nonneg x)
      go nan F l = absurd F
      go (inf s) F l = absurd F
      go (fin false m e) F l = tt
      go (fin true m e) F l = let h = le→ (fin false 75 (pos 7)) (fin true m e) tt tt l in let d = down_pos e in absurd (omega arith)

  at_lowest : 9600 * D ≤ P
  unfolding lowest P D
  at_lowest = let l = le→cross lowest rate tt rate_nonneg in_rate.lower in omega arith

  at_highest : P ≤ 20000000 * D
  unfolding highest P D
  at_highest = let l = le→cross rate highest rate_nonneg tt in_rate.upper in omega arith

  -- the rate over 256000
  quotient : div binary64 rate (of_bits binary64 0x410f_4000_0000_0000) ≡ round binary64 false P (256000 * D)
  unfolding of_bits P D
  quotient =
      divided rate (fin false 125 (pos 11)) (num rate) (den rate) 256000 1 (den_pos rate) (lit< tt) (lit< tt) (own rate rate_nonneg) (refl, refl)
      ∙ ap (λ (k : ℕ). round binary64 false k (256000 * den rate)) (mul-one (num rate))

  divisor : 0 < 256000 * D
  divisor = let d = D_pos in omega arith

  quotient_finite : T (finite (round binary64 false P (256000 * D)))
  unfolding fits
  quotient_finite = (round_small binary64 false P (256000 * D) 7 divisor tt (let h = at_highest in omega arith)).is_finite

  -- the whole number nearest to it
  n : ℕ
  n = near P (256000 * D) divisor quotient_finite

  n_most : n ≤ 78
  unfolding n N E
  n_most =
      let s = stays P (256000 * D) divisor quotient_finite 625 3 (record { small = lit< tt; deep = lit≤ tt }) (let h = at_highest in omega arith) in
      let l = not_more P (256000 * D) divisor quotient_finite in
      let e = den_pos (round binary64 false P (256000 * D)) in
      let k : n * 16 * den (round binary64 false P (256000 * D)) < 1264 * den (round binary64 false P (256000 * D)) = omega arith in
      let r : n * 16 < 1264 = lt_of_mul-lt-mul_right (den (round binary64 false P (256000 * D))) k in
      omega arith

  decimation_is : decimation_of rate ≡ max n 1
  unfolding decimation_of n
  decimation_is = ap (λ (k : ℕ). max k 1) (ap nearest_of quotient ∙ near_is P (256000 * D) divisor quotient_finite (le_trans n_most (lit≤ tt)))

  pub decimation_low : 1 ≤ decimation_of rate
  decimation_low = let e = decimation_is in omega arith

  pub decimation_high : decimation_of rate ≤ 78
  decimation_high = let e = decimation_is in let h = n_most in omega arith

  -- the rate over the decimation d
  d : ℕ
  d = decimation_of rate

  decimated_is : decimated_of rate ≡ round binary64 false P (d * D)
  unfolding decimated_of of_int P D d
  decimated_is =
      divided rate (round binary64 false (decimation_of rate) 1) (num rate) (den rate) (decimation_of rate) 1 (den_pos rate) (lit< tt) decimation_low (own rate rate_nonneg) (round_whole binary64 false (decimation_of rate) (le_trans decimation_high (lit≤ tt)))
      ∙ ap (λ (k : ℕ). round binary64 false k (decimation_of rate * den rate)) (mul-one (num rate))

  -- at least 9600 and at most 384000 for each unit of d
  least : 9600 * (d * D) ≤ P
  unfolding d n
  least =
      let e = decimation_is in
      ⊎_elim
      (λ l.
      let o = over_last P (256000 * D) divisor quotient_finite (omega arith) (let h = n_most in omega arith) in
      let b = at_lowest in
      let z : (1024 * n - 513) * (256000 * D) + 513 * (256000 * D) ≡ 1024 * n * (256000 * D) = sym (add-mul (1024 * n - 513) 513 (256000 * D)) ∙ ap (λ (k : ℕ). k * (256000 * D)) (let k : 1024 * n - 513 + 513 ≡ 1024 * n = omega arith in k) in
      let f : decimation_of rate ≡ n = omega arith in
      let m : 2 * D ≤ n * D = mul-le-mul_right D l in
      subst (λ (k : ℕ). 9600 * (k * D) ≤ P) (sym f) (omega arith))
      (λ l. let f : decimation_of rate ≡ 1 = omega arith in subst (λ (k : ℕ). 9600 * (k * D) ≤ P) (sym f) (let b = at_lowest in omega arith))
      (lt_or_ge 1 n)

  most : P ≤ 384000 * (d * D)
  unfolding d n
  most =
      let e = decimation_is in
      let u = under_next P (256000 * D) divisor quotient_finite (let h = n_most in omega arith) in
      ⊎_elim
      (λ l.
      let f : decimation_of rate ≡ n = omega arith in
      let m : 2 * D ≤ n * D = mul-le-mul_right D l in
      subst (λ (k : ℕ). P ≤ 384000 * (k * D)) (sym f) (omega arith))
      (λ l.
      let f : decimation_of rate ≡ 1 = omega arith in
      let m : n * D ≤ 1 * D = mul-le-mul_right D l in
      subst (λ (k : ℕ). P ≤ 384000 * (k * D)) (sym f) (omega arith))
      (lt_or_ge 1 n)

  -- the rate after decimation
  pub decimated_in : In (fin false 75 (pos 7)) (fin false 375 (pos 10)) (decimated_of rate)
  unfolding d fits
  decimated_in =
      let b : 0 < d * D = mul-pos decimation_low D_pos in
      subst (λ (z : Float). In (fin false 75 (pos 7)) (fin false 375 (pos 10)) z) (sym decimated_is) (record {
        lower = round_least binary64 P (d * D) (fin false 75 (pos 7)) b tt tt (let h = least in omega arith);
        upper = round_most binary64 P (d * D) (fin false 375 (pos 10)) b tt tt (let h = most in omega arith);
      })

-- ---- the arm length, by a factor and a rounding that both keep the order
abbrev half_up : Float → ℕ
half_up x = (2 * num x + den x) / (2 * den x)

half_up_mono : (x y : Float) → T (nonneg x) → T (nonneg y) → T (le x y) → half_up x ≤ half_up y
half_up_mono x y X Y h =
    div_mono (2 * num x + den x) (2 * den x) (2 * num y + den y) (2 * den y) (mul-pos {m = 2} (lit< tt) (den_pos x)) (mul-pos {m = 2} (lit< tt) (den_pos y))
    (cross (num x) (den x) (num y) (den y) (le→cross x y X Y h))
  where
    cross : (a b c d : ℕ) → a * d ≤ c * b → (2 * a + b) * (2 * d) ≤ (2 * c + d) * (2 * b)
    cross a b c d h = omega arith

nonneg_above : (m : ℕ) (e : ℤ) (x : Float) → 0 < m * up e → T (finite x) → T (le (fin false m e) x) → T (nonneg x)
nonneg_above m e nan p F l = absurd F
nonneg_above m e (inf s) p F l = absurd F
nonneg_above m e (fin false n g) p F l = tt
nonneg_above m e (fin true n g) p F l =
    let h = le→ (fin false m e) (fin true n g) tt tt l in
    let q = mul-pos p (down_pos g) in
    absurd (omega arith)

-- 0.0015
factor : Float
factor = of_bits binary64 0x3f58_9374_bc6a_7efa

-- 14.4 and 576, each as it comes out
fewest : Float
fewest = mul binary64 factor (fin false 75 (pos 7))

longest : Float
longest = mul binary64 factor (fin false 375 (pos 10))

module _ (x : Float) (i : In (fin false 75 (pos 7)) (fin false 375 (pos 10)) x) where
  product_in : In fewest longest (mul binary64 factor x)
  unfolding factor of_bits fewest longest
  product_in = mul_in binary64 factor (fin false 75 (pos 7)) (fin false 375 (pos 10)) tt tt i

  product_finite : T (finite (mul binary64 factor x))
  unfolding factor of_bits fewest longest mul
  product_finite = in_finite fewest longest (mul binary64 factor x) tt tt product_in

  product_nonneg : T (nonneg (mul binary64 factor x))
  unfolding factor of_bits fewest mul
  product_nonneg = nonneg_above _ _ (mul binary64 factor x) (lit< tt) product_finite product_in.lower

  half_up_low : 14 ≤ half_up (mul binary64 factor x)
  unfolding factor of_bits fewest mul
  half_up_low = let l : 14 ≤ half_up fewest = lit≤ tt in le_trans l (half_up_mono fewest (mul binary64 factor x) tt product_nonneg product_in.lower)

  half_up_high : half_up (mul binary64 factor x) ≤ 576
  unfolding factor of_bits longest mul
  half_up_high = let l : half_up longest ≤ 576 = lit≤ tt in le_trans (half_up_mono (mul binary64 factor x) longest product_nonneg tt product_in.upper) l

  arm_near : arm_length_of x ≡ max (half_up (mul binary64 factor x)) 8
  unfolding arm_length_of factor
  arm_near =
      let y = mul binary64 factor x in
      ap (λ (k : ℕ). max k 8) (nearest_at y (num y) (den y) (den_pos y) (own y product_nonneg) (le_trans half_up_high (lit≤ tt)))

  pub arm_low : 14 ≤ arm_length_of x
  arm_low = let e = arm_near in let h = half_up_low in omega arith

  pub arm_high : arm_length_of x ≤ 576
  arm_high = let e = arm_near in let h = half_up_high in omega arith

  pub step_in : In half twenty (div binary64 x (of_bits binary64 0x40d2_c000_0000_0000))
  unfolding of_bits div
  step_in = div_in binary64 (fin false 75 (pos 7)) (fin false 375 (pos 10)) (fin false 75 (pos 8)) tt tt i

-- ---- what the code's roundings ask
whole_lt : (y : Float) (n : ℕ) → n < 2 ^ 53 → HasValue y false n 1 → T (lt (fin true 1 (pos 0)) y) × T (lt y (fin false 1 (pos 64)))
whole_lt nan n h v = absurd v
whole_lt (inf s) n h v = absurd v
whole_lt (fin true m e) n h v = absurd (true≢false v.0)
whole_lt (fin false m e) n h v =
    let d = down_pos e in
    let l : n * down e ≤ 2 ^ 53 * down e = mul-le-mul_right (down e) (le_of_lt h) in
    let w = v.1 in
    (→lt (fin true 1 (pos 0)) (fin false m e) tt tt (omega arith), →lt (fin false m e) (fin false 1 (pos 64)) tt tt (omega arith))

pub whole_asks : (x : Float) → T (fits binary64 x) → Countable x → T (lt (fin true 1 (pos 0)) (whole_of away binary64 x)) × T (lt (whole_of away binary64 x) (fin false 1 (pos 64)))
unfolding whole_of
whole_asks nan F k = absurd (in_finite f0 (fin false 1 (pos 10)) nan tt tt k.range)
whole_asks (inf s) F k = absurd (in_finite f0 (fin false 1 (pos 10)) (inf s) tt tt k.range)
whole_asks (fin false m e) F k =
    let h = le→cross (fin false m e) (fin false 1 (pos 10)) tt tt k.range.upper in
    let n = (m * up e * 2 + down e) / (down e * 2) in
    let d = down_pos e in
    let b : n ≤ 1024 = le_of_suc-le-suc ((div-lt_iff_lt-mul (mul-pos (down_pos e) (lit< tt))).1 (let g : m * up e * 2 + down e < 1025 * (down e * 2) = omega arith in g)) in
    whole_lt (round binary64 false n 1) n (lt_of_le_of_lt b (lit< tt)) (round_whole binary64 false n (le_trans b (lit≤ tt)))
whole_asks (fin true m e) F k =
    let z = minus_zero m e F (no_minus (fin true m e) tt k.range.lower) in
    subst (λ (x : Float). T (lt (fin true 1 (pos 0)) (whole_of away binary64 x)) × T (lt (whole_of away binary64 x) (fin false 1 (pos 64)))) (sym z) (unfold whole_of round lt in (tt, tt))

-- ---- the code's numbers are the definition's
module _ (rate : Float) (n d : ℕ) (f : Float)
    (ne : n ≡ nearest_of (div binary64 rate (of_bits binary64 0x410f_4000_0000_0000))) (de : d ≡ max n 1) (fe : f ≡ of_int binary64 (pos d)) where
  pub decimated_code : div binary64 rate f ≡ decimated_of rate
  unfolding decimated_of decimation_of
  decimated_code = ap (λ (z : Float). div binary64 rate z) (fe ∙ ap (λ (k : ℕ). of_int binary64 (pos k)) (de ∙ ap (λ (k : ℕ). max k 1) ne))

  pub sized_code : (m c : ℕ) → m ≡ nearest_of (mul binary64 (of_bits binary64 0x3f58_9374_bc6a_7efa) (div binary64 rate f)) → c ≡ max m 8
      → ◌≡◌ {A = Dimensions} (record { decimation = d; arm = c; rate = div binary64 rate f }) (sized_of rate)
  unfolding sized_of decimation_of arm_length_of
  sized_code m c me ce =
      let e = decimated_code in
      let de' : d ≡ decimation_of rate = de ∙ ap (λ (k : ℕ). max k 1) ne in
      let ce' : c ≡ arm_length_of (decimated_of rate) = ce ∙ ap (λ (k : ℕ). max k 8) me ∙ ap arm_length_of e in
      λ i. record { decimation = de' i; arm = ce' i; rate = e i }

-- ---- THE THEOREM: what every admitted rate gives
pub sized_in : (rate : Float) → AdmittedRate rate → Sized (sized_of rate)
unfolding sized_of
sized_in rate a = record {
  decimation_low = decimation_low rate a;
  decimation_high = decimation_high rate a;
  arm_low = arm_low (decimated_of rate) (decimated_in rate a);
  arm_high = arm_high (decimated_of rate) (decimated_in rate a);
  rate_in = decimated_in rate a;
}

-- a fresh resampler of such dimensions may be run
pub fresh_admitted : (s : Dimensions) → Sized s → Admitted (fresh_of s)
unfolding fresh_of
fresh_admitted s k =
    let h = s.arm / 2 in
    let l = k.arm_high in
    let m = k.arm_low in
    record {
      arm_low = k.arm_low;
      arm_high = k.arm_high;
      half_is = refl;
      write_in = omega arith;
      index_in = omega arith;
      step_in = step_in s.rate k.rate_in;
      next_in = record { lower = whole_from_zero h (omega arith); upper = whole_le h 600 (omega arith) (lit≤ tt) };
      idle = omega arith;
    }

-- ---- the cutoff is the smaller of 4200 and 0.45 of the rate up to 19200: always 4200
unfoldable pub cutoff_of : Float → Float
cutoff_of x = min_of (fin false 525 (pos 3)) (mul binary64 (of_bits binary64 0x3fdc_cccc_cccc_cccd) (min_of x (fin false 75 (pos 8))))

min_in : (a b x y : Float) → In a b x → In a b y → In a b (min_of x y)
unfolding min_of
min_in a b x y i j = go (is_nan x) (is_nan y) (lt x y) (lt y x) (sign_of x)
  where
    go : (p q r s t : Bool) → In a b (cond p y (cond q x (cond r x (cond s y (cond t x y)))))
    go true q r s t = j
    go false true r s t = i
    go false false true s t = i
    go false false false true t = j
    go false false false false true = i
    go false false false false false = j

no_nan : (x : Float) → T (finite x) → is_nan x ≡ false
unfolding is_nan
no_nan nan F = absurd F
no_nan (inf s) F = absurd F
no_nan (fin s m e) F = refl

small_cutoff : (y : Float) → In (fin false 135 (pos 5)) (fin false 675 (pos 8)) y → min_of (fin false 525 (pos 3)) y ≡ fin false 525 (pos 3)
unfolding min_of is_nan
small_cutoff y k =
    let F = in_finite (fin false 135 (pos 5)) (fin false 675 (pos 8)) y tt tt k in
    let h = le→ (fin false 135 (pos 5)) y tt F k.lower in
    let d = den_pos y in
    let l : T (lt (fin false 525 (pos 3)) y) = →lt (fin false 525 (pos 3)) y tt F (omega arith) in
    rw (no_nan y F, is_true (lt (fin false 525 (pos 3)) y) l)

pub cutoff_is : (x : Float) → In (fin false 75 (pos 7)) (fin false 375 (pos 10)) x → cutoff_of x ≡ fin false 525 (pos 3)
unfolding cutoff_of
cutoff_is x i =
    let share = of_bits binary64 0x3fdc_cccc_cccc_cccd in
    let m = min_of x (fin false 75 (pos 8)) in
    let j : In (fin false 75 (pos 7)) (fin false 375 (pos 10)) m = min_in (fin false 75 (pos 7)) (fin false 375 (pos 10)) x (fin false 75 (pos 8)) i (record { lower = unfold le in tt; upper = unfold le in tt }) in
    let k : In (fin false 135 (pos 5)) (fin false 675 (pos 8)) (mul binary64 share m) = unfold of_bits mul in mul_in binary64 share (fin false 75 (pos 7)) (fin false 375 (pos 10)) tt tt j in
    small_cutoff (mul binary64 share m) k

-- ---- the code's steps
pub quotient_countable : (rate : Float) → AdmittedRate rate → Countable (div binary64 rate (of_bits binary64 0x410f_4000_0000_0000))
unfolding of_bits div le
quotient_countable rate a = record {
  range = in_wider (div binary64 (fin false 75 (pos 7)) (fin false 125 (pos 11))) (div binary64 (fin false 78125 (pos 8)) (fin false 125 (pos 11))) f0 (fin false 1 (pos 10)) tt tt tt tt
      (div_in binary64 (fin false 75 (pos 7)) (fin false 78125 (pos 8)) (fin false 125 (pos 11)) tt tt a.range);
}

pub product_countable : (x : Float) → In (fin false 75 (pos 7)) (fin false 375 (pos 10)) x → Countable (mul binary64 (of_bits binary64 0x3f58_9374_bc6a_7efa) x)
unfolding factor fewest longest of_bits mul le
product_countable x i = record { range = in_wider fewest longest f0 (fin false 1 (pos 10)) tt tt tt tt (product_in x i) }
