-- The quantiser without a branch. A part below 512 in size times 32768 + 2 ^ -11 is exact, lies on its side of every half, and is brought to the nearest whole number
-- by adding 3 * 2 ^ 51 and taking it off again: the factor is larger than 32768 by so little that it moves a tie, and nothing else, to the other side of its half.
-- From 512 on a part times 32768 is whole. Assumes nothing.
use Rattle.std.specs.Prelude.{◌≡◌, ℕ, zero, suc, ◌+◌, ◌-◌, ◌*◌, ◌/◌, ◌%◌, ◌^◌, ◌<◌, ◌≤◌, Bool, true, false, cond, not, ◌&&◌, T, ltb, ℤ, pos, negsuc, neg_ℤ, nat_eq, nat_le, nat_lt, Float}
use Rattle.std.proofs.Math.Path.{refl, sym, ap, subst}
use Rattle.std.proofs.Common.{◌∙◌, mul_assoc, mul_right_comm, mul-pos, mul-one, zero-mul, add-mul, le_of_mul-le-mul_right, mul-lt-mul_of_pos_right, eq-zero-or-pos, lt_of_lt_of_le, le_trans, le_of_eq, lt_of_le_of_lt, add-le-add, le_refl, lt_irrefl, add_comm, ltb→lt, leb→le, eqb→eq, lt→ltb, le→leb, lit<, lit≤, pow_mono, lt-ltb, le-ltb, ltb-true, ltb-false}
use Rattle.std.proofs.Math.Logic.{⊎_elim}
use Rattle.std.proofs.Math.Nat.{mul_comm, mul-sub, eq_of_mul-eq-mul_right, lt_of_mul-lt-mul_right, mul-le-mul_right, div-add-mod', div-mul-le_self, mod-lt}
use native.Mathlib.Omega.{arith}
use Rattle.std.specs.Bool.{beq}
use Rattle.std.proofs.Math.Bool.{false≢true}
use Rattle.std.proofs.Math.Pow.{pow-add, pow_pos, pow-lt}
use Rattle.std.specs.Float.{nan, inf, fin, Format, binary32}
use Rattle.std.specs.Float.Ieee.{binary64, prec, emax, low, up, down, units, round, sum, add, sub, mul, neg, lt, of_int, to_signed, in_float, in_signed, of_bits, fits, is_nan}
use Rattle.std.specs.Float.Ieee.Fits.{up_pos, down_pos, reach, and_i, and_l, and_r, fits_widens, mul-fits}
use Rattle.std.specs.Float.Ieee.Exact.{HasValue, units_val, round_exact}
use Rattle.std.specs.Float.Ieee.Back.{positive_back, negative_back}
use Rattle.std.specs.Float.Ieee.Nearest.{closest}
use Rattle.std.specs.Float.Ieee.Scale.{round_same}
use Rattle.laws.specs.FloatFractions.{Holds, value}
use Rattle.laws.specs.FloatPack.{shifted}
use Rattle.laws.specs.FloatRounding.{round_neg, round_zero}
use Rattle.laws.specs.FloatValues.{round_id}
use Rattle.laws.specs.Ring.{lt_or_ge}
use Rattle.whole.specs.Whole.{whole_of, away}
use Rattle.patterns.specs.Shift.{near_lt, near_gt}
use Rattle.whole.proofs.ToWhole.{away_is, whole_value}
use Rattle.decimator.specs.Decimator.{quantised_of}
use Rattle.decimator.specs.Quantiser.{within}

-- ---- a sum by the values of its terms
module _ (c W : ℕ) (C : 0 < c) (W₀ : 0 < W) (U R a b : ℕ) (p : U * c ≡ a * W) (q : R * c ≡ b * W) where
  less_same : ltb U R ≡ nat_lt a b
  less_same =
      ⊎_elim
      (λ l. lt-ltb U R l ∙ sym (lt-ltb a b (lt_of_mul-lt-mul_right W (subst (λ (x : ℕ). x < b * W) p (subst (λ (x : ℕ). U * c < x) q (mul-lt-mul_of_pos_right l C))))))
      (λ l. le-ltb U R l ∙ sym (le-ltb a b (le_of_mul-le-mul_right (subst (λ (x : ℕ). x ≤ a * W) q (subst (λ (x : ℕ). R * c ≤ x) p (mul-le-mul_right c l))) W₀)))
      (lt_or_ge U R)

  less_off : (R - U) * c ≡ (b - a) * W
  less_off =
      mul_comm (R - U) c
      ∙ mul-sub c R U
      ∙ ap (λ (x : ℕ). x - c * U) (mul_comm c R ∙ q ∙ mul_comm b W)
      ∙ ap (λ (x : ℕ). W * b - x) (mul_comm c U ∙ p ∙ mul_comm a W)
      ∙ sym (mul-sub W b a)
      ∙ mul_comm W (b - a)

  both_on : (U + R) * c ≡ (a + b) * W
  both_on = add-mul U R c ∙ ap (λ (x : ℕ). x + R * c) p ∙ ap (λ (x : ℕ). a * W + x) q ∙ sym (add-mul a b W)

sum_same : (f : Format) (s t : Bool) (c W : ℕ) → 0 < c → 0 < W → (U R a b : ℕ) → U * c ≡ a * W → R * c ≡ b * W → sum f s U t R W ≡ sum f s a t b c
unfolding sum
sum_same f s t c W C W₀ U R a b p q = λ i.
    cond (beq s t) (round_same f s (U + R) W (a + b) c W₀ C (both_on c W C W₀ U R a b p q) i)
    (cond (less_same c W C W₀ U R a b p q i) (round_same f t (R - U) W (b - a) c W₀ C (less_off c W C W₀ U R a b p q) i)
    ((ap (λ (l : Bool). round f (s && l) (U - R) W) (less_same c W C W₀ R U b a q p) ∙ round_same f (s && nat_lt b a) (U - R) W (a - b) c W₀ C (less_off c W C W₀ R U b a q p)) i))

add_at : (f : Format) (x y : Float) (s t : Bool) (a b c : ℕ) → 0 < c → HasValue x s a c → HasValue y t b c → add f x y ≡ sum f s a t b c
unfolding add
add_at f nan y s t a b c C v w = elim v [ ]
add_at f (inf _) y s t a b c C v w = elim v [ ]
add_at f (fin s' m e) nan s t a b c C v w = elim w [ ]
add_at f (fin s' m e) (inf _) s t a b c C v w = elim w [ ]
add_at f (fin s' m e) (fin t' n d) s t a b c C v w =
    let U = m * up e * down d in
    let R = n * up d * down e in
    let W = down e * down d in
    (λ i. sum f (v.0 i) U (w.0 i) R W)
    ∙ sum_same f s t c W C (mul-pos (down_pos e) (down_pos d)) U R a b
    (mul_right_comm (m * up e) (down d) c ∙ ap (λ (x : ℕ). x * down d) v.1 ∙ mul_assoc a (down e) (down d))
    (mul_right_comm (n * up d) (down e) c ∙ ap (λ (x : ℕ). x * down e) w.1 ∙ mul_assoc b (down d) (down e) ∙ ap (λ (x : ℕ). b * x) (mul_comm (down d) (down e)))

-- ---- a fraction between 2 ^ (prec - 1) and 2 ^ prec rounds to the nearest whole number
closest_near : (a b n : ℕ) → 0 < b → 2 * (n * b) < 2 * a + b → 2 * a < 2 * (n * b) + b → closest a b ≡ n
closest_near a b n B lo hi =
    let e : a / b * b + a % b ≡ a = div-add-mod' a b in
    let l : a % b < b = mod-lt a B in
    ⊎_elim
    (λ m. near_lt (a / b) (a % b * 2) b m ∙ same (a / b) n b (omega arith) (omega arith))
    (λ m. near_gt (a / b) (a % b * 2) b (strict (a / b) (a % b) n a b B e lo hi m) ∙ same (a / b + 1) n b (omega arith) (omega arith))
    (lt_or_ge (a % b * 2) b)
  where
    same : (q n b : ℕ) → q * b < n * b + b → n * b < q * b + b → q ≡ n
    same q n b h k =
        let x : q < n + 1 = lt_of_mul-lt-mul_right b (let g : q * b < (n + 1) * b = omega arith in g) in
        let y : n < q + 1 = lt_of_mul-lt-mul_right b (let g : n * b < (q + 1) * b = omega arith in g) in
        omega arith

    strict : (q r n a b : ℕ) → 0 < b → q * b + r ≡ a → 2 * (n * b) < 2 * a + b → 2 * a < 2 * (n * b) + b → b ≤ r * 2 → b < r * 2
    strict q r n a b B e lo hi m =
        let x : q < n = lt_of_mul-lt-mul_right b (let g : q * b < n * b = omega arith in g) in
        let y : (q + 1) * b ≤ n * b = mul-le-mul_right b (let g : q + 1 ≤ n = omega arith in g) in
        omega arith

-- from units of the smallest value to whole numbers
whole_units : (x : Float) (s : Bool) (n u : ℕ) → 0 < u → HasValue x s (n * u) u → HasValue x s n 1
whole_units nan s n u U v = v
whole_units (inf t) s n u U v = v
whole_units (fin t m e) s n u U v = (v.0, mul-one (m * up e) ∙ eq_of_mul-eq-mul_right u U (m * up e) (n * down e) (v.1 ∙ mul_right_comm n u (down e)))

top_unit : (f : Format) (n : ℕ) → n < 2 ^ prec f → n * 2 ^ low f < 2 ^ (low f + suc (emax f))
top_unit f n h =
    lt_of_lt_of_le (mul-lt-mul_of_pos_right h (pow_pos (low f)))
    (le_trans (le_of_eq (sym (pow-add 2 (prec f) (low f)))) (pow_mono (le_trans (add-le-add (reach f) (le_refl (low f))) (le_of_eq (add_comm (suc (emax f)) (low f))))))

near_whole : (f : Format) (a k n : ℕ) → 2 ^ (prec f - 1 + k) ≤ a → a < 2 ^ (prec f + k) → n < 2 ^ prec f → closest a (2 ^ k) ≡ n → HasValue (round f false a (2 ^ k)) false n 1
near_whole f a k n lo hi N e =
    let u = low f in
    whole_units (round f false a (2 ^ k)) false n (2 ^ u) (pow_pos u)
    (subst (λ (x : Float). HasValue x false (n * 2 ^ u) (2 ^ u))
    (sym (shifted f false a (2 ^ k) a k u (pow_pos k) (mul_assoc a (2 ^ u) (2 ^ k) ∙ ap (λ (x : ℕ). a * x) (mul_comm (2 ^ u) (2 ^ k))) hi (λ p. lo) ∙ ap (λ (q : ℕ). units f false q u) e))
    (units_val f false n u (top_unit f n N)))

-- ---- 3 * 2 ^ 51, to be added and taken off
abbrev pub middle : Float
middle = fin false 3 (pos 51)

-- w with a sign
abbrev pub signed_whole : Bool → ℕ → ℤ
signed_whole false w = pos w
signed_whole true w = neg_ℤ (pos w)

-- n / 1 less 3 * 2 ^ 51
off_middle : (z : Float) (n : ℕ) → HasValue z false n 1 → sub binary64 z middle ≡ sum binary64 false n true (3 * 2 ^ 51) 1
unfolding sub neg
off_middle z n v = add_at binary64 z (neg middle) false true n (3 * 2 ^ 51) 1 (lit< tt) v (refl, refl)

above_middle : (z : Float) (w : ℕ) → HasValue z false (3 * 2 ^ 51 + w) 1 → sub binary64 z middle ≡ of_int binary64 (pos w)
unfolding sum of_int
above_middle z w v =
    off_middle z (3 * 2 ^ 51 + w) v
    ∙ ap (λ (b : Bool). cond b (round binary64 true (3 * 2 ^ 51 - (3 * 2 ^ 51 + w)) 1) (round binary64 false (3 * 2 ^ 51 + w - 3 * 2 ^ 51) 1)) (le-ltb (3 * 2 ^ 51 + w) (3 * 2 ^ 51) (omega arith))
    ∙ ap (λ (x : ℕ). round binary64 false x 1) (let e : 3 * 2 ^ 51 + w - 3 * 2 ^ 51 ≡ w = omega arith in e)

below_middle : (z : Float) (w : ℕ) → w ≤ 3 * 2 ^ 51 → HasValue z false (3 * 2 ^ 51 - w) 1 → sub binary64 z middle ≡ of_int binary64 (neg_ℤ (pos w))
unfolding sum of_int
below_middle z zero l v = off_middle z (3 * 2 ^ 51) v
below_middle z (suc w) l v =
    off_middle z (3 * 2 ^ 51 - suc w) v
    ∙ ap (λ (b : Bool). cond b (round binary64 true (3 * 2 ^ 51 - (3 * 2 ^ 51 - suc w)) 1) (round binary64 false (3 * 2 ^ 51 - suc w - 3 * 2 ^ 51) 1)) (lt-ltb (3 * 2 ^ 51 - suc w) (3 * 2 ^ 51) (omega arith))
    ∙ ap (λ (x : ℕ). round binary64 true x 1) (let e : 3 * 2 ^ 51 - (3 * 2 ^ 51 - suc w) ≡ suc w = omega arith in e)

-- y is a / 2 ^ k with a sign, and nearer to w than a half
module _ (a k w : ℕ) (lo : 2 * (w * 2 ^ k) < 2 * a + 2 ^ k) (hi : 2 * a < 2 * (w * 2 ^ k) + 2 ^ k) (small : w ≤ 2 ^ 25) where
  less_a : a < 2 ^ 26 * 2 ^ k
  less_a = let g : w * 2 ^ k ≤ 2 ^ 25 * 2 ^ k = mul-le-mul_right (2 ^ k) small in let p = pow_pos k in omega arith

  -- the sum with 3 * 2 ^ 51 is a whole number
  summed : (n b : ℕ) → 3 * 2 ^ 51 - 2 ^ 26 ≤ n → n ≤ 3 * 2 ^ 51 + 2 ^ 26 → 2 * (n * 2 ^ k) < 2 * b + 2 ^ k → 2 * b < 2 * (n * 2 ^ k) + 2 ^ k → HasValue (round binary64 false b (2 ^ k)) false n 1
  summed n b p q lo hi =
      let P = pow_pos k in
      let g : (3 * 2 ^ 51 - 2 ^ 26) * 2 ^ k ≤ n * 2 ^ k = mul-le-mul_right (2 ^ k) p in
      let h : n * 2 ^ k ≤ (3 * 2 ^ 51 + 2 ^ 26) * 2 ^ k = mul-le-mul_right (2 ^ k) q in
      near_whole binary64 b k n
      (le_trans (le_of_eq (pow-add 2 52 k)) (let r : 2 ^ 52 * 2 ^ k ≤ b = omega arith in r))
      (lt_of_lt_of_le (let r : b < 2 ^ 53 * 2 ^ k = omega arith in r) (le_of_eq (sym (pow-add 2 53 k))))
      (lt_of_le_of_lt q (lit< tt))
      (closest_near b (2 ^ k) n P lo hi)

  onto_middle : (y : Float) (s : Bool) → HasValue y s a (2 ^ k) → add binary64 y middle ≡ sum binary64 s a false (3 * 2 ^ 51 * 2 ^ k) (2 ^ k)
  onto_middle y s v = add_at binary64 y middle s false a (3 * 2 ^ 51 * 2 ^ k) (2 ^ k) (pow_pos k) v (refl, sym (mul-one (3 * 2 ^ 51 * 2 ^ k)))

  to_whole : (y : Float) (s : Bool) → HasValue y s a (2 ^ k) → sub binary64 (add binary64 y middle) middle ≡ of_int binary64 (signed_whole s w)
  unfolding sum
  to_whole y false v =
      above_middle (add binary64 y middle) w
      (subst (λ (z : Float). HasValue z false (3 * 2 ^ 51 + w) 1) (sym (onto_middle y false v))
      (summed (3 * 2 ^ 51 + w) (a + 3 * 2 ^ 51 * 2 ^ k) (omega arith) (omega arith) (omega arith) (omega arith)))
  to_whole y true v =
      let b = 3 * 2 ^ 51 * 2 ^ k in
      let l : a < b = let g = less_a in let p = pow_pos k in omega arith in
      let e : (3 * 2 ^ 51 - w) * 2 ^ k ≡ b - w * 2 ^ k = mul_comm (3 * 2 ^ 51 - w) (2 ^ k) ∙ mul-sub (2 ^ k) (3 * 2 ^ 51) w ∙ ap (λ (x : ℕ). x - 2 ^ k * w) (mul_comm (2 ^ k) (3 * 2 ^ 51)) ∙ ap (λ (x : ℕ). b - x) (mul_comm (2 ^ k) w) in
      let g : w * 2 ^ k ≤ 2 ^ 25 * 2 ^ k = mul-le-mul_right (2 ^ k) small in
      below_middle (add binary64 y middle) w (omega arith)
      (subst (λ (z : Float). HasValue z false (3 * 2 ^ 51 - w) 1)
      (sym (onto_middle y true v ∙ ap (λ (t : Bool). cond t (round binary64 false (b - a) (2 ^ k)) (round binary64 (nat_lt b a) (a - b) (2 ^ k))) (lt-ltb a b l)))
      (summed (3 * 2 ^ 51 - w) (b - a) (omega arith) (omega arith) (omega arith) (omega arith)))

-- ---- what a part is: a finite binary32
pub record Part (m : ℕ) (e : ℤ) : Type 0 where
  pub few : m < 2 ^ 24
  pub deep : down e ≤ 2 ^ 149
  pub high : m * up e < 2 ^ 128 * down e

part_of : (s : Bool) (m : ℕ) (e : ℤ) → T (fits binary32 (fin s m e)) → Part m e
unfolding fits
part_of s zero e t =
    let o : up e * down e ≡ 1 = eqb→eq (up e * down e) 1 t in
    let u : 1 * down e ≤ up e * down e = mul-le-mul_right (down e) (up_pos e) in
    let d = down_pos e in
    record { few = lit< tt; deep = le_trans (let g : down e ≤ 1 = omega arith in g) (lit≤ tt); high = lt_of_le_of_lt (le_of_eq (zero-mul (up e))) (mul-pos {m = 2 ^ 128} (lit< tt) (down_pos e)) }
part_of s (suc m) e t =
    let a = nat_eq (suc m % 2) 1 in
    let b = ltb (suc m) (2 ^ 24) in
    let c = nat_le (down e) (2 ^ 149) in
    let d = ltb (suc m * up e) (2 ^ 128 * down e) in
    record {
      few = ltb→lt (suc m) (2 ^ 24) (and_r a b (and_l (a && b) c (and_l (a && b && c) d t)));
      deep = leb→le (down e) (2 ^ 149) (and_r (a && b) c (and_l (a && b && c) d t));
      high = ltb→lt (suc m * up e) (2 ^ 128 * down e) (and_r (a && b && c) d t);
    }

-- 2 ^ e is a whole number, or one over a power of two
abbrev places : ℤ → ℕ
places (pos k) = 0
places (negsuc k) = suc k

down_places : (e : ℤ) → down e ≡ 2 ^ places e
down_places (pos k) = refl
down_places (negsuc k) = refl

few_places : (e : ℤ) (n : ℕ) → down e ≤ 2 ^ n → places e ≤ n
few_places e n h = ⊎_elim (λ l. absurd (lt_irrefl (2 ^ n) (lt_of_lt_of_le (pow-lt l) (le_trans (le_of_eq (sym (down_places e))) h)))) (λ l. l) (lt_or_ge n (places e))

-- ---- a fraction that the format holds, with a sign
negated : (x : Float) (a c : ℕ) → HasValue x false a c → HasValue (neg x) true a c
unfolding neg
negated nan a c v = v
negated (inf s) a c v = v
negated (fin s m e) a c v = (ap not v.0, v.1)

held : (f : Format) (s : Bool) (q j : ℕ) → Holds f q j → HasValue (round f s q (2 ^ j)) s q (2 ^ j)
held f false q j h = value f q j h
held f true q j h = subst (λ (z : Float). HasValue z true q (2 ^ j)) (sym (round_neg f q (2 ^ j))) (negated (round f false q (2 ^ j)) q (2 ^ j) (value f q j h))

-- ---- the factor 32768 + 2 ^ -11
abbrev pub factor : Float
factor = fin false 67108865 (negsuc 10)

module _ (s : Bool) (m : ℕ) (e : ℤ) (part : Part m e) (low : m * up e < 512 * down e) where
  P : ℕ
  P = m * up e

  Q : ℕ
  Q = down e

  -- the whole number that is nearest to the part times 32768, a half away from zero
  unfoldable pub w : ℕ
  unfolding P Q
  w = (P * 2 ^ 15 * 2 + Q) / (Q * 2)

  few_P : P < 2 ^ 24
  unfolding P
  few_P = go m e part.few low
    where
      go : (m : ℕ) (e : ℤ) → m < 2 ^ 24 → m * up e < 512 * down e → m * up e < 2 ^ 24
      go m (pos k) f l = omega arith
      go m (negsuc k) f l = omega arith

  product : mul binary64 (fin s m e) factor ≡ round binary64 s (P * 67108865) (2 ^ (places e + 11))
  unfolding mul P
  product = go s
    where
      at : (t : Bool) → round binary64 t (m * up e * (67108865 * 1)) (down e * 2 ^ 11) ≡ round binary64 t (m * up e * 67108865) (2 ^ (places e + 11))
      at t = ap (λ (c : ℕ). round binary64 t (m * up e * 67108865) c) (ap (λ (c : ℕ). c * 2 ^ 11) (down_places e) ∙ sym (pow-add 2 (places e) 11))

      go : (s : Bool) → round binary64 (not (beq s false)) (m * up e * (67108865 * 1)) (down e * 2 ^ 11) ≡ round binary64 s (m * up e * 67108865) (2 ^ (places e + 11))
      go true = at true
      go false = at false

  product_value : HasValue (mul binary64 (fin s m e) factor) s (P * 67108865) (2 ^ (places e + 11))
  product_value =
      subst (λ (z : Float). HasValue z s (P * 67108865) (2 ^ (places e + 11))) (sym product)
      (held binary64 s (P * 67108865) (places e + 11) (record { small = let l = few_P in omega arith; deep = let l = few_places e 149 part.deep in omega arith }))

  -- w by its two sides
  not_more : w * (Q * 2) ≤ P * 2 ^ 15 * 2 + Q
  unfolding w
  not_more = div-mul-le_self (P * 2 ^ 15 * 2 + Q) (Q * 2)

  not_less : P * 2 ^ 15 * 2 + Q < w * (Q * 2) + Q * 2
  unfolding w Q
  not_less =
      let n = P * 2 ^ 15 * 2 + Q in
      let l : n % (Q * 2) < Q * 2 = mod-lt n (mul-pos (down_pos e) (lit< tt)) in
      let d : n / (Q * 2) * (Q * 2) + n % (Q * 2) ≡ n = div-add-mod' n (Q * 2) in
      omega arith

  few_w : w ≤ 2 ^ 25
  unfolding P Q
  few_w =
      let a = not_more in
      let b : w * 2 * Q < (2 ^ 25 + 1) * Q = omega arith in
      let c : w * 2 < 2 ^ 25 + 1 = lt_of_mul-lt-mul_right Q b in
      omega arith

  wide : 2 ^ (places e + 11) ≡ Q * 2 ^ 11
  unfolding Q
  wide = pow-add 2 (places e) 11 ∙ ap (λ (c : ℕ). c * 2 ^ 11) (sym (down_places e))

  above : 2 * (w * (Q * 2 ^ 11)) < 2 * (P * 67108865) + Q * 2 ^ 11
  unfolding Q
  above = ⊎_elim
      (λ z.
      let a = not_more in
      let d = down_pos e in
      let b : w * 2 * Q < 2 * Q = omega arith in
      let c : w * 2 < 2 = lt_of_mul-lt-mul_right Q b in
      let g : w ≡ 0 = omega arith in
      subst (λ (x : ℕ). 2 * (x * (Q * 2 ^ 11)) < 2 * (P * 67108865) + Q * 2 ^ 11) (sym g) (omega arith))
      (λ p. let a = not_more in omega arith)
      (eq-zero-or-pos P)

  -- part and half have a common measure, and the factor moves the part by less
  shallow : (R : ℕ) → Q * R ≡ 2 ^ 15 → 2 * (P * 67108865) < 2 * (w * (Q * 2 ^ 11)) + Q * 2 ^ 11
  unfolding P Q
  shallow R r =
      let a = not_less in
      let x : P * 2 ^ 15 ≡ P * R * Q = ap (λ (c : ℕ). P * c) (sym r) ∙ ap (λ (c : ℕ). P * c) (mul_comm Q R) ∙ sym (mul_assoc P R Q) in
      let b : P * R * 2 * Q < (w * 2 + 1) * Q = omega arith in
      let c : suc (P * R * 2) ≤ w * 2 + 1 = lt_of_mul-lt-mul_right Q b in
      let d : suc (P * R * 2) * Q ≤ (w * 2 + 1) * Q = mul-le-mul_right Q c in
      omega arith

  under : (R : ℕ) → Q ≡ 2 ^ 16 * R → 2 * (P * 67108865) < 2 * (w * (Q * 2 ^ 11)) + Q * 2 ^ 11
  under R r =
      let a = not_less in
      let f = few_P in
      let x : w * Q ≡ w * R * 2 ^ 16 = ap (λ (c : ℕ). w * c) r ∙ ap (λ (c : ℕ). w * c) (mul_comm (2 ^ 16) R) ∙ sym (mul_assoc w R (2 ^ 16)) in
      let b : P * 2 ^ 16 < (w * R * 2 + R) * 2 ^ 16 = omega arith in
      let c : suc P ≤ w * R * 2 + R = lt_of_mul-lt-mul_right (2 ^ 16) b in
      omega arith

  below : 2 * (P * 67108865) < 2 * (w * (Q * 2 ^ 11)) + Q * 2 ^ 11
  unfolding Q
  below = ⊎_elim
      (λ l. under (2 ^ (places e - 16)) (down_places e ∙ ap (λ (x : ℕ). 2 ^ x) (let g : places e ≡ 16 + (places e - 16) = omega arith in g) ∙ pow-add 2 16 (places e - 16)))
      (λ l. shallow (2 ^ (15 - places e)) (ap (λ (x : ℕ). x * 2 ^ (15 - places e)) (down_places e) ∙ sym (pow-add 2 (places e) (15 - places e)) ∙ ap (λ (x : ℕ). 2 ^ x) (let g : places e + (15 - places e) ≡ 15 = omega arith in g)))
      (lt_or_ge 15 (places e))

  -- so the sum with 3 * 2 ^ 51, less 3 * 2 ^ 51, is w with the sign
  pub rounds_to : sub binary64 (add binary64 (mul binary64 (fin s m e) factor) middle) middle ≡ of_int binary64 (signed_whole s w)
  rounds_to =
      to_whole (P * 67108865) (places e + 11) w
      (subst (λ (c : ℕ). 2 * (w * c) < 2 * (P * 67108865) + c) (sym wide) above)
      (subst (λ (c : ℕ). 2 * (P * 67108865) < 2 * (w * c) + c) (sym wide) below)
      few_w (mul binary64 (fin s m e) factor) s product_value

-- ---- the part times 32768: exact
scale : Float
scale = fin false 1 (pos 15)

whole_held : (f : Format) (s : Bool) (m j : ℕ) → m < 2 ^ prec f → m * 2 ^ j < 2 ^ suc (emax f) → HasValue (round f s (m * 2 ^ j) 1) s (m * 2 ^ j) 1
whole_held f s m j h k =
    let l = low f in
    let e : m * 2 ^ (j + l) ≡ m * 2 ^ j * 2 ^ l = ap (λ (x : ℕ). m * x) (pow-add 2 j l) ∙ sym (mul_assoc m (2 ^ j) (2 ^ l)) in
    round_exact f s (m * 2 ^ j) 1 m (j + l) (lit< tt) h
    (subst (λ (x : ℕ). x < 2 ^ (l + suc (emax f))) (sym e) (lt_of_lt_of_le (mul-lt-mul_of_pos_right k (pow_pos l)) (le_of_eq (sym (pow-add 2 (suc (emax f)) l) ∙ ap (λ (x : ℕ). 2 ^ x) (add_comm (suc (emax f)) l)))))
    (sym e ∙ sym (mul-one (m * 2 ^ (j + l))))

scaled : (s : Bool) (m : ℕ) (e : ℤ) → mul binary64 (fin s m e) scale ≡ round binary64 s (m * up e * 2 ^ 15) (down e)
unfolding mul scale
scaled s m e = go s
  where
    at : (t : Bool) → round binary64 t (m * up e * (1 * 2 ^ 15)) (down e * 1) ≡ round binary64 t (m * up e * 2 ^ 15) (down e)
    at t = ap (λ (c : ℕ). round binary64 t (m * up e * 2 ^ 15) c) (mul-one (down e))

    go : (s : Bool) → round binary64 (not (beq s false)) (m * up e * (1 * 2 ^ 15)) (down e * 1) ≡ round binary64 s (m * up e * 2 ^ 15) (down e)
    go true = at true
    go false = at false

scaled_value : (s : Bool) (m : ℕ) (e : ℤ) → Part m e → HasValue (mul binary64 (fin s m e) scale) s (m * up e * 2 ^ 15) (down e)
scaled_value s m (pos k) p =
    let e : m * 2 ^ (k + 15) ≡ m * 2 ^ k * 2 ^ 15 = ap (λ (x : ℕ). m * x) (pow-add 2 k 15) ∙ sym (mul_assoc m (2 ^ k) (2 ^ 15)) in
    let h : m * 2 ^ k < 2 ^ 128 = lt_of_lt_of_le p.high (le_of_eq (mul-one (2 ^ 128))) in
    subst (λ (z : Float). HasValue z s (m * 2 ^ k * 2 ^ 15) 1) (sym (scaled s m (pos k)))
    (subst (λ (x : ℕ). HasValue (round binary64 s x 1) s x 1) e
    (whole_held binary64 s m (k + 15) (lt_of_lt_of_le p.few (lit≤ tt))
    (subst (λ (x : ℕ). x < 2 ^ 1024) (sym e) (lt_of_lt_of_le (mul-lt-mul_of_pos_right h (pow_pos 15)) (lit≤ tt)))))
scaled_value s m (negsuc k) p =
    let f = p.few in
    let d = few_places (negsuc k) 149 p.deep in
    subst (λ (z : Float). HasValue z s (m * 1 * 2 ^ 15) (2 ^ suc k)) (sym (scaled s m (negsuc k)))
    (held binary64 s (m * 1 * 2 ^ 15) (suc k) (record { small = omega arith; deep = omega arith }))

-- ---- below 512

within_size : (s : Bool) (m : ℕ) (e : ℤ) → within (fin s m e) ≡ nat_lt (m * up e) (512 * down e)
unfolding within lt
within_size true m e =
    ap (λ (b : Bool). nat_lt (m * up e * 1) (512 * down e) && b) (lt-ltb 0 (m * up e * 1 + 512 * down e) (let d = down_pos e in omega arith))
    ∙ and_true (nat_lt (m * up e * 1) (512 * down e))
    ∙ ap (λ (n : ℕ). ltb n (512 * down e)) (mul-one (m * up e))
  where
    and_true : (b : Bool) → (b && true) ≡ b
    and_true true = refl
    and_true false = refl
within_size false m e =
    ap (λ (b : Bool). b && nat_lt (m * up e * 1) (512 * down e)) (lt-ltb 0 (512 * down e + m * up e * 1) (let d = down_pos e in omega arith))
    ∙ ap (λ (n : ℕ). ltb n (512 * down e)) (mul-one (m * up e))

-- what the steps come to: a whole number, which the cast takes as it is
pub record Quantised (x : Float) : Type 0 where
  pub number : T (fits binary64 x && not (is_nan x))
  pub whole : T (in_signed binary64 63 (sub binary64 (add binary64 (mul binary64 x factor) middle) middle))
  pub is : to_signed 63 (sub binary64 (add binary64 (mul binary64 x factor) middle) middle) ≡ quantised_of x

cast : (s : Bool) (w : ℕ) → w ≤ 2 ^ 25 → T (in_signed binary64 63 (of_int binary64 (signed_whole s w))) × (to_signed 63 (of_int binary64 (signed_whole s w)) ≡ signed_whole s w)
unfolding in_float
cast false w h = positive_back binary64 63 w (le→leb w (2 ^ 53) (le_trans h (lit≤ tt))) (lt_of_le_of_lt h (lit< tt))
cast true zero h = positive_back binary64 63 0 tt (lit< tt)
cast true (suc w) h = negative_back binary64 63 w (lt→ltb w (2 ^ 53) (le_trans h (lit≤ tt))) (le_trans h (lit≤ tt))

quantised_value : (s : Bool) (w : ℕ) → w ≤ 2 ^ 25 → to_signed 63 (round binary64 s w 1) ≡ signed_whole s w
unfolding to_signed
quantised_value false w h = unfold of_int in (cast false w h).1
quantised_value true zero h = ap (to_signed 63) (round_zero binary64 true 1 (lit< tt))
quantised_value true (suc w) h = unfold of_int in (cast true (suc w) h).1

quantise_is : (s : Bool) (m : ℕ) (e : ℤ) (p : Part m e) (l : m * up e < 512 * down e) → quantised_of (fin s m e) ≡ signed_whole s (w s m e p l)
unfolding quantised_of of_bits scale w
quantise_is s m e p l =
    ap (to_signed 63) (whole_value away away_is binary64 (mul binary64 (fin s m e) scale) s (m * up e * 2 ^ 15) (down e) (down_pos e) (scaled_value s m e p))
    ∙ quantised_value s (w s m e p l) (few_w s m e p l)

pub quantises_within : (x : Float) → T (fits binary32 x) → within x ≡ true → Quantised x
quantises_within nan F h = absurd (unfold within lt in false≢true h)
quantises_within (inf true) F h = absurd (unfold within lt in false≢true h)
quantises_within (inf false) F h = absurd (unfold within lt in false≢true h)
quantises_within (fin s m e) F h =
    let p = part_of s m e F in
    let l : m * up e < 512 * down e = ltb-true (m * up e) (512 * down e) (sym (within_size s m e) ∙ h) in
    let r = rounds_to s m e p l in
    let k = cast s (w s m e p l) (few_w s m e p l) in
    record {
      number = and_i (fits binary64 (fin s m e)) (not (is_nan (fin s m e))) (fits_widens (fin s m e) F) (unfold is_nan in tt);
      whole = subst (λ (z : Float). T (in_signed binary64 63 z)) (sym r) k.0;
      is = ap (to_signed 63) r ∙ k.1 ∙ sym (quantise_is s m e p l);
    }

-- ---- from 512 on the part times 32768 is whole
whole_already : (x : Float) (s : Bool) (n : ℕ) → T (fits binary64 x) → HasValue x s n 1 → whole_of away binary64 x ≡ x
whole_already nan s n F v = elim v [ ]
whole_already (inf _) s n F v = elim v [ ]
whole_already (fin t m e) s n F v =
    whole_value away away_is binary64 (fin t m e) s n 1 (lit< tt) v
    ∙ ap (λ (k : ℕ). round binary64 s k 1) (away_is.still s n)
    ∙ round_same binary64 s n 1 (m * up e) (down e) (lit< tt) (down_pos e) (sym v.1)
    ∙ ap (λ (b : Bool). round binary64 b (m * up e) (down e)) (sym v.0)
    ∙ round_id binary64 t m e F

big_places : (m : ℕ) (e : ℤ) → m < 2 ^ 24 → 512 * down e ≤ m * up e → places e ≤ 15
big_places m (pos k) f h = omega arith
big_places m (negsuc k) f h = few_places (negsuc k) 15 (let g : 2 ^ suc k ≤ 2 ^ 15 = omega arith in g)

scaled_whole : (s : Bool) (m : ℕ) (e : ℤ) → Part m e → places e ≤ 15 → HasValue (mul binary64 (fin s m e) scale) s (m * up e * 2 ^ (15 - places e)) 1
scaled_whole s m e p h =
    whole_units (mul binary64 (fin s m e) scale) s (m * up e * 2 ^ (15 - places e)) (down e) (down_pos e)
    (subst (λ (n : ℕ). HasValue (mul binary64 (fin s m e) scale) s n (down e))
    (ap (λ (n : ℕ). m * up e * n) (ap (λ (k : ℕ). 2 ^ k) (let g : 15 ≡ 15 - places e + places e = omega arith in g) ∙ pow-add 2 (15 - places e) (places e) ∙ ap (λ (n : ℕ). 2 ^ (15 - places e) * n) (sym (down_places e)))
    ∙ sym (mul_assoc (m * up e) (2 ^ (15 - places e)) (down e)))
    (scaled_value s m e p))

pub quantises_beyond : (x : Float) → T (fits binary32 x) → within x ≡ false → to_signed 63 (mul binary64 x (of_bits binary64 0x40e0_0000_0000_0000)) ≡ quantised_of x
unfolding quantised_of of_bits scale
quantises_beyond nan F h = unfold mul whole_of in refl
quantises_beyond (inf true) F h = unfold mul whole_of in refl
quantises_beyond (inf false) F h = unfold mul whole_of in refl
quantises_beyond (fin s m e) F h =
    let p = part_of s m e F in
    let l : 512 * down e ≤ m * up e = ltb-false (m * up e) (512 * down e) (sym (within_size s m e) ∙ h) in
    ap (to_signed 63) (sym (whole_already (mul binary64 (fin s m e) scale) s (m * up e * 2 ^ (15 - places e)) (mul-fits binary64 (fin s m e) scale) (scaled_whole s m e p (big_places m e p.few l))))
