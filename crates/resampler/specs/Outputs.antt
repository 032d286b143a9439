-- The resampler's next output: where it lies, that a sample gives at most two outputs, and how far it runs ahead. Assumes nothing.
use Rattle.std.specs.Prelude.{◌≡◌, ℕ, zero, suc, ◌+◌, ◌-◌, ◌*◌, ◌/◌, ◌%◌, ◌^◌, ◌<◌, ◌≤◌, Bool, true, false, ◌&&◌, T, ℤ, pos, negsuc, ◌==◌, nat_le, nat_lt, refl, Float}
use Rattle.std.proofs.Common.{sym, subst, mul-pos, le-div_iff_mul-le, div-lt_iff_lt-mul, lt_of_not-le, ltb→lt, lit<, lit≤}
use Rattle.std.proofs.Math.Nat.{mul-le-mul_right}
use native.Mathlib.Omega.{arith}
use Rattle.std.proofs.Math.Decide.{dec_le}
use Rattle.std.specs.Float.{nan, inf, fin}
use Rattle.std.specs.Float.Ieee.{binary64, low, emax, up, down, add, le, fits}
use Rattle.std.specs.Float.Ieee.Fits.{and_l, and_r, add-fits}
use Rattle.std.specs.Float.Ieee.Scale.{finite}
use Rattle.std.specs.Float.Ieee.Positive.{den, den_pos}
use Rattle.laws.specs.FloatOrder.{plus, minus, le→, →le, le_trans'}
use Rattle.laws.specs.FloatSums.{In, in_finite, add_in, add_mono}
use Rattle.laws.specs.FloatFractions.{AtLeast, AtMost, add_least, add_most}
use Rattle.resampler.specs.Admitted.{f0, half, twenty, far}

-- ---- where the output x lies: 32 x rounded half up, in whole positions and 32nds. Phase 32 is 0 at the next position.
unfoldable pub tick : Float → ℕ
tick x = (64 * plus x + den x) / (2 * den x)

unfoldable pub position : Float → ℕ
unfolding tick
position x = tick x / 32

unfoldable pub phase : Float → ℕ
unfolding tick
phase x = tick x % 32

-- a number from 0 on: no minus part
abbrev pub NonNeg : Float → Type 0
NonNeg x = minus x ≡ 0

-- position x >= Q says that x >= Q - 1/64
position→ : (x : Float) (Q : ℕ) → NonNeg x → Q ≤ position x → AtLeast x (64 * Q - 1) 64
unfolding position tick
position→ x Q n h =
    let D = den x in
    let p = plus x in
    let a : Q * 32 ≤ (64 * p + D) / (2 * D) = (le-div_iff_mul-le (lit< tt)).0 h in
    let b : Q * 32 * (2 * D) ≤ 64 * p + D = (le-div_iff_mul-le (mul-pos {m = 2} {n = D} (lit< tt) (den_pos x))).0 a in
    go Q D p (minus x) n b
  where
    go : (Q D p n : ℕ) → n ≡ 0 → Q * 32 * (2 * D) ≤ 64 * p + D → (64 * Q - 1) * D + n * 64 ≤ p * 64
    go zero D p n e b = omega arith
    go (suc Q) D p n e b = let k : 64 * suc Q - 1 ≡ 64 * Q + 63 = omega arith in subst (λ (z : ℕ). z * D + n * 64 ≤ p * 64) (sym k) (omega arith)

→position : (x : Float) (Q : ℕ) → AtLeast x (64 * Q + 63) 64 → suc Q ≤ position x
unfolding position tick
→position x Q h =
    let D = den x in
    let p = plus x in
    (le-div_iff_mul-le (lit< tt)).1 ((le-div_iff_mul-le (mul-pos {m = 2} {n = D} (lit< tt) (den_pos x))).1 (go Q D p (minus x) h))
  where
    go : (Q D p n : ℕ) → (64 * Q + 63) * D + n * 64 ≤ p * 64 → suc Q * 32 * (2 * D) ≤ 64 * p + D
    go Q D p n h = omega arith

position_under : (x : Float) (Q : ℕ) → position x ≤ Q → AtMost x (suc Q) 1
unfolding position tick
position_under x Q h =
    let D = den x in
    let p = plus x in
    let a : (64 * p + D) / (2 * D) < suc Q * 32 = (div-lt_iff_lt-mul (lit< tt)).0 (up_one (position x) Q h) in
    let b : 64 * p + D < suc Q * 32 * (2 * D) = (div-lt_iff_lt-mul (mul-pos {m = 2} {n = D} (lit< tt) (den_pos x))).0 a in
    go Q D p (minus x) b
  where
    up_one : (k Q : ℕ) → k ≤ Q → k < suc Q
    up_one k Q h = omega arith

    go : (Q D p n : ℕ) → 64 * p + D < suc Q * 32 * (2 * D) → p * 1 ≤ suc Q * D + n * 1
    go Q D p n b = omega arith

-- ---- the gap: an f64 that is at least Q - 1/64, for a whole Q above 2^47, is at least Q
pub digits : (s : Bool) (m : ℕ) (e : ℤ) → T (fits binary64 (fin s m e)) → m < 2 ^ 53
unfolding fits
digits s zero e t = lit< tt
digits s (suc m) e t =
    ltb→lt (suc m) (2 ^ 53) (and_r (suc m % 2 == 1) (nat_lt (suc m) (2 ^ 53)) (and_l (suc m % 2 == 1 && nat_lt (suc m) (2 ^ 53)) (nat_le (down e) (2 ^ low binary64))
    (and_l (suc m % 2 == 1 && nat_lt (suc m) (2 ^ 53) && nat_le (down e) (2 ^ low binary64)) (nat_lt (suc m * up e) (2 ^ suc (emax binary64) * down e)) t)))

fine : (Q D m : ℕ) → 2 ^ 47 < Q → m < 2 ^ 53 → (64 * Q - 1) * D + 0 * 64 ≤ m * 1 * 64 → Q * D + 0 * 1 ≤ m * 1 * 1
fine Q D m L S h =
    let a : suc (2 ^ 47) * D ≤ Q * D = mul-le-mul_right D L in
    let k : (64 * Q - 1) * D + D ≡ 64 * (Q * D) = split Q D L in
    omega arith
  where
    split : (Q D : ℕ) → 2 ^ 47 < Q → (64 * Q - 1) * D + D ≡ 64 * (Q * D)
    split zero D L = absurd (no_less L)
      where
        no_less : 2 ^ 47 < 0 → ⊥
        no_less l = omega arith
    split (suc Q) D L = let k : 64 * suc Q - 1 ≡ 64 * Q + 63 = omega arith in subst (λ (z : ℕ). z * D + D ≡ 64 * (suc Q * D)) (sym k) (omega arith)

whole : (Q M : ℕ) → 2 ^ 47 < Q → (64 * Q - 1) * 1 + 0 * 64 ≤ M * 64 → Q * 1 + 0 * 1 ≤ M * 1
whole Q M L h = omega arith

never : (Q D n : ℕ) → 2 ^ 47 < Q → 0 < D → (64 * Q - 1) * D + n * 64 ≤ 0 * 64 → ⊥
never Q D n L P h = let a : 1 * D ≤ (64 * Q - 1) * D = mul-le-mul_right D (one_up Q L) in omega arith
  where
    one_up : (Q : ℕ) → 2 ^ 47 < Q → 1 ≤ 64 * Q - 1
    one_up Q L = omega arith

pub gap : (x : Float) (Q : ℕ) → T (finite x) → T (fits binary64 x) → 2 ^ 47 < Q → AtLeast x (64 * Q - 1) 64 → AtLeast x Q 1
gap nan Q p t L h = absurd p
gap (inf s) Q p t L h = absurd p
gap (fin true m e) Q p t L h = absurd (never Q (down e) (m * up e) L (den_pos (fin true m e)) h)
gap (fin false m (pos k)) Q p t L h = whole Q (m * 2 ^ k) L h
gap (fin false m (negsuc k)) Q p t L h = fine Q (2 ^ suc k) m L (digits false m (negsuc k) t) h

-- ---- two steps
-- 2^47 - 1/64, the largest f64 below 2^47; 2^47 + 1/2; 2^47 + 1
abbrev edge : Float
edge = fin false 9007199254740991 (negsuc 5)

abbrev edge_half : Float
edge_half = fin false 281474976710657 (negsuc 0)

abbrev edge_one : Float
edge_one = fin false 140737488355329 (pos 0)

pub record Sound (x s : Float) : Type 0 where
  pub range : In f0 far x
  pub stored : T (fits binary64 x)
  pub step : In half twenty s

-- the output after x, and the one after that
abbrev pub one_on : Float → Float → Float
one_on x s = add binary64 x s

abbrev pub two_on : Float → Float → Float
two_on x s = add binary64 (add binary64 x s) s

module _ (x s : Float) (w : Sound x s) where
  X : T (finite x)
  X = in_finite f0 far x tt tt w.range

  S : T (finite s)
  S = in_finite half twenty s tt tt w.step

  -- the first and the second sum are finite
  pub in₁ : In (add binary64 f0 half) (add binary64 far twenty) (one_on x s)
  in₁ = add_in binary64 f0 far half twenty tt tt w.range w.step

  pub X₁ : T (finite (one_on x s))
  unfolding add
  X₁ = in_finite (add binary64 f0 half) (add binary64 far twenty) (one_on x s) tt tt in₁

  X₂ : T (finite (two_on x s))
  unfolding add
  X₂ = in_finite (add binary64 (add binary64 f0 half) half) (add binary64 (add binary64 far twenty) twenty) (two_on x s) tt tt (add_in binary64 (add binary64 f0 half) (add binary64 far twenty) half twenty tt tt in₁ w.step)

  s_least : AtLeast s 1 2
  s_least = let h = le→ half s tt S w.step.lower in omega arith

  s_most : AtMost s 20 1
  s_most = let h = le→ s twenty S tt w.step.upper in omega arith

  -- below 2^47 every sum in between is a multiple of 1/64, and held
  low_two : (Q : ℕ) → Q < 2 ^ 47 → AtLeast x (64 * Q - 1) 64 → AtLeast (two_on x s) (64 * Q + 63) 64
  low_two Q l h =
      let a : AtLeast (one_on x s) (64 * Q + 31) (2 ^ 6) = add_least binary64 x s (64 * Q - 1) 64 1 2 (64 * Q + 31) 6 X S X₁ (lit< tt) (lit< tt) (record { small = omega arith; deep = lit≤ tt }) h s_least (omega arith) in
      add_least binary64 (one_on x s) s (64 * Q + 31) 64 1 2 (64 * Q + 63) 6 X₁ S X₂ (lit< tt) (lit< tt) (record { small = omega arith; deep = lit≤ tt }) a s_least (omega arith)

  -- above it x is at least Q itself
  high_two : (Q : ℕ) → 2 ^ 47 < Q → Q < 2 ^ 52 → AtLeast x (64 * Q - 1) 64 → AtLeast (two_on x s) (64 * Q + 63) 64
  high_two Q L l h =
      let g : AtLeast x Q 1 = gap x Q X w.stored L h in
      let a : AtLeast (one_on x s) (2 * Q + 1) (2 ^ 1) = add_least binary64 x s Q 1 1 2 (2 * Q + 1) 1 X S X₁ (lit< tt) (lit< tt) (record { small = omega arith; deep = lit≤ tt }) g s_least (omega arith) in
      let b : AtLeast (two_on x s) (Q + 1) (2 ^ 0) = add_least binary64 (one_on x s) s (2 * Q + 1) 2 1 2 (Q + 1) 0 X₁ S X₂ (lit< tt) (lit< tt) (record { small = omega arith; deep = lit≤ tt }) a s_least (omega arith) in
      omega arith

  -- at 2^47 the sum 2^47 - 1/64 + 1/2 is a tie, and the even neighbour is above it
  at_two : AtLeast x (64 * 2 ^ 47 - 1) 64 → AtLeast (two_on x s) (64 * 2 ^ 47 + 63) 64
  unfolding add
  at_two h =
      let e : T (le edge x) = →le edge x tt X (omega arith) in
      let a : T (le edge_half (one_on x s)) = add_mono binary64 edge x half s tt X tt S e w.step.lower in
      let b : T (le edge_one (two_on x s)) = add_mono binary64 edge_half (one_on x s) half s tt X₁ tt S a w.step.lower in
      let c = le→ edge_one (two_on x s) tt X₂ b in
      omega arith

  two_steps : (Q : ℕ) → Q < 2 ^ 52 → AtLeast x (64 * Q - 1) 64 → AtLeast (two_on x s) (64 * Q + 63) 64
  two_steps Q l h = go (dec_le (suc Q) (2 ^ 47)) (dec_le Q (2 ^ 47))
    where
      go : Dec (suc Q ≤ 2 ^ 47) → Dec (Q ≤ 2 ^ 47) → AtLeast (two_on x s) (64 * Q + 63) 64
      go (yes a) b = low_two Q a h
      go (no a) (no b) = high_two Q (lt_of_not-le b) l h
      go (no a) (yes b) =
          let e : Q ≡ 2 ^ 47 = same Q b a in
          subst (λ (k : ℕ). AtLeast (two_on x s) (64 * k + 63) 64) (sym e) (at_two (subst (λ (k : ℕ). AtLeast x (64 * k - 1) 64) e h))
        where
          same : (Q : ℕ) → Q ≤ 2 ^ 47 → ¬ (suc Q ≤ 2 ^ 47) → Q ≡ 2 ^ 47
          same Q a b = omega arith

  -- ---- the two promises. `back` is the arm's length less its half, and k samples are in, of which the last is new
  pub at_most_two : (back k : ℕ) → NonNeg x → 0 < back → k ≤ 2 ^ 52 → k ≤ position x + back → k < position (two_on x s) + back
  at_most_two back k n B K h = go (dec_le back k)
    where
      go : Dec (back ≤ k) → k < position (two_on x s) + back
      go (no a) = omega arith
      go (yes a) =
          let Q = k - back in
          let q : Q ≤ position x = omega arith in
          let r = →position (two_on x s) Q (two_steps Q (omega arith) (position→ x Q n q)) in
          omega arith

  -- after an output, which was due, the next lies at most 21 past the output's place
  pub runs_ahead : (back k : ℕ) → k ≤ 2 ^ 52 → back ≤ k → position x + back ≤ k → AtMost (one_on x s) (k - back + 21) 1
  runs_ahead back k K b h =
      let Q = k - back in
      let q : position x ≤ Q = omega arith in
      add_most binary64 x s (suc Q) 1 20 1 (Q + 21) 0 X S X₁ (lit< tt) (lit< tt) (record { small = omega arith; deep = lit≤ tt }) (position_under x Q q) s_most (omega arith)

-- ---- what is asked of the next output holds again after an output that was due
pub no_minus : (x : Float) → T (finite x) → T (le f0 x) → NonNeg x
no_minus nan p h = absurd p
no_minus (inf s) p h = absurd p
no_minus (fin false m e) p h = refl
no_minus (fin true m e) p h = let k = le→ f0 (fin true m e) tt tt h in go (m * up e) (down e) k
  where
    go : (a D : ℕ) → 0 * up (pos 0) * D + a * 1 ≤ 0 * 1 + 0 * D → a ≡ 0
    go a D k = omega arith

module _ (x s : Float) (w : Sound x s) (back k : ℕ) (K : k ≤ 2 ^ 52) (due : position x + back ≤ k) where
  pub sound_next : Sound (one_on x s) s
  unfolding le add
  sound_next =
      let a : AtMost (one_on x s) (k - back + 21) 1 = runs_ahead x s w back k K (omega arith) due in
      let F : T (finite (one_on x s)) = X₁ x s w in
      record {
        range = record {
          lower = le_trans' f0 (add binary64 f0 half) (one_on x s) tt tt F tt (in₁ x s w).lower;
          upper = →le (one_on x s) far F tt (go (plus (one_on x s)) (minus (one_on x s)) (den (one_on x s)) (k - back + 21) (omega arith) a);
        };
        stored = add-fits binary64 x s;
        step = w.step;
      }
    where
      go : (p n D b : ℕ) → b ≤ 2 ^ 53 → p * 1 ≤ b * D + n * 1 → p * 1 + 0 * D ≤ 1 * 2 ^ 53 * D + n * 1
      go p n D b l h = let k = mul-le-mul_right D l in omega arith

  -- the bound that the admitted state names
  pub within_600 : AtMost (one_on x s) (k + 600) 1
  within_600 = go (plus (one_on x s)) (minus (one_on x s)) (den (one_on x s)) (k - back + 21) (k + 600) (omega arith) (runs_ahead x s w back k K (omega arith) due)
    where
      go : (p n D a b : ℕ) → a ≤ b → p * 1 ≤ a * D + n * 1 → p * 1 ≤ b * D + n * 1
      go p n D a b l h = let k = mul-le-mul_right D l in omega arith
