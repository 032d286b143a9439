-- The fast form of the matched filter is the plain one. Assumes nothing.
use Rattle.std.specs.Prelude.{ℕ, zero, suc, ◌+◌, ◌*◌, ◌-◌, ◌/◌, ◌%◌, ◌≤◌, ◌<◌, ◌≡◌, refl, cond, List, [], ◌∷◌, ltb, length, get_or, set, Float}
use Rattle.std.proofs.Common.{sym, ap, ◌∙◌, ⊎_elim, arith, length-set, get_or-set_same, get_or-set_other, lt-ltb, le-ltb}
use Rattle.std.proofs.Math.Path.{subst}
use Rattle.std.proofs.Math.Nat.{mod-add-mod}
use Rattle.std.specs.Float.{nan, binary32}
use Rattle.std.specs.Float.Ieee.{of_bits, add, mul}
use Rattle.laws.specs.Turns.{turns}
use Rattle.laws.specs.Places.{upto, upto_at, upto_is, upto_same, fill, fill_step}
use Rattle.laws.specs.Ring.{lt_or_ge}
use Rattle.filter.specs.declared.sums.Sums.{Sums}
use Rattle.filter.specs.declared.sums.Four.{Four}
use Rattle.filter.specs.Filter.{arm_tap, ring_at, part_of, window_of, Windows, windows_with, matched_of, arm_taps_of}
use Rattle.filter.specs.Fast.{second_at, every_second_of, woven, tapped_of, tapped_four, no_four, sums_of, four_of, put_of, group_of, made_of, Filled}

-- ---- four windows side by side: one tap more
pub four_start : (X Y : ℕ → Float) (T U : List Float) (k : ℕ) → no_four ≡ four_of X Y T U k 0
unfolding four_of sums_of part_of turns
four_start X Y T U k = refl

sums_more : (X Y : ℕ → Float) (T U : List Float) (k n : ℕ) → tapped_of (sums_of X Y T U k n) (X (2 * k + n)) (Y (2 * k + n)) (get_or T n nan) (get_or U n nan) ≡ sums_of X Y T U k (suc n)
unfolding sums_of part_of turns
sums_more X Y T U k n = refl

pub four_of_lem : (a b c d a' b' c' d' : Sums) → a ≡ a' → b ≡ b' → c ≡ c' → d ≡ d' → ◌≡◌ {A = Four} (record { first = a; second = b; third = c; fourth = d }) (record { first = a'; second = b'; third = c'; fourth = d' })
four_of_lem a b c d a' b' c' d' p q r s = rw (p, q, r, s)

-- the samples of the planes re and im at at, at + 1, .. are those that the four windows have at n
pub record Seen (re im : List Float) (X Y : ℕ → Float) (at k n : ℕ) : Type 0 where
  pub real : (i : ℕ) → get_or re (at + i) nan ≡ X (2 * (k + i) + n)
  pub imaginary : (i : ℕ) → get_or im (at + i) nan ≡ Y (2 * (k + i) + n)

four_more : (re im T U : List Float) (X Y : ℕ → Float) (at k n : ℕ) → Seen re im X Y at k n → tapped_four (four_of X Y T U k n) re im at (get_or T n nan) (get_or U n nan) ≡ four_of X Y T U k (suc n)
unfolding four_of
four_more re im T U X Y at k n s =
    let z : (a : ℕ) → a + 0 ≡ a = λ a. omega arith in
    rw (
      rw (z at, z k) at (s.real 0),
      rw (z at, z k) at (s.imaginary 0),
      s.real 1,
      s.imaginary 1,
      s.real 2,
      s.imaginary 2,
      s.real 3,
      s.imaginary 3,
      sums_more X Y T U k n,
      sums_more X Y T U (k + 1) n,
      sums_more X Y T U (k + 2) n,
      sums_more X Y T U (k + 3) n,
    )

-- ---- samples at even and at odd places
woven_even : (e o : List Float) (i m : ℕ) → i ≡ 2 * m → get_or e m nan ≡ woven e o i
unfolding woven
woven_even e o i m h =
    let a : i % 2 ≡ 0 = omega arith in
    let b : i / 2 ≡ m = omega arith in
    rw (a, b)

woven_odd : (e o : List Float) (i m : ℕ) → i ≡ 2 * m + 1 → get_or o m nan ≡ woven e o i
unfolding woven
woven_odd e o i m h =
    let a : i % 2 ≡ 1 = omega arith in
    let b : i / 2 ≡ m = omega arith in
    rw (a, b)

module _ (er or ei oi T U : List Float) (k : ℕ) where
  -- the four windows' sums over the first n taps
  abbrev pub four_to : ℕ → Four
  four_to n = four_of (woven er or) (woven ei oi) T U k n

  pub four_even : (j : ℕ) (s : Four) → s ≡ four_to (2 * j) → tapped_four s er ei (k + j) (get_or T (2 * j) nan) (get_or U (2 * j) nan) ≡ four_to (2 * j + 1)
  four_even j s h =
      let z : suc (2 * j) ≡ 2 * j + 1 = omega arith in
      rw h (four_more er ei T U (woven er or) (woven ei oi) (k + j) k (2 * j)
      (record { real = λ i. woven_even er or (2 * (k + i) + 2 * j) (k + j + i) (omega arith); imaginary = λ i. woven_even ei oi (2 * (k + i) + 2 * j) (k + j + i) (omega arith) })
      ∙ ap four_to z)

  pub four_odd : (j : ℕ) (s : Four) → s ≡ four_to (2 * j + 1) → tapped_four s or oi (k + j) (get_or T (2 * j + 1) nan) (get_or U (2 * j + 1) nan) ≡ four_to (2 * (j + 1))
  four_odd j s h =
      let z : suc (2 * j + 1) ≡ 2 * (j + 1) = omega arith in
      rw h (four_more or oi T U (woven er or) (woven ei oi) (k + j) k (2 * j + 1)
      (record { real = λ i. woven_odd er or (2 * (k + i) + (2 * j + 1)) (k + j + i) (omega arith); imaginary = λ i. woven_odd ei oi (2 * (k + i) + (2 * j + 1)) (k + j + i) (omega arith) })
      ∙ ap four_to z)

  pub four_last : (j : ℕ) (s : Four) → s ≡ four_to (2 * j) → j ≤ 16 → 16 ≤ j → tapped_four s er ei (k + 16) (get_or T 32 nan) (get_or U 32 nan) ≡ four_to 33
  four_last j s h a b =
      let e : j ≡ 16 = omega arith in
      four_even 16 s (h ∙ ap (λ (z : ℕ). four_to (2 * z)) e)

-- ---- four stores
module _ (f : ℕ → Float) where
  put_holds : (n k : ℕ) (l : List Float) → k ≤ n → k ≤ 17 → Filled f n l → (j : ℕ) → j < k + 4 → get_or (put_of l k (f k) (f (k + 1)) (f (k + 2)) (f (k + 3))) j nan ≡ f j
  put_holds n k l kn k17 h j p = ⊎_elim
      (λ (q : j < k + 3). off l3 (k + 3) q ∙ ⊎_elim
      (λ (q : j < k + 2). off l2 (k + 2) q ∙ ⊎_elim
      (λ (q : j < k + 1). off l1 (k + 1) q ∙ ⊎_elim
      (λ (q : j < k). off l k q ∙ h.holds j (omega arith))
      (λ (g : k ≤ j). on l k (omega arith) s (omega arith)) (lt_or_ge j k))
      (λ (g : k + 1 ≤ j). on l1 (k + 1) (omega arith) s1 (omega arith)) (lt_or_ge j (k + 1)))
      (λ (g : k + 2 ≤ j). on l2 (k + 2) (omega arith) s2 (omega arith)) (lt_or_ge j (k + 2)))
      (λ (g : k + 3 ≤ j). on l3 (k + 3) (omega arith) s3 (omega arith)) (lt_or_ge j (k + 3))
    where
      l1 : List Float
      l1 = set l k (f k)

      l2 : List Float
      l2 = set l1 (k + 1) (f (k + 1))

      l3 : List Float
      l3 = set l2 (k + 2) (f (k + 2))

      s : length l ≡ 21
      s = h.size

      s1 : length l1 ≡ 21
      s1 = simp length-set s

      s2 : length l2 ≡ 21
      s2 = simp length-set s

      s3 : length l3 ≡ 21
      s3 = simp length-set s

      on : (m : List Float) (i : ℕ) → j ≡ i → length m ≡ 21 → i < 21 → get_or (set m i (f i)) j nan ≡ f j
      on m i e z b = rw e (get_or-set_same m i (f i) nan (omega arith))

      off : (m : List Float) (i : ℕ) → j < i → get_or (set m i (f i)) j nan ≡ get_or m j nan
      off m i q = get_or-set_other m i j (f i) nan (λ e. omega arith)

  filled_put : (n k : ℕ) (l : List Float) (a b c d : Float) → k ≤ n → k ≤ 17 → Filled f n l → a ≡ f k → b ≡ f (k + 1) → c ≡ f (k + 2) → d ≡ f (k + 3) → Filled f (k + 4) (put_of l k a b c d)
  filled_put n k l a b c d kn k17 h ea eb ec ed = record {
    size = simp length-set h.size;
    holds = λ j p. rw (ea, eb, ec, ed) (put_holds n k l kn k17 h j p);
  }

-- ---- the groups
pub group_low : (g : ℕ) → g < 5 → 4 * g ≡ group_of g
unfolding group_of
group_low g h = rw (lt-ltb g 5 h)

pub group_high : (g : ℕ) → 5 ≤ g → 17 ≡ group_of g
unfolding group_of
group_high g h = rw (le-ltb g 5 h)

made_next : (g : ℕ) → g < 6 → (group_of g + 4 ≡ made_of (g + 1)) × (group_of g ≤ made_of g)
unfolding made_of group_of
made_next g h = ⊎_elim
    (λ (l : g < 5). let a : g + 1 < 6 = omega arith in rw (lt-ltb g 5 l, lt-ltb (g + 1) 6 a, lt-ltb g 6 h) (omega arith, omega arith))
    (λ (m : 5 ≤ g). let e : g ≡ 5 = omega arith in rw e (refl, omega arith))
    (lt_or_ge g 5)

-- ---- one plane of the windows: a part p of each window's sums
filled_start : (f : ℕ → Float) (l : List Float) → length l ≡ 21 → Filled f (made_of 0) l
unfolding made_of
filled_start f l h = record { size = h; holds = λ j p. absurd (omega arith) }

filled_end : (f : ℕ → Float) (l : List Float) (g : ℕ) → g ≤ 6 → 6 ≤ g → Filled f (made_of g) l → l ≡ upto f 21
unfolding made_of
filled_end f l g a b h =
    let e : g ≡ 6 = omega arith in
    let w : Filled f 21 l = subst (λ (n : ℕ). Filled f (cond (ltb n 6) (4 * n) 21) l) e h in
    upto_is f 21 nan l w.size w.holds

module _ (X Y : ℕ → Float) (T U : List Float) where
  filled_next : (p : Sums → Float) (f : ℕ → Float) → ((k : ℕ) → p (sums_of X Y T U k 33) ≡ f k)
      → (g k : ℕ) (s : Four) (l m : List Float) → s ≡ four_of X Y T U k 33 → m ≡ put_of l k (p s.first) (p s.second) (p s.third) (p s.fourth)
      → g < 6 → k ≡ group_of g → k ≤ 17 → Filled f (made_of g) l → Filled f (made_of (g + 1)) m
  unfolding four_of
  filled_next p f i g k s l m e q h o k17 w =
      let n = made_next g h in
      let r = n.1 in
      subst (Filled f (made_of (g + 1))) (sym q)
      (subst (λ (n : ℕ). Filled f n (put_of l k (p s.first) (p s.second) (p s.third) (p s.fourth))) (ap (λ (z : ℕ). z + 4) o ∙ n.0)
      (filled_put f (made_of g) k l _ _ _ _ (omega arith) k17 w
      (ap (λ (z : Four). p z.first) e ∙ i k) (ap (λ (z : Four). p z.second) e ∙ i (k + 1)) (ap (λ (z : Four). p z.third) e ∙ i (k + 2)) (ap (λ (z : Four). p z.fourth) e ∙ i (k + 3))))

  -- ---- the four planes: what stands in them before group g
  pub record Made (g : ℕ) (a b c d : List Float) : Type 0 where
    pub real : Filled (window_of X T) (made_of g) a
    pub imaginary : Filled (window_of Y T) (made_of g) b
    pub derivative_real : Filled (window_of X U) (made_of g) c
    pub derivative_imaginary : Filled (window_of Y U) (made_of g) d

  pub made_start : (a b c d : List Float) → length a ≡ 21 → length b ≡ 21 → length c ≡ 21 → length d ≡ 21 → Made 0 a b c d
  made_start a b c d p q r s = record { real = filled_start _ a p; imaginary = filled_start _ b q; derivative_real = filled_start _ c r; derivative_imaginary = filled_start _ d s }

  pub made_group : (g k : ℕ) (s : Four) (a b c d a' b' c' d' : List Float) → Made g a b c d → g < 6 → k ≡ group_of g → k ≤ 17 → s ≡ four_of X Y T U k 33
      → a' ≡ put_of a k s.first.value.real s.second.value.real s.third.value.real s.fourth.value.real
      → b' ≡ put_of b k s.first.value.imaginary s.second.value.imaginary s.third.value.imaginary s.fourth.value.imaginary
      → c' ≡ put_of c k s.first.derivative.real s.second.derivative.real s.third.derivative.real s.fourth.derivative.real
      → d' ≡ put_of d k s.first.derivative.imaginary s.second.derivative.imaginary s.third.derivative.imaginary s.fourth.derivative.imaginary
      → Made (g + 1) a' b' c' d'
  unfolding sums_of
  made_group g k s a b c d a' b' c' d' m h o k17 e p q r t = record {
    real = filled_next (λ (z : Sums). z.value.real) (window_of X T) (λ k. refl) g k s a a' e p h o k17 m.real;
    imaginary = filled_next (λ (z : Sums). z.value.imaginary) (window_of Y T) (λ k. refl) g k s b b' e q h o k17 m.imaginary;
    derivative_real = filled_next (λ (z : Sums). z.derivative.real) (window_of X U) (λ k. refl) g k s c c' e r h o k17 m.derivative_real;
    derivative_imaginary = filled_next (λ (z : Sums). z.derivative.imaginary) (window_of Y U) (λ k. refl) g k s d d' e t h o k17 m.derivative_imaginary;
  }

  pub made_end : (g : ℕ) (a b c d : List Float) → Made g a b c d → g ≤ 6 → 6 ≤ g
      → ◌≡◌ {A = Windows} (record { real = a; imaginary = b; derivative_real = c; derivative_imaginary = d }) (windows_with X Y T U)
  unfolding windows_with
  made_end g a b c d m l h = rw (
    filled_end _ a g l h m.real,
    filled_end _ b g l h m.imaginary,
    filled_end _ c g l h m.derivative_real,
    filled_end _ d g l h m.derivative_imaginary,
  )

-- ---- the samples at even and at odd places are the ring's
part_same : (X Z : ℕ → Float) (T : List Float) (k n : ℕ) → ((i : ℕ) → i < 2 * k + n → X i ≡ Z i) → part_of X T k n ≡ part_of Z T k n
unfolding part_of turns
part_same X Z T k zero h = refl
part_same X Z T k (suc n) h = rw (h (2 * k + n) (omega arith), part_same X Z T k n (λ i p. h i (omega arith)))

woven_ring : (ring : List Float) (from i : ℕ) → i < 74 → woven (every_second_of ring from) (every_second_of ring (from + 1)) i ≡ ring_at ring from i
unfolding every_second_of
woven_ring ring from i h = ⊎_elim
    (λ (z : i % 2 < 1). let m : i ≡ 2 * (i / 2) = omega arith in
    sym (woven_even _ (upto (second_at ring (from + 1)) 37) i (i / 2) m) ∙ upto_at (second_at ring from) 37 (i / 2) nan (omega arith) ∙ ap (λ (z : ℕ). get_or ring ((from + z) % 256) nan) (sym m))
    (λ (z : 1 ≤ i % 2). let m : i ≡ 2 * (i / 2) + 1 = omega arith in
    let e : from + 1 + 2 * (i / 2) ≡ from + i = omega arith in
    sym (woven_odd (upto (second_at ring from) 37) _ i (i / 2) m) ∙ upto_at (second_at ring (from + 1)) 37 (i / 2) nan (omega arith) ∙ ap (λ (z : ℕ). get_or ring (z % 256) nan) e)
    (lt_or_ge (i % 2) 1)

plane_ring : (ring T : List Float) (from : ℕ) → upto (window_of (woven (every_second_of ring from) (every_second_of ring (from + 1))) T) 21 ≡ upto (window_of (ring_at ring from) T) 21
plane_ring ring T from = upto_same _ _ 21 (λ k h. part_same _ _ T k 33 (λ i p. woven_ring ring from i (omega arith)))

windows_ring : (re im T U : List Float) (from : ℕ)
    → windows_with (woven (every_second_of re from) (every_second_of re (from + 1))) (woven (every_second_of im from) (every_second_of im (from + 1))) T U ≡ windows_with (ring_at re from) (ring_at im from) T U
unfolding windows_with
windows_ring re im T U from = rw (plane_ring re T from, plane_ring im T from, plane_ring re U from, plane_ring im U from)

pub matched_is : (taps derivatives re im er or ei oi T U : List Float) (arm from : ℕ) (w : Windows)
    → T ≡ arm_taps_of taps arm → U ≡ arm_taps_of derivatives arm → er ≡ every_second_of re from → or ≡ every_second_of re (from + 1) → ei ≡ every_second_of im from → oi ≡ every_second_of im (from + 1)
    → w ≡ windows_with (woven er or) (woven ei oi) T U → w ≡ matched_of taps derivatives re im arm from
unfolding matched_of
matched_is taps derivatives re im er or ei oi T U arm from w t u a b c d h = h ∙ rw (t, u, a, b, c, d) (windows_ring re im (arm_taps_of taps arm) (arm_taps_of derivatives arm) from)

-- ---- an arm's taps
pub tap_first : (table : List Float) (arm : ℕ) → arm ≡ 0 → get_or table 1024 nan ≡ arm_tap table arm 0
unfolding arm_tap
tap_first table arm h = rw h

pub tap_past : (table : List Float) (arm : ℕ) → (arm ≡ 0 → ⊥) → of_bits binary32 0 ≡ arm_tap table arm 0
unfolding arm_tap
tap_past table zero h = absurd (h refl)
tap_past table (suc n) h = rw (le-ltb (suc n + 32 * (32 - 0)) 1025 (omega arith))

tap_rest : (table : List Float) (arm i : ℕ) → arm < 32 → 1 ≤ i → get_or table (arm + 32 * (32 - i)) nan ≡ arm_tap table arm i
unfolding arm_tap
tap_rest table arm i h k = rw (lt-ltb (arm + 32 * (32 - i)) 1025 (omega arith))

pub arm_start : (table : List Float) (arm : ℕ) (l : List Float) (v : Float) → v ≡ arm_tap table arm 0 → set l 0 v ≡ fill (arm_tap table arm) 1 (set l 0 v)
unfolding fill turns
arm_start table arm [] v e = refl
arm_start table arm (x ∷ l) v e = ap (λ (z : Float). z ∷ l) e

pub arm_next : (table : List Float) (arm i : ℕ) (l m : List Float) → arm < 32 → 1 ≤ i → m ≡ fill (arm_tap table arm) i l → set m i (get_or table (arm + 32 * (32 - i)) nan) ≡ fill (arm_tap table arm) (i + 1) l
arm_next table arm i l m h k e = fill_step (arm_tap table arm) i l m _ (ap (set m i) (tap_rest table arm i h k)) e

-- ---- the windows as the Rust indexes the ring: start + first + 2 k + i
abbrev pub plain_turn : List Float → List Float → ℕ → ℕ → ℕ → ℕ → Float → Float
plain_turn ring taps start first k i sum = add binary32 sum (mul binary32 (get_or ring ((start + first + 2 * k + i) % 256) nan) (get_or taps i nan))

pub window_plain : (ring taps : List Float) (start first k n : ℕ) → part_of (ring_at ring ((start + first) % 256)) taps k n ≡ turns (plain_turn ring taps start first k) n (of_bits binary32 0)
unfolding part_of turns
window_plain ring taps start first k zero = refl
window_plain ring taps start first k (suc n) =
    let e : start + first + (2 * k + n) ≡ start + first + 2 * k + n = omega arith in
    rw (window_plain ring taps start first k n, mod-add-mod (start + first) 256 (2 * k + n), e)
