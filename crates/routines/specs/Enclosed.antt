-- The narrowed root of s where two values enclose it by their squares and narrow to one: that one. So the hypotenuse's code may guess a root and test it. Assumes nothing.
use Rattle.std.specs.Prelude.{◌≡◌, ℕ, zero, suc, ◌*◌, ◌<◌, ◌≤◌, true, false, ◌&&◌, T, ◌==◌, nat_lt, Float}
use Rattle.std.proofs.Math.Path.{refl}
use Rattle.std.proofs.Common.{sym, ap, ◌∙◌, subst, le_of_lt, le_antisymm, mul-le-mul_right, le_of_mul-le-mul_right, mul-pos, zero-lt-suc, arith, true≢false, eqb→eq, ltb→lt, lt→ltb}
use Rattle.std.specs.Float.{nan, inf, fin, Format, binary32, binary64}
use Rattle.std.specs.Float.Ieee.{of_bits, up, down, round, mul, lt, le, eq, fits}
use Rattle.std.specs.Float.Ieee.Fits.{and_l, and_r, down_pos}
use Rattle.std.specs.Float.Ieee.Order.{round_mono}
use Rattle.std.specs.Float.Ieee.Scale.{round_same}
use Rattle.std.specs.Float.Ieee.Positive.{num, den, den_pos, positive}
use Rattle.laws.specs.FloatOrder.{nonneg, le→cross, lt_clash}
use Rattle.laws.specs.FloatRounding.{signed, round_signed}
use Rattle.laws.specs.FloatValues.{round_least, round_most, id_nonneg}
use Rattle.numbers.specs.Numbers.{convert}
use Rattle.numbers.specs.Root.{round_root, sqrt_of}
use Rattle.numbers.specs.RootOrder.{root_above, root_below}
use Rattle.numbers.proofs.Faithful.{sqrt_is}
use Rattle.routines.specs.Hypotenuse.{encloses_of}
use Rattle.routines.specs.Squares.{square_is, not_under, convert_up, convert_fits, sqrt_up}

-- ---- narrowing keeps the order, infinities included
inf_most : (z : Float) → T (signed false z) → T (le z (inf false))
unfolding le
inf_most nan u = absurd u
inf_most (inf true) u = absurd u
inf_most (inf false) u = tt
inf_most (fin s m e) u = tt

convert_mono : (f : Format) (x y : Float) → T (signed false x) → T (signed false y) → T (le x y) → T (le (convert f x) (convert f y))
unfolding convert
convert_mono f nan y u v h = absurd u
convert_mono f (inf true) y u v h = absurd u
convert_mono f (inf false) nan u v h = absurd v
convert_mono f (inf false) (inf true) u v h = absurd v
convert_mono f (inf false) (inf false) u v h = h
convert_mono f (inf false) (fin t n d) u v h = absurd (unfold le in h)
convert_mono f (fin true m e) y u v h = absurd u
convert_mono f (fin false m e) nan u v h = absurd v
convert_mono f (fin false m e) (inf true) u v h = absurd v
convert_mono f (fin false m e) (inf false) u v h = inf_most (round f false (m * up e) (down e)) (round_signed false f (m * up e) (down e))
convert_mono f (fin false m e) (fin true n d) u v h = absurd v
convert_mono f (fin false m e) (fin false n d) u v h = round_mono f (m * up e) (down e) (n * up d) (down d) (down_pos e) (down_pos d) (le→cross (fin false m e) (fin false n d) tt tt h)

-- ---- what lies between two that are equal is the same value
same_cross : (a a' b b' r r' : ℕ) → 0 < b' → a * b' ≡ b * a' → a * r' ≤ r * a' → r * b' ≤ b * r' → r * a' ≡ a * r'
same_cross a a' b b' r r' B e h k =
    let u : r * b' * a' ≤ b * r' * a' = mul-le-mul_right a' k in
    let v : a * b' * r' ≡ b * a' * r' = ap (λ (z : ℕ). z * r') e in
    le_antisymm (le_of_mul-le-mul_right {m = r * a'} {n = a * r'} {k = b'} (omega arith) B) h

squeeze : (f : Format) (x r y : Float) → T (signed false x) → T (signed false r) → T (signed false y) → T (fits f x) → T (fits f r) → T (le x r) → T (le r y) → eq x y ≡ true → x ≡ r
unfolding eq
squeeze f nan r y u v w F G h k e = absurd u
squeeze f (inf true) r y u v w F G h k e = absurd u
squeeze f (inf false) nan y u v w F G h k e = absurd v
squeeze f (inf false) (inf true) y u v w F G h k e = absurd v
squeeze f (inf false) (inf false) y u v w F G h k e = refl
squeeze f (inf false) (fin t n d) y u v w F G h k e = absurd (unfold le in h)
squeeze f (fin true m e) r y u v w F G h k q = absurd u
squeeze f (fin false m e) r nan u v w F G h k q = absurd w
squeeze f (fin false m e) r (inf t) u v w F G h k q = absurd (true≢false (sym q))
squeeze f (fin false m e) nan (fin t n d) u v w F G h k q = absurd v
squeeze f (fin false m e) (inf true) (fin t n d) u v w F G h k q = absurd v
squeeze f (fin false m e) (inf false) (fin t n d) u v w F G h k q = absurd (unfold le in k)
squeeze f (fin false m e) (fin true l c) (fin t n d) u v w F G h k q = absurd v
squeeze f (fin false m e) (fin false l c) (fin true n d) u v w F G h k q = absurd w
squeeze f (fin false m e) (fin false l c) (fin false n d) u v w F G h k q =
    let x = fin false m e in
    let r = fin false l c in
    let y = fin false n d in
    let t : num x * den y ≡ num y * den x = eqb→eq (m * up e * down d) (n * up d * down e) (and_l (m * up e * down d == n * up d * down e) _ (subst T (sym q) tt)) in
    sym (id_nonneg f x tt F)
    ∙ sym (round_same f false (num r) (den r) (num x) (den x) (den_pos r) (den_pos x) (same_cross (num x) (den x) (num y) (den y) (num r) (den r) (den_pos y) t (le→cross x r tt tt h) (le→cross r y tt tt k)))
    ∙ id_nonneg f r tt G

-- ---- what the tests say
above_zero : (x : Float) → T (lt (of_bits binary64 0) x) → T (signed false x)
unfolding lt of_bits
above_zero nan h = absurd h
above_zero (inf true) h = absurd h
above_zero (inf false) h = tt
above_zero (fin true m e) h = absurd h
above_zero (fin false m e) h = tt

no_infinity : (s : Float) → T (lt (inf false) s) → ⊥
unfolding lt
no_infinity nan h = h
no_infinity (inf s) h = h
no_infinity (fin s m e) h = h

low_finite : (f : Format) (low s : Float) → T (signed false low) → T (lt (mul f low low) s) → T (nonneg low)
low_finite f nan s u h = absurd u
low_finite f (inf true) s u h = absurd u
low_finite f (inf false) s u h = absurd (no_infinity s (subst (λ (z : Float). T (lt z s)) (go f) h))
  where
    go : (f : Format) → mul f (inf false) (inf false) ≡ inf false
    go f = unfold mul in refl
low_finite f (fin true m e) s u h = absurd u
low_finite f (fin false m e) s u h = tt

positive_above : (x s y : Float) → T (signed false x) → T (lt x s) → T (lt s y) → T (positive s)
unfolding lt
positive_above nan s y u h k = absurd u
positive_above (inf true) s y u h k = absurd u
positive_above (inf false) s y u h k = absurd (no_infinity s h)
positive_above (fin true m e) s y u h k = absurd u
positive_above (fin false m e) nan y u h k = absurd h
positive_above (fin false m e) (inf true) y u h k = absurd h
positive_above (fin false m e) (inf false) y u h k = absurd (no_infinity y k)
positive_above (fin false m e) (fin true n d) y u h k = absurd h
positive_above (fin false m e) (fin false zero d) y u h k = absurd (none (m * up e * down d) (up d) (down e) h)
  where
    none : (a b c : ℕ) → T (nat_lt a (0 * b * c)) → ⊥
    none a b c t = let l = ltb→lt a (0 * b * c) t in omega arith
positive_above (fin false m e) (fin false (suc n) d) y u h k = lt→ltb 0 (suc n) (zero-lt-suc n)

positive_nonneg : (s : Float) → T (positive s) → T (nonneg s)
positive_nonneg nan p = absurd p
positive_nonneg (inf t) p = absurd p
positive_nonneg (fin true m e) p = absurd p
positive_nonneg (fin false m e) p = tt

square_of : (f : Format) (x : Float) → T (nonneg x) → mul f x x ≡ round f false (num x * num x) (den x * den x)
square_of f nan p = absurd p
square_of f (inf s) p = absurd p
square_of f (fin s m e) p = square_is f s m e

-- ---- the root by the two squares
module _ (f : Format) (x s : Float) (X : T (nonneg x)) (S : T (positive s)) (F : T (fits f x)) (G : T (fits f s)) where
  abbrev sq : Float
  sq = round f false (num x * num x) (den x * den x)

  abbrev N : T (nonneg s)
  N = positive_nonneg s S

  sq_pos : 0 < den x * den x
  sq_pos = mul-pos (den_pos x) (den_pos x)

  root_over : T (lt (mul f x x) s) → T (le x (sqrt_of f s))
  root_over h =
      let l : T (lt sq s) = subst (λ (z : Float). T (lt z s)) (square_of f x X) h in
      let k = not_under (num x * num x * den s) (num s * (den x * den x)) (λ m. lt_clash sq s l (round_least f (num x * num x) (den x * den x) s sq_pos N G m)) in
      subst (λ (z : Float). T (le x z)) (sym (sqrt_is f s S))
      (subst (λ (z : Float). T (le z (round_root f (num s) (den s)))) (id_nonneg f x X F) (root_above f (num x) (den x) (num s) (den s) (den_pos x) (den_pos s) (le_of_lt k)))

  root_under : T (lt s (mul f x x)) → T (le (sqrt_of f s) x)
  root_under h =
      let l : T (lt s sq) = subst (λ (z : Float). T (lt s z)) (square_of f x X) h in
      let k = not_under (num s * (den x * den x)) (num x * num x * den s) (λ m. lt_clash s sq l (round_most f (num x * num x) (den x * den x) s sq_pos N G m)) in
      subst (λ (z : Float). T (le z x)) (sym (sqrt_is f s S))
      (subst (λ (z : Float). T (le (round_root f (num s) (den s)) z)) (id_nonneg f x X F) (root_below f (num x) (den x) (num s) (den s) (den_pos x) (den_pos s) (le_of_lt k)))

under_high : (f : Format) (s high : Float) → T (signed false high) → T (positive s) → T (fits f high) → T (fits f s) → T (lt s (mul f high high)) → T (le (sqrt_of f s) high)
under_high f s nan u S F G h = absurd u
under_high f s (inf true) u S F G h = absurd u
under_high f s (inf false) u S F G h = inf_most (sqrt_of f s) (sqrt_up f s (positive_nonneg s S))
under_high f s (fin true m e) u S F G h = absurd u
under_high f s (fin false m e) u S F G h = root_under f (fin false m e) s tt S F G h

square_signed : (f : Format) (x : Float) → T (nonneg x) → T (signed false (mul f x x))
square_signed f x p = subst (λ (z : Float). T (signed false z)) (sym (square_of f x p)) (round_signed false f _ _)

pub enclosed : (low s high v w : Float) → T (fits binary64 low) → T (fits binary64 s) → T (fits binary64 high) → encloses_of low s high ≡ true → v ≡ convert binary32 low → w ≡ convert binary32 high → eq v w ≡ true → v ≡ convert binary32 (sqrt_of binary64 s)
enclosed low s high v w F G H t ev ew q =
    let a = lt (of_bits binary64 0) low in
    let b = lt (of_bits binary64 0) high in
    let c = lt (mul binary64 low low) s in
    let d = lt s (mul binary64 high high) in
    let t1 : T (a && b && c && d) = subst T (sym t) tt in
    let t2 : T (a && b && c) = and_l (a && b && c) d t1 in
    let D : T d = and_r (a && b && c) d t1 in
    let C : T c = and_r (a && b) c t2 in
    let A = above_zero low (and_l a b (and_l (a && b) c t2)) in
    let B = above_zero high (and_r a b (and_l (a && b) c t2)) in
    let L = low_finite binary64 low s A C in
    let S = positive_above (mul binary64 low low) s (mul binary64 high high) (square_signed binary64 low L) C D in
    let Q = sqrt_up binary64 s (positive_nonneg s S) in
    let r = sqrt_of binary64 s in
    ev ∙ squeeze binary32 (convert binary32 low) (convert binary32 r) (convert binary32 high)
    (convert_up binary32 low A) (convert_up binary32 r Q) (convert_up binary32 high B)
    (convert_fits binary32 low A) (convert_fits binary32 r Q)
    (convert_mono binary32 low r A Q (root_over binary64 low s L S F G C))
    (convert_mono binary32 r high Q B (under_high binary64 s high B S H G D))
    (ap (λ (z : Float). eq z (convert binary32 high)) (sym ev) ∙ ap (eq v) (sym ew) ∙ q)
