-- A whole number q that is nearest to an exact number, in steps of U: what that says of every other multiple of U and of what lies below. The exact number is known by two tests, of what is at most it and of what is at least it.
-- Assumes nothing.
use Rattle.std.specs.Prelude.{◌≡◌, ℕ, zero, suc, ◌+◌, ◌*◌, ◌%◌, ◌<◌, ◌≤◌, ◌⊎◌, ◌≢◌, refl}
use Rattle.std.proofs.Common.{sym, ap, ◌∙◌, subst, inl, inr, le_of_eq, le_of_lt, not-le_of_lt, mul-le-mul_right, le_of_mul-le-mul_right, eq-or-lt_of_le, arith}
use Prim.Native.Nat.{compare, Ordering}
use Rattle.std.specs.Float.Ieee.{nearest}
use Rattle.patterns.specs.Shift.{Cmp, cmp}

module _ (Lo Hi : ℕ → Type 0) where
  -- q is nearest: half a step less is at most the exact number, half a step more is at least it, and where one of the two is the number, q is even
  pub record Near (U q : ℕ) : Type 0 where
    pub under : (r : ℕ) → q ≡ suc r → Lo ((2 * r + 1) * U)
    pub over : Hi ((2 * q + 1) * U)
    pub tie_under : (r : ℕ) → q ≡ suc r → Hi ((2 * r + 1) * U) → q % 2 ≡ 0
    pub tie_over : Lo ((2 * q + 1) * U) → q % 2 ≡ 0

module _ (Lo Hi : ℕ → Type 0) (down : (s t : ℕ) → s ≤ t → Lo t → Lo s) (up : (s t : ℕ) → s ≤ t → Hi s → Hi t) (meet : (s t : ℕ) → Lo s → Hi t → s ≤ t) where
  -- ---- `nearest` is
  module _ (U w a b : ℕ) (P : 0 < U) (whole : Lo (2 * w * U)) (past : Hi ((2 * w + 2) * U))
      (lo→ : b ≤ a → Lo ((2 * w + 1) * U)) (→lo : Lo ((2 * w + 1) * U) → b ≤ a) (hi→ : a ≤ b → Hi ((2 * w + 1) * U)) (→hi : Hi ((2 * w + 1) * U) → a ≤ b) where
    less : (r : ℕ) → w ≡ suc r → (2 * r + 1) * U ≤ 2 * w * U
    less r e = mul-le-mul_right U (go w r e)
      where
        go : (w r : ℕ) → w ≡ suc r → 2 * r + 1 ≤ 2 * w
        go w r e = omega arith

    no_less : (r : ℕ) → w ≡ suc r → Hi ((2 * r + 1) * U) → ⊥
    no_less r e h = clash w r U e P (meet (2 * w * U) ((2 * r + 1) * U) whole h)
      where
        clash : (w r U : ℕ) → w ≡ suc r → 0 < U → 2 * w * U ≤ (2 * r + 1) * U → ⊥
        clash w r U e P h = let k : 2 * w ≤ 2 * r + 1 = le_of_mul-le-mul_right h P in omega arith

    -- the three outcomes: w below the half, on it, and past it
    stays : a < b → Near Lo Hi U w
    stays l = record {
      under = λ r e. down ((2 * r + 1) * U) (2 * w * U) (less r e) whole;
      over = hi→ (le_of_lt l);
      tie_under = λ r e h. absurd (no_less r e h);
      tie_over = λ h. absurd (not-le_of_lt l (→lo h));
    }

    moves : b ≤ a → (Hi ((2 * w + 1) * U) → suc w % 2 ≡ 0) → Near Lo Hi U (suc w)
    moves l t = record {
      under = λ r e. subst (λ (z : ℕ). Lo ((2 * z + 1) * U)) (same r e) (lo→ l);
      over = up ((2 * w + 2) * U) ((2 * suc w + 1) * U) (mul-le-mul_right U (more w)) past;
      tie_under = λ r e h. t (subst (λ (z : ℕ). Hi ((2 * z + 1) * U)) (sym (same r e)) h);
      tie_over = λ h. absurd (clash w U P (meet ((2 * suc w + 1) * U) ((2 * w + 2) * U) h past));
    }
      where
        same : (r : ℕ) → suc w ≡ suc r → w ≡ r
        same r e = omega arith

        more : (w : ℕ) → 2 * w + 2 ≤ 2 * suc w + 1
        more w = omega arith

        clash : (w U : ℕ) → 0 < U → (2 * suc w + 1) * U ≤ (2 * w + 2) * U → ⊥
        clash w U P h = let k : 2 * suc w + 1 ≤ 2 * w + 2 = le_of_mul-le-mul_right h P in omega arith

    tied : a ≡ b → Near Lo Hi U (w + w % 2)
    tied e = go (w % 2) refl (small w)
      where
        small : (w : ℕ) → w % 2 < 2
        small w = omega arith

        none : (w : ℕ) → w + 0 ≡ w
        none w = omega arith

        one : (w : ℕ) → w + 1 ≡ suc w
        one w = omega arith

        next_even : (w : ℕ) → w % 2 ≡ 1 → suc w % 2 ≡ 0
        next_even w e = omega arith

        go : (m : ℕ) → w % 2 ≡ m → m < 2 → Near Lo Hi U (w + m)
        go zero h l = subst (Near Lo Hi U) (sym (none w)) (record {
          under = λ r g. down ((2 * r + 1) * U) (2 * w * U) (less r g) whole;
          over = hi→ (le_of_eq e);
          tie_under = λ r g k. h;
          tie_over = λ k. h;
        })
        go (suc zero) h l = subst (Near Lo Hi U) (sym (one w)) (moves (le_of_eq (sym e)) (λ _. next_even w h))
        go (suc (suc m)) h l = absurd (omega arith)

    pub nearest_near : Near Lo Hi U (nearest w (compare a b))
    nearest_near = go (compare a b) (cmp a b)
      where
        go : (o : Ordering) → Cmp o a b → Near Lo Hi U (nearest w o)
        go Ordering.lt l = stays l
        go Ordering.eq e = tied e
        go Ordering.gt l = moves (le_of_lt l) (λ h. absurd (not-le_of_lt l (→hi h)))

  -- ---- what being nearest says of another multiple of U
  module _ (U q : ℕ) (P : 0 < U) (N : Near Lo Hi U q) where
    pub multiple_below : (w : ℕ) → w < q → Lo (w * U + q * U)
    multiple_below w h = go q refl
      where
        sum : (w r : ℕ) → w < suc r → w * U + suc r * U ≤ (2 * r + 1) * U
        sum w r l = let k : w * U ≤ r * U = mul-le-mul_right U (fewer w r l) in omega arith
          where
            fewer : (w r : ℕ) → w < suc r → w ≤ r
            fewer w r l = omega arith

        go : (n : ℕ) → q ≡ n → Lo (w * U + q * U)
        go zero e = absurd (none w q e h)
          where
            none : (w q : ℕ) → q ≡ 0 → w < q → ⊥
            none w q e h = omega arith
        go (suc r) e =
            subst (λ (z : ℕ). Lo (w * U + z * U)) (sym e)
            (down (w * U + suc r * U) ((2 * r + 1) * U) (sum w r (subst (λ (z : ℕ). w < z) e h)) (N.under r e))

    pub multiple_above : (w : ℕ) → q < w → Hi (w * U + q * U)
    multiple_above w h = up ((2 * q + 1) * U) (w * U + q * U) (sum w q h) N.over
      where
        sum : (w q : ℕ) → q < w → (2 * q + 1) * U ≤ w * U + q * U
        sum w q l = let k : (q + 1) * U ≤ w * U = mul-le-mul_right U (more q w l) in omega arith
          where
            more : (q w : ℕ) → q < w → q + 1 ≤ w
            more q w l = omega arith

    -- one that is as near is odd, and q is even
    pub multiple_tie : (w : ℕ) → (w ≢ q) → Lo (w * U + q * U) → Hi (w * U + q * U) → (q % 2 ≡ 0) × (w % 2 ≡ 1)
    multiple_tie w n l h = either (unlike w q n)
      where
        unlike : (w q : ℕ) → (w ≢ q) → (w < q) ⊎ (q < w)
        unlike w q n = go (compare w q) (cmp w q)
          where
            go : (o : Ordering) → Cmp o w q → (w < q) ⊎ (q < w)
            go Ordering.lt a = inl a
            go Ordering.eq a = absurd (n a)
            go Ordering.gt a = inr a

        odd_below : (w q : ℕ) → q ≡ suc w → q % 2 ≡ 0 → w % 2 ≡ 1
        odd_below w q e h = omega arith

        odd_above : (w q : ℕ) → w ≡ suc q → q % 2 ≡ 0 → w % 2 ≡ 1
        odd_above w q e h = omega arith

        sums : (w q : ℕ) → w ≡ suc q → w * U + q * U ≡ (2 * q + 1) * U
        sums w q e = ap (λ (z : ℕ). z * U + q * U) e ∙ join q
          where
            join : (q : ℕ) → suc q * U + q * U ≡ (2 * q + 1) * U
            join q = omega arith

        sums' : (w q : ℕ) → q ≡ suc w → w * U + q * U ≡ (2 * w + 1) * U
        sums' w q e = ap (λ (z : ℕ). w * U + z * U) e ∙ join w
          where
            join : (q : ℕ) → q * U + suc q * U ≡ (2 * q + 1) * U
            join q = omega arith

        either : (w < q) ⊎ (q < w) → (q % 2 ≡ 0) × (w % 2 ≡ 1)
        either (inl a) = go q refl
          where
            step : (w r : ℕ) → w < suc r → (2 * r + 1) * U ≤ w * U + suc r * U → r ≡ w
            step w r a g = let k : r * U ≤ w * U = omega arith in let k' : r ≤ w = le_of_mul-le-mul_right k P in omega arith

            go : (m : ℕ) → q ≡ m → (q % 2 ≡ 0) × (w % 2 ≡ 1)
            go zero e = absurd (none w q e a)
              where
                none : (w q : ℕ) → q ≡ 0 → w < q → ⊥
                none w q e h = omega arith
            go (suc r) e =
                let m = meet ((2 * r + 1) * U) (w * U + q * U) (N.under r e) h in
                let s : r ≡ w = step w r (subst (λ (z : ℕ). w < z) e a) (subst (λ (z : ℕ). (2 * r + 1) * U ≤ w * U + z * U) e m) in
                let e' : q ≡ suc w = e ∙ ap suc s in
                let v = N.tie_under w e' (subst Hi (sums' w q e') h) in
                (v, odd_below w q e' v)
        either (inr a) =
            let m = meet (w * U + q * U) ((2 * q + 1) * U) l N.over in
            let s : w ≡ suc q = step w q a m in
            let v = N.tie_over (subst Lo (sums w q s) l) in
            (v, odd_above w q s v)
          where
            step : (w q : ℕ) → q < w → w * U + q * U ≤ (2 * q + 1) * U → w ≡ suc q
            step w q a g = let k : w * U ≤ (q + 1) * U = omega arith in let k' : w ≤ q + 1 = le_of_mul-le-mul_right k P in omega arith

    -- ---- and of what lies below H * U, where q is at least H and so is the exact number
    module _ (H v : ℕ) (G : H ≤ q) (high : Lo (2 * H * U)) (L : v < H * U) where
      pub low_below : Lo (v + q * U)
      low_below = go (eq-or-lt_of_le G)
        where
          level : (q : ℕ) → H ≡ q → v + q * U ≤ 2 * H * U
          level q e = subst (λ (z : ℕ). v + z * U ≤ 2 * H * U) e sum
            where
              sum : v + H * U ≤ 2 * H * U
              sum = let l = L in omega arith

          more : (r : ℕ) → H ≤ r → v + suc r * U ≤ (2 * r + 1) * U
          more r h = let k : H * U ≤ r * U = mul-le-mul_right U h in let l = L in omega arith

          go : (H ≡ q) ⊎ (H < q) → Lo (v + q * U)
          go (inl e) = down (v + q * U) (2 * H * U) (level q e) high
          go (inr h) = from q refl h
            where
              from : (n : ℕ) → q ≡ n → H < n → Lo (v + q * U)
              from zero e h = absurd (omega arith)
              from (suc r) e h = subst (λ (z : ℕ). Lo (v + z * U)) (sym e) (down (v + suc r * U) ((2 * r + 1) * U) (more r (fewer H r h)) (N.under r e))
                where
                  fewer : (H r : ℕ) → H < suc r → H ≤ r
                  fewer H r h = omega arith

      pub low_not_above : q * U < v → ⊥
      low_not_above h = let k : H * U ≤ q * U = mul-le-mul_right U G in clash (H * U) (q * U) v k L h
        where
          clash : (a b c : ℕ) → a ≤ b → c < a → b < c → ⊥
          clash a b c x y z = omega arith

      pub low_no_tie : Hi (v + q * U) → ⊥
      low_no_tie h = go (eq-or-lt_of_le G)
        where
          level : (q : ℕ) → H ≡ q → 2 * H * U ≤ v + q * U → ⊥
          level q e g = clash (subst (λ (z : ℕ). 2 * H * U ≤ v + z * U) (sym e) g)
            where
              clash : 2 * H * U ≤ v + H * U → ⊥
              clash g = let l = L in omega arith

          more : (r : ℕ) → H ≤ r → (2 * r + 1) * U ≤ v + suc r * U → ⊥
          more r k g = let m : H * U ≤ r * U = mul-le-mul_right U k in let l = L in omega arith

          go : (H ≡ q) ⊎ (H < q) → ⊥
          go (inl e) = level q e (meet (2 * H * U) (v + q * U) high h)
          go (inr k) = from q refl k
            where
              from : (n : ℕ) → q ≡ n → H < n → ⊥
              from zero e k = omega arith
              from (suc r) e k = more r (fewer H r k) (subst (λ (z : ℕ). (2 * r + 1) * U ≤ v + z * U) e (meet ((2 * r + 1) * U) (v + q * U) (N.under r e) h))
                where
                  fewer : (H r : ℕ) → H < suc r → H ≤ r
                  fewer H r h = omega arith
