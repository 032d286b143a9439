-- The peak by columns is the peak in the order of the places. Assumes nothing.
use Rattle.std.specs.Prelude.{◌≡◌, ◌⊎◌, List, get_or, Float}
use Rattle.std.proofs.Math.Path.{refl, ap, subst}
use Rattle.std.proofs.Common.{sym, ◌∙◌, inl, inr, ⊎_elim, le_trans, arith}
use Prim.Native.Nat.{ℕ, suc, ◌+◌, ◌*◌, ◌-◌, ◌≤◌, ◌<◌, max, zero}
use Rattle.std.specs.Float.Ieee.{nan, binary32, of_bits}
use Rattle.laws.specs.Places.{upto_at}
use Rattle.laws.specs.Ring.{lt_or_ge}
use Rattle.numbers.specs.Nearest.{Value}
use Rattle.numbers.proofs.NearestLaws.{same_place}
use Rattle.peak.specs.Peak.{top_of, peak_of}
use Rattle.peak.specs.Columns.{four_of, column_of, columns_of, quarter_of, highest_of}
use Rattle.peak.proofs.Sizes.{Unsigned, some, place, top_unsigned, top_place, Largest, largest_one, nought, in_order}

-- ---- the largest of four
record Four (n : ℕ → ℕ) (s k m : ℕ) : Type 0 where
  is : m ≡ max (max (max (max 0 (n k)) (n (s + k))) (n (2 * s + k))) (n (3 * s + k))

module _ (es : List Float) (s k : ℕ) (a : Unsigned (get_or es k nan)) (b : Unsigned (get_or es (s + k) nan)) (c : Unsigned (get_or es (2 * s + k) nan)) (d : Unsigned (get_or es (3 * s + k) nan)) (z : Float) (Z : Value binary32 z) (Z0 : place z ≡ 0) where
  abbrev t1 : Float
  t1 = top_of z (get_or es k nan)

  abbrev t2 : Float
  t2 = top_of t1 (get_or es (s + k) nan)

  abbrev t3 : Float
  t3 = top_of t2 (get_or es (2 * s + k) nan)

  v1 : Value binary32 t1
  v1 = top_unsigned z (get_or es k nan) Z a

  v2 : Value binary32 t2
  v2 = top_unsigned t1 (get_or es (s + k) nan) v1 b

  v3 : Value binary32 t3
  v3 = top_unsigned t2 (get_or es (2 * s + k) nan) v2 c

  four_value : Value binary32 (four_of z es s k)
  four_value = top_unsigned t3 (get_or es (3 * s + k) nan) v3 d

  four_is : Four (λ i. place (get_or es i nan)) s k (place (four_of z es s k))
  four_is = record {
    is =
        top_place t3 (get_or es (3 * s + k) nan) v3 d
        ∙ ap (λ (m : ℕ). max m (place (get_or es (3 * s + k) nan))) (top_place t2 (get_or es (2 * s + k) nan) v2 c
        ∙ ap (λ (m : ℕ). max m (place (get_or es (2 * s + k) nan))) (top_place t1 (get_or es (s + k) nan) v1 b
        ∙ ap (λ (m : ℕ). max m (place (get_or es (s + k) nan))) (top_place z (get_or es k nan) Z a
        ∙ ap (λ (m : ℕ). max m (place (get_or es k nan))) Z0)));
  }

-- each of the four is at most it, and it is at most what all four are
four_upper : (n : ℕ → ℕ) (s k m : ℕ) → Four n s k m → (n k ≤ m) × (n (s + k) ≤ m) × (n (2 * s + k) ≤ m) × (n (3 * s + k) ≤ m)
four_upper n s k m F = let e = F.is in (omega arith, omega arith, omega arith, omega arith)

four_least : (n : ℕ → ℕ) (s k m b : ℕ) → Four n s k m → n k ≤ b → n (s + k) ≤ b → n (2 * s + k) ≤ b → n (3 * s + k) ≤ b → m ≤ b
four_least n s k m b F w x y z = let e = F.is in omega arith

-- a place among 4 * s is one of four in its column
four_places : (s i : ℕ) → i < 4 * s → (j : ℕ) × (j < s) × ((i ≡ j) ⊎ ((i ≡ s + j) ⊎ ((i ≡ 2 * s + j) ⊎ (i ≡ 3 * s + j))))
four_places s i h =
    ⊎_elim (λ l. (i, l, inl refl))
    (λ g. ⊎_elim (λ l. (i - s, omega arith, inr (inl (omega arith))))
    (λ g2. ⊎_elim (λ l. (i - 2 * s, omega arith, inr (inr (inl (omega arith)))))
    (λ g3. (i - 3 * s, omega arith, inr (inr (inr (omega arith)))))
    (lt_or_ge i (3 * s)))
    (lt_or_ge i (2 * s)))
    (lt_or_ge i s)

-- so columns of four hold what all 4 * s places do
columns_largest : (n c : ℕ → ℕ) (s m : ℕ) → ((k : ℕ) → k < s → Four n s k (c k)) → Largest c s m → Largest n (4 * s) m
columns_largest n c s m F L = record {
  upper = λ i h. let (j, l, w) = four_places s i h in le_trans (within j l i w) (L.upper j l);
  least = λ b g. L.least b (λ k l. four_least n s k (c k) b (F k l) (g k (omega arith)) (g (s + k) (omega arith)) (g (2 * s + k) (omega arith)) (g (3 * s + k) (omega arith)));
}
  where
    within : (j : ℕ) → j < s → (i : ℕ) → (i ≡ j) ⊎ ((i ≡ s + j) ⊎ ((i ≡ 2 * s + j) ⊎ (i ≡ 3 * s + j))) → n i ≤ c j
    within j l i (inl e) = subst (λ (z : ℕ). n z ≤ c j) (sym e) (four_upper n s j (c j) (F j l)).0
    within j l i (inr (inl e)) = subst (λ (z : ℕ). n z ≤ c j) (sym e) (four_upper n s j (c j) (F j l)).1
    within j l i (inr (inr (inl e))) = subst (λ (z : ℕ). n z ≤ c j) (sym e) (four_upper n s j (c j) (F j l)).2
    within j l i (inr (inr (inr e))) = subst (λ (z : ℕ). n z ≤ c j) (sym e) (four_upper n s j (c j) (F j l)).3

-- ---- the theorem
module _ (es : List Float) (S : (k : ℕ) → k < 64 → Unsigned (get_or es k nan)) where
  zero_place : place (of_bits binary32 0) ≡ 0
  unfolding of_bits
  zero_place = refl

  column_value : (k : ℕ) → k < 16 → Value binary32 (column_of es k)
  unfolding column_of
  column_value k l = four_value es 16 k (S k (omega arith)) (S (16 + k) (omega arith)) (S (32 + k) (omega arith)) (S (48 + k) (omega arith)) (of_bits binary32 0) (nought es S) zero_place

  column_four : (k : ℕ) → k < 16 → Four (λ i. place (get_or es i nan)) 16 k (place (column_of es k))
  unfolding column_of
  column_four k l = four_is es 16 k (S k (omega arith)) (S (16 + k) (omega arith)) (S (32 + k) (omega arith)) (S (48 + k) (omega arith)) (of_bits binary32 0) (nought es S) zero_place

  column_at : (k : ℕ) → k < 16 → get_or (columns_of es) k nan ≡ column_of es k
  unfolding columns_of
  column_at k l = upto_at (column_of es) 16 k nan l

  column_unsigned : (k : ℕ) → k < 16 → Unsigned (get_or (columns_of es) k nan)
  column_unsigned k l = subst Unsigned (sym (column_at k l)) (some (column_value k l))

  abbrev ps : List Float
  ps = columns_of es

  quarter_value : (k : ℕ) → k < 4 → Value binary32 (quarter_of ps k)
  unfolding quarter_of
  quarter_value k l = four_value ps 4 k (column_unsigned k (omega arith)) (column_unsigned (4 + k) (omega arith)) (column_unsigned (8 + k) (omega arith)) (column_unsigned (12 + k) (omega arith)) (of_bits binary32 0) (nought es S) zero_place

  quarter_four : (k : ℕ) → k < 4 → Four (λ i. place (get_or ps i nan)) 4 k (place (quarter_of ps k))
  unfolding quarter_of
  quarter_four k l = four_is ps 4 k (column_unsigned k (omega arith)) (column_unsigned (4 + k) (omega arith)) (column_unsigned (8 + k) (omega arith)) (column_unsigned (12 + k) (omega arith)) (of_bits binary32 0) (nought es S) zero_place

  -- the last four
  highest_value : Value binary32 (highest_of es)
  unfolding highest_of
  highest_value =
      let q = quarter_value in
      top_unsigned (top_of (quarter_of ps 0) (quarter_of ps 1)) (top_of (quarter_of ps 2) (quarter_of ps 3))
      (top_unsigned (quarter_of ps 0) (quarter_of ps 1) (q 0 (omega arith)) (some (q 1 (omega arith))))
      (some (top_unsigned (quarter_of ps 2) (quarter_of ps 3) (q 2 (omega arith)) (some (q 3 (omega arith)))))

  highest_place : place (highest_of es) ≡ max (max (place (quarter_of ps 0)) (place (quarter_of ps 1))) (max (place (quarter_of ps 2)) (place (quarter_of ps 3)))
  unfolding highest_of
  highest_place =
      let q = quarter_value in
      let a = top_unsigned (quarter_of ps 0) (quarter_of ps 1) (q 0 (omega arith)) (some (q 1 (omega arith))) in
      let b = top_unsigned (quarter_of ps 2) (quarter_of ps 3) (q 2 (omega arith)) (some (q 3 (omega arith))) in
      top_place (top_of (quarter_of ps 0) (quarter_of ps 1)) (top_of (quarter_of ps 2) (quarter_of ps 3)) a (some b)
      ∙ ap (λ (m : ℕ). max m (place (top_of (quarter_of ps 2) (quarter_of ps 3)))) (top_place (quarter_of ps 0) (quarter_of ps 1) (q 0 (omega arith)) (some (q 1 (omega arith))))
      ∙ ap (λ (m : ℕ). max (max (place (quarter_of ps 0)) (place (quarter_of ps 1))) m) (top_place (quarter_of ps 2) (quarter_of ps 3) (q 2 (omega arith)) (some (q 3 (omega arith))))

  last_four : Largest (λ k. place (quarter_of ps k)) 4 (place (highest_of es))
  last_four = record {
    upper = λ i h. upper i h;
    least = λ b g.
        let e = highest_place in
        let g0 = g 0 (omega arith) in
        let g1 = g 1 (omega arith) in
        let g2 = g 2 (omega arith) in
        let g3 = g 3 (omega arith) in
        omega arith;
  }
    where
      upper : (i : ℕ) → i < 4 → place (quarter_of ps i) ≤ place (highest_of es)
      upper zero h = let e = highest_place in omega arith
      upper (suc zero) h = let e = highest_place in omega arith
      upper (suc (suc zero)) h = let e = highest_place in omega arith
      upper (suc (suc (suc zero))) h = let e = highest_place in omega arith
      upper (suc (suc (suc (suc i)))) h = absurd (omega arith)

  pub highest_peak : highest_of es ≡ peak_of es
  unfolding peak_of
  highest_peak =
      let r = in_order es S 64 (omega arith) in
      let columns : Largest (λ k. place (get_or ps k nan)) 16 (place (highest_of es)) = columns_largest (λ k. place (get_or ps k nan)) (λ k. place (quarter_of ps k)) 4 (place (highest_of es)) quarter_four last_four in
      let by_column : Largest (λ k. place (column_of es k)) 16 (place (highest_of es)) = moved columns in
      let all = columns_largest (λ k. place (get_or es k nan)) (λ k. place (column_of es k)) 16 (place (highest_of es)) column_four by_column in
      same_place binary32 (highest_of es) _ highest_value r.0 (largest_one (λ k. place (get_or es k nan)) 64 _ _ all r.1)
    where
      moved : Largest (λ k. place (get_or ps k nan)) 16 (place (highest_of es)) → Largest (λ k. place (column_of es k)) 16 (place (highest_of es))
      moved L = record {
        upper = λ i h. subst (λ (z : Float). place z ≤ place (highest_of es)) (column_at i h) (L.upper i h);
        least = λ b g. L.least b (λ i h. subst (λ (z : Float). place z ≤ b) (sym (column_at i h)) (g i h));
      }

-- what the code makes of its calls
pub highest_of_lem : (es ps : List Float) (a b c d low high r : Float) → ps ≡ columns_of es → a ≡ quarter_of ps 0 → b ≡ quarter_of ps 1 → c ≡ quarter_of ps 2 → d ≡ quarter_of ps 3
    → low ≡ top_of a b → high ≡ top_of c d → r ≡ top_of low high → r ≡ highest_of es
unfolding highest_of
highest_of_lem es ps a b c d low high r p ea eb ec ed el eh er = rw (er, el, eh, ea, eb, ec, ed, p)
