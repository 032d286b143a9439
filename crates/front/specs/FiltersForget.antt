-- Forgetting, in both filters: rows of samples that agree on the latest (c + 2) d - 2 make the same values there, through decimator and resampler from fresh, whatever came before. Assumes nothing.
use Rattle.std.specs.Prelude.{◌≡◌, ◌⊎◌, List, [], ◌∷◌, length, set, Float, Option, Some, None}
use Rattle.std.proofs.Math.Path.{refl, sym, ap, subst}
use Rattle.std.proofs.Common.{◌∙◌, inl, inr, le_trans, eq-zero-or-pos, add-mul, one-mul, add-one, arith, lit≤}
use Rattle.std.proofs.Math.Logic.{⊎_elim}
use Prim.Native.Nat.{ℕ, zero, suc, ◌+◌, ◌-◌, ◌*◌, ◌%◌, ◌≤◌, ◌<◌}
use Rattle.std.proofs.Math.Nat.{add-mul-mod_self_right}
use Rattle.std.proofs.Math.ListN.{get_or}
use Rattle.laws.specs.Places.{le_or}
use Rattle.complex.specs.declared.Complex32.{Complex32}
use Rattle.decimator.specs.Decimator.{outputs_of}
use Rattle.decimator.specs.Decimator.{fresh_of as fresh_decimator}
use Rattle.decimator.proofs.Values.{outputs_length, output_sounds, output_quiet, outputs_forget}
use Rattle.resampler.specs.declared.pass.Resampler.{Resampler}
use Rattle.resampler.specs.declared.pass.Delivery.{Delivery}
use Rattle.resampler.specs.declared.dimensions.Dimensions.{Dimensions}
use Rattle.resampler.specs.Dimensions.{fresh_of}
use Rattle.resampler.specs.Admitted.{Sized}
use Rattle.resampler.specs.Pass.{delivered_of, pushed_of, passed_of, resampled_of, values_of}
use Rattle.resampler.specs.Forgets.{delivered_same, next_same, Planes, planes_other, planes_more}
use Rattle.front.specs.Resample.{ResamplerState, resample_state, resample_values, resample_row, filters_row}

-- ---- two resamplers, alike but for what came before the latest k values
pub record Like (k : ℕ) (h g : ResamplerState) : Type 0 where
  pub same : h.resampler ≡ g.resampler
  pub planes : Planes h.resampler.arm h.resampler.write k h.real h.imaginary g.real g.imaginary

module _ (table : List Float) (k : ℕ) (h g : ResamplerState) (l : Like k h g) (v w : Complex32) where
  -- both resamplers go on alike
  go_on : (xs ys us vs : List Float) → (passed_of (pushed_of h.resampler) (delivered_of (pushed_of h.resampler) table xs ys)).resampler ≡ (passed_of (pushed_of g.resampler) (delivered_of (pushed_of g.resampler) table us vs)).resampler
  go_on xs ys us vs =
      (λ i. record { arm = h.resampler.arm; half = h.resampler.half; step = h.resampler.step; index = h.resampler.index + 1; next = next_same (pushed_of h.resampler) table xs ys table us vs i; write = (h.resampler.write + 1) % (h.resampler.arm + 16) })
      ∙ ap (λ (s : Resampler). (passed_of (pushed_of s) (delivered_of (pushed_of s) table us vs)).resampler) l.same

  -- g's planes after its value, at h's place
  abbrev after_g : Resampler → (Complex32 → Float) → List Float → List Float
  after_g s part plane = set plane s.write (part w)

  abbrev real : Complex32 → Float
  real z = z.real

  abbrev imaginary : Complex32 → Float
  imaginary z = z.imaginary

  -- both rings after their values, g's as if it stood where s does
  abbrev Rings : Resampler → ℕ → Type 0
  Rings s n =
      Planes h.resampler.arm ((h.resampler.write + 1) % (h.resampler.arm + 16)) n
      (set h.real h.resampler.write v.real) (set h.imaginary h.resampler.write v.imaginary)
      (after_g s real g.real) (after_g s imaginary g.imaginary)

  like_from : (n : ℕ) → Rings h.resampler n
      → Like n (resample_state table h (Some v)) (resample_state table g (Some w))
  unfolding resample_state resampled_of
  like_from n q = record {
    same = go_on (set h.real h.resampler.write v.real) (set h.imaginary h.resampler.write v.imaginary) (after_g g.resampler real g.real) (after_g g.resampler imaginary g.imaginary);
    planes = subst (λ (s : Resampler). Rings s n) l.same q;
  }

  pub like_other : Like 0 (resample_state table h (Some v)) (resample_state table g (Some w))
  like_other = like_from 0 (planes_other h.resampler.arm h.resampler.write k h.real h.imaginary g.real g.imaginary l.planes v.real v.imaginary w.real w.imaginary)

  module _ (few : k < h.resampler.arm + 16) (e : v ≡ w) where
    more : Rings h.resampler (k + 1)
    more = planes_more h.resampler.arm h.resampler.write k h.real h.imaginary g.real g.imaginary l.planes v.real v.imaginary w.real w.imaginary few (ap real e) (ap imaginary e)

    pub like_more : Like (k + 1) (resample_state table h (Some v)) (resample_state table g (Some w))
    like_more = like_from (k + 1) more

    -- with the whole window alike, the outputs are the same
    pub values_same : k + 1 ≡ h.resampler.arm → resample_values table h (Some v) ≡ resample_values table g (Some w)
    unfolding resample_values resampled_of
    values_same full =
        let q = pushed_of h.resampler in
        let p : Rings h.resampler h.resampler.arm = subst (λ (n : ℕ). Rings h.resampler n) full more in
        ap (λ (d : Delivery). values_of (passed_of q d)) (delivered_same q table _ _ _ _ p.real_same p.imaginary_same)
        ∙ ap (λ (s : Resampler). values_of (passed_of (pushed_of s) (delivered_of (pushed_of s) table (after_g s real g.real) (after_g s imaginary g.imaginary)))) l.same

-- ---- along a row
unfoldable after : List Float → ResamplerState → List (Option Complex32) → ℕ → ResamplerState
after table h os zero = h
after table h os (suc n) = resample_state table (after table h os n) (get_or os n None)

after_cons : (table : List Float) (h : ResamplerState) (o : Option Complex32) (os : List (Option Complex32)) (n : ℕ) → after table h (o ∷ os) (suc n) ≡ after table (resample_state table h o) os n
unfolding after
after_cons table h o os zero = refl
after_cons table h o os (suc n) = ap (λ (g : ResamplerState). resample_state table g (get_or os n None)) (after_cons table h o os n)

row_at : (table : List Float) (h : ResamplerState) (os : List (Option Complex32)) (n : ℕ) → n < length os → get_or (resample_row table h os) n [] ≡ resample_values table (after table h os n) (get_or os n None)
unfolding resample_row after
row_at table h [] n l = absurd (omega arith)
row_at table h (o ∷ os) zero l = refl
row_at table h (o ∷ os) (suc n) l = row_at table (resample_state table h o) os n (omega arith) ∙ ap (λ (g : ResamplerState). resample_values table g (get_or os n None)) (sym (after_cons table h o os n))

-- a row of a decimator by d: a value at every d-th place, and nothing between
pub record Paced (d : ℕ) (os : List (Option Complex32)) : Type 0 where
  pub sounds : (n : ℕ) → n < length os → (n + 1) % d ≡ 0 → (v : Complex32) × (get_or os n None ≡ Some v)
  pub quiet : (n : ℕ) → n < length os → ((n + 1) % d ≡ 0 → ⊥) → get_or os n None ≡ None

full_or_not : (n d : ℕ) → ((n + 1) % d ≡ 0) ⊎ ((n + 1) % d ≡ 0 → ⊥)
full_or_not n d = ⊎_elim (λ e. inl e) (λ p. inr (λ e. omega arith)) (eq-zero-or-pos ((n + 1) % d))

module _ (table : List Float) (h : ResamplerState) (d : ℕ) (os ps : List (Option Complex32)) (P : Paced d os) (Q : Paced d ps) (inside : h.resampler.write < h.resampler.arm + 16)
    (room_real : h.resampler.arm + 16 ≤ length h.real) (room_imaginary : h.resampler.arm + 16 ≤ length h.imaginary) where
  like_start : (k : ℕ) → Like k h h
  like_start k = record {
    same = refl;
    planes = record { inside = inside; room_xs = room_real; room_ys = room_imaginary; room_us = room_real; room_vs = room_imaginary; real_same = refl; imaginary_same = refl };
  }

  arm_kept : (n : ℕ) → (after table h os n).resampler.arm ≡ h.resampler.arm
  unfolding after
  arm_kept zero = refl
  arm_kept (suc n) = go (get_or os n None) ∙ arm_kept n
    where
      go : (o : Option Complex32) → (resample_state table (after table h os n) o).resampler.arm ≡ (after table h os n).resampler.arm
      go None = unfold resample_state in refl
      go (Some v) = unfold resample_state resampled_of in refl

  -- an entry with no value, in both
  quiet_step : (k : ℕ) (a b : ResamplerState) (o q : Option Complex32) → o ≡ None → q ≡ None → Like k a b → Like k (resample_state table a o) (resample_state table b q)
  unfolding resample_state
  quiet_step k a b o q e f l = subst (λ (z : Option Complex32). Like k (resample_state table a z) (resample_state table b q)) (sym e) (subst (λ (z : Option Complex32). Like k a (resample_state table b z)) (sym f) l)

  loud_step : (k : ℕ) (a b : ResamplerState) (o q : Option Complex32) (v w : Complex32) → o ≡ Some v → q ≡ Some w → Like k (resample_state table a (Some v)) (resample_state table b (Some w)) → Like k (resample_state table a o) (resample_state table b q)
  loud_step k a b o q v w e f l = subst (λ (z : Option Complex32). Like k (resample_state table a z) (resample_state table b q)) (sym e) (subst (λ (z : Option Complex32). Like k (resample_state table a (Some v)) (resample_state table b z)) (sym f) l)

  one_value : (o q : Option Complex32) (v w : Complex32) → o ≡ Some v → q ≡ Some w → o ≡ q → v ≡ w
  one_value o q v w e f s = cc

  values_none : (a : ResamplerState) → resample_values table a None ≡ []
  unfolding resample_values
  values_none a = refl

  -- d places back the row sounds too, or is quiet too
  pace : (i k n : ℕ) → n ≡ i + k * d → (i + 1) % d ≡ 0 → (n + 1) % d ≡ 0
  pace i k n e z = ap (λ (m : ℕ). m % d) (let g : n + 1 ≡ i + 1 + k * d = omega arith in g) ∙ add-mul-mod_self_right (i + 1) k d ∙ z

  -- what came before the last k values, d samples apart, does not matter
  like_at : (n : ℕ) → n ≤ length os → n ≤ length ps → 0 < d → (k : ℕ) → k ≤ h.resampler.arm → ((i : ℕ) → i < n → n ≤ i + k * d → get_or os i None ≡ get_or ps i None) → Like k (after table h os n) (after table h ps n)
  unfolding after
  like_at zero lo lp D k K same = like_start k
  like_at (suc n) lo lp D k K same =
      ⊎_elim
      (λ e.
      let o = P.sounds n (omega arith) e in
      let q = Q.sounds n (omega arith) e in
      loud_step k (after table h os n) (after table h ps n) (get_or os n None) (get_or ps n None) o.0 q.0 o.1 q.1
      (sounding k (like_at n (omega arith) (omega arith) D) o.0 q.0 o.1 q.1 K same))
      (λ e.
      quiet_step k (after table h os n) (after table h ps n) (get_or os n None) (get_or ps n None) (P.quiet n (omega arith) e) (Q.quiet n (omega arith) e)
      (like_at n (omega arith) (omega arith) D k K (λ i l m.
      ⊎_elim
      (λ f. same i (omega arith) f)
      (λ f. P.quiet i (omega arith) (λ z. e (pace i k n f z)) ∙ sym (Q.quiet i (omega arith) (λ z. e (pace i k n f z))))
      (le_or n (i + k * d) m))))
      (full_or_not n d)
    where
      sounding : (k : ℕ) → ((k : ℕ) → k ≤ h.resampler.arm → ((i : ℕ) → i < n → n ≤ i + k * d → get_or os i None ≡ get_or ps i None) → Like k (after table h os n) (after table h ps n))
          → (v w : Complex32) → get_or os n None ≡ Some v → get_or ps n None ≡ Some w → k ≤ h.resampler.arm → ((i : ℕ) → i < suc n → suc n ≤ i + k * d → get_or os i None ≡ get_or ps i None)
          → Like k (resample_state table (after table h os n) (Some v)) (resample_state table (after table h ps n) (Some w))
      sounding zero ih v w e f K same = like_other table 0 (after table h os n) (after table h ps n) (ih 0 K (λ i l m. absurd (omega arith))) v w
      sounding (suc k) ih v w e f K same =
          subst (λ (j : ℕ). Like j (resample_state table (after table h os n) (Some v)) (resample_state table (after table h ps n) (Some w))) (add-one k)
          (like_more table k (after table h os n) (after table h ps n) (ih k (omega arith) (λ i l m. same i (omega arith) (omega arith))) v w
          (let a = arm_kept n in omega arith) (one_value (get_or os n None) (get_or ps n None) v w e f (same n (omega arith) (omega arith))))

  -- THE LAW: the outputs at a place turn on the last c values there
  pub row_forgets : (n : ℕ) → n < length os → n < length ps → 0 < d → 0 < h.resampler.arm → ((i : ℕ) → i ≤ n → n ≤ i + (h.resampler.arm - 1) * d → get_or os i None ≡ get_or ps i None)
      → get_or (resample_row table h os) n [] ≡ get_or (resample_row table h ps) n []
  row_forgets n lo lp D C same =
      row_at table h os n lo ∙ at_last (full_or_not n d) ∙ sym (row_at table h ps n lp)
    where
      at_last : ((n + 1) % d ≡ 0) ⊎ ((n + 1) % d ≡ 0 → ⊥) → resample_values table (after table h os n) (get_or os n None) ≡ resample_values table (after table h ps n) (get_or ps n None)
      at_last (inr e) = ap (resample_values table (after table h os n)) (P.quiet n lo e) ∙ values_none (after table h os n) ∙ sym (values_none (after table h ps n)) ∙ sym (ap (resample_values table (after table h ps n)) (Q.quiet n lp e))
      at_last (inl e) =
          let o = P.sounds n lo e in
          let q = Q.sounds n lp e in
          let a = arm_kept n in
          ap (resample_values table (after table h os n)) o.1
          ∙ values_same table (h.resampler.arm - 1) (after table h os n) (after table h ps n)
          (like_at n (omega arith) (omega arith) D (h.resampler.arm - 1) (omega arith) (λ i l m. same i (omega arith) m)) o.0 q.0 (omega arith)
          (one_value (get_or os n None) (get_or ps n None) o.0 q.0 o.1 q.1 (same n (omega arith) (omega arith))) (omega arith)
          ∙ sym (ap (resample_values table (after table h ps n)) q.1)

-- ---- THE THEOREM: from fresh, rows that agree on the latest (c + 2) d - 2 samples have the same outputs there, whatever came before
paced : (d : ℕ) → 0 < d → (zs : List Complex32) → Paced d (outputs_of (fresh_decimator d) zs)
paced d D zs = record {
  sounds = λ n l e. output_sounds d D zs n (rw (← outputs_length (fresh_decimator d) zs) l) e;
  quiet = λ n l e. output_quiet d D zs n (rw (← outputs_length (fresh_decimator d) zs) l) e;
}

pub filters_forget : (s : Dimensions) → Sized s → (table real imaginary : List Float) → s.arm + 16 ≤ length real → s.arm + 16 ≤ length imaginary
    → (none : Complex32) (xs ys : List Complex32) (n : ℕ) → n < length xs → n < length ys
    → ((i : ℕ) → i ≤ n → n < i + ((s.arm + 2) * s.decimation - 2) → get_or xs i none ≡ get_or ys i none)
    → get_or (filters_row table s real imaginary xs) n [] ≡ get_or (filters_row table s real imaginary ys) n []
unfolding filters_row fresh_of
filters_forget s k table real imaginary R I none xs ys n lx ly same =
    let d = s.decimation in
    let D = k.decimation_low in
    let os = outputs_of (fresh_decimator d) xs in
    let ps = outputs_of (fresh_decimator d) ys in
    row_forgets table (record { resampler = fresh_of s; real = real; imaginary = imaginary }) d os ps (paced d D xs) (paced d D ys) (omega arith) R I n
    (rw (outputs_length (fresh_decimator d) xs) lx) (rw (outputs_length (fresh_decimator d) ys) ly) D (le_trans (lit≤ tt) k.arm_low)
    (λ i l m. outputs_forget d D none xs ys i (omega arith) (omega arith) (λ j a b. same j (omega arith) (reach s.arm d i j n k.arm_low D m b)))
  where
    reach : (c d i j n : ℕ) → 14 ≤ c → 1 ≤ d → n ≤ i + (c - 1) * d → i < j + (3 * d - 2) → n < j + ((c + 2) * d - 2)
    reach c d i j n C D m b =
        let e : c * d ≡ (c - 1) * d + d = ap (λ (k : ℕ). k * d) (let g : c ≡ c - 1 + 1 = omega arith in g) ∙ add-mul (c - 1) 1 d ∙ ap (λ (k : ℕ). (c - 1) * d + k) (one-mul d) in
        omega arith
