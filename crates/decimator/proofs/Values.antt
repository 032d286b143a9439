-- From floats to floats: the outputs are the raw outputs of the quantised samples, scaled; d = 1 passes the samples through; and a step keeps d, and the counter below it. Assumes nothing.
use Rattle.std.specs.Prelude.{◌≡◌, ℕ, zero, suc, ◌+◌, ◌-◌, ◌*◌, ◌%◌, ◌<◌, ◌≤◌, Bool, cond, List, [], ◌∷◌, map, length, get_or, ◌≢◌, slice_index_or, refl, None, Option, Some}
use Rattle.std.proofs.Math.Nat.{mod-one}
use native.Mathlib.Omega.{arith}
use Rattle.std.proofs.Common.{sym, ap₂, ◌∙◌, subst, lt-ltb, le-ltb, le-leb}
use Rattle.std.proofs.Math.Path.{ap}
use Rattle.std.proofs.Math.Logic.{⊎_elim}
use Rattle.std.proofs.lemmas.List.{length-map}
use Rattle.std.proofs.Math.ListN.{get_or-map}
use Rattle.std.proofs.lemmas.Bool.{lt-leb}
use Rattle.laws.specs.Ring.{lt_or_ge}
use Rattle.complex.specs.Complex.{zero_pair}
use Rattle.complex.specs.declared.Complex32.{Complex32}
use Rattle.decimator.specs.declared.Counts.{Counts}
use Rattle.decimator.specs.declared.Decimator.{Decimator}
use Rattle.decimator.specs.declared.Step.{Step}
use Rattle.decimator.specs.Decimator.{counts_of, fresh_of, Counting, scaled_of, absorbed_of, silent_of, sounded_of, advanced_of, raw_outputs_of, output_of, stepped_of, outputs_of}
use Rattle.decimator.specs.Demand.{no_counts, ago, demanded}
use Rattle.decimator.proofs.Theorem.{decimates_at, wrapped_sums, demanded_sum, demanded_silent, forgets_at}

-- ---- what a step keeps
pub fresh_counting : (d : ℕ) → 0 < d → Counting d (fresh_of d)
unfolding fresh_of
fresh_counting d D = record { by = refl; early = D }

pub advance_counting : (d : ℕ) (s : Decimator) (n : Counts) → Counting d s → Counting d (advanced_of s n).decimator
unfolding advanced_of
advance_counting d s n k =
    let i = absorbed_of s.integrators n in
    let D = k.early in
    ⊎_elim
    (λ l. subst (λ (t : Bool). Counting d (cond t (silent_of s i) (sounded_of s i)).decimator) (sym (lt-ltb (s.counter + 1) s.decimation l)) (record { by = k.by; early = let e = k.by in omega arith }))
    (λ l. subst (λ (t : Bool). Counting d (cond t (silent_of s i) (sounded_of s i)).decimator) (sym (le-ltb (s.counter + 1) s.decimation l)) (record { by = k.by; early = omega arith }))
    (lt_or_ge (s.counter + 1) s.decimation)

-- ---- a step at d above 1, and at d = 1
module _ (s : Decimator) (z : Complex32) where
  pub step_above : 1 < s.decimation
      → ◌≡◌ {A = Step} (stepped_of s z) (record { decimator = (advanced_of s (counts_of z)).decimator; output = output_of s.decimation (advanced_of s (counts_of z)).raw })
  unfolding stepped_of
  step_above l = rw (lt-ltb 1 s.decimation l)

  pub step_through : s.decimation ≤ 1 → ◌≡◌ {A = Step} (stepped_of s z) (record { decimator = s; output = Some z })
  unfolding stepped_of
  step_through l = rw (le-ltb 1 s.decimation l)

pub step_counting : (d : ℕ) (s : Decimator) (z : Complex32) → Counting d s → Counting d (stepped_of s z).decimator
step_counting d s z k =
    ⊎_elim
    (λ l. subst (λ (t : Step). Counting d t.decimator) (sym (step_above s z l)) (advance_counting d s (counts_of z) k))
    (λ l. subst (λ (t : Step). Counting d t.decimator) (sym (step_through s z l)) k)
    (lt_or_ge 1 s.decimation)

pub stepped_counting : (s : Decimator) (z : Complex32) (r : Step) → s.counter < s.decimation → r ≡ stepped_of s z → Counting s.decimation r.decimator
stepped_counting s z r l e = subst (λ (t : Step). Counting s.decimation t.decimator) (sym e) (step_counting s.decimation s z (record { by = refl; early = l }))

-- ---- rows
pub outputs_above : (d : ℕ) → 1 < d → (s : Decimator) → Counting d s → (zs : List Complex32) → outputs_of s zs ≡ map (output_of d) (raw_outputs_of s (map counts_of zs))
unfolding outputs_of raw_outputs_of
outputs_above d D s k [] = refl
outputs_above d D s k (z ∷ zs) =
    let e = step_above s z (let b = k.by in omega arith) in
    ap₂ {C = List (Option Complex32)} ◌∷◌
    (ap (λ (t : Step). t.output) e ∙ ap (λ (n : ℕ). output_of n (advanced_of s (counts_of z)).raw) k.by)
    (ap (λ (t : Step). outputs_of t.decimator zs) e ∙ outputs_above d D (advanced_of s (counts_of z)).decimator (advance_counting d s (counts_of z) k) zs)

pub outputs_through : (s : Decimator) → s.decimation ≤ 1 → (zs : List Complex32) → outputs_of s zs ≡ map Some zs
unfolding outputs_of
outputs_through s l [] = refl
outputs_through s l (z ∷ zs) =
    let e = step_through s z l in
    ap₂ {C = List (Option Complex32)} ◌∷◌ (ap (λ (t : Step). t.output) e) (ap (λ (t : Step). outputs_of t.decimator zs) e ∙ outputs_through s l zs)

-- ---- place by place
map_at : {A B : Type 0} (f : A → B) (l : List A) (i : ℕ) (a : A) (b : B) → i < length l → slice_index_or (map f l) i b ≡ f (slice_index_or l i a)
map_at f [] i a b h = absurd (omega arith)
map_at f (x ∷ xs) zero a b h = refl
map_at f (x ∷ xs) (suc i) a b h = map_at f xs i a b (omega arith)

pub outputs_length : (s : Decimator) (zs : List Complex32) → length (outputs_of s zs) ≡ length zs
unfolding outputs_of
outputs_length s [] = refl
outputs_length s (z ∷ zs) = ap suc (outputs_length (stepped_of s z).decimator zs)

module _ (d : ℕ) (D : 0 < d) (zs : List Complex32) (n : ℕ) where
  output_through : d ≤ 1 → n < length zs → (none : Complex32) → slice_index_or (outputs_of (fresh_of d) zs) n None ≡ Some (slice_index_or zs n none)
  unfolding fresh_of
  output_through h l none = ap (λ (os : List (Option Complex32)). get_or os n None) (outputs_through (fresh_of d) h zs) ∙ map_at Some zs n none None l

  output_above : 1 < d → slice_index_or (outputs_of (fresh_of d) zs) n None ≡ output_of d (slice_index_or (raw_outputs_of (fresh_of d) (map counts_of zs)) n None)
  unfolding output_of
  output_above h = ap (λ (os : List (Option Complex32)). get_or os n None) (outputs_above d h (fresh_of d) (fresh_counting d D) zs) ∙ get_or-map (output_of d) (raw_outputs_of (fresh_of d) (map counts_of zs)) n None

  asked : 1 < d → n < length zs → slice_index_or (outputs_of (fresh_of d) zs) n None ≡ output_of d (demanded d (map counts_of zs) n)
  asked h l = output_above h ∙ ap (output_of d) (decimates_at d D (map counts_of zs) n (rw (length-map zs counts_of) l))

  -- a value at every d-th sample, and nothing between
  pub output_sounds : n < length zs → (n + 1) % d ≡ 0 → (v : Complex32) × (slice_index_or (outputs_of (fresh_of d) zs) n None ≡ Some v)
  unfolding output_of
  output_sounds l e =
      ⊎_elim
      (λ h. (scaled_of d (wrapped_sums d (map counts_of zs) n), asked h l ∙ ap (output_of d) (demanded_sum d (map counts_of zs) n e)))
      (λ h. (slice_index_or zs n zero_pair, output_through h l zero_pair))
      (lt_or_ge 1 d)

  pub output_quiet : n < length zs → ((n + 1) % d ≢ 0) → slice_index_or (outputs_of (fresh_of d) zs) n None ≡ None
  unfolding output_of
  output_quiet l e =
      ⊎_elim
      (λ h. asked h l ∙ ap (output_of d) (demanded_silent d (map counts_of zs) n e))
      (λ h. let o : d ≡ 1 = omega arith in absurd (e (ap (λ (k : ℕ). (n + 1) % k) o ∙ mod-one (n + 1))))
      (lt_or_ge 1 d)

-- ---- forgetting: rows that agree on the latest 3d - 2 samples have the same output there
module _ (d : ℕ) (D : 0 < d) (none : Complex32) (xs ys : List Complex32) (n : ℕ) (l : n < length xs) (m : n < length ys)
    (same : (i : ℕ) → i ≤ n → n < i + (3 * d - 2) → slice_index_or xs i none ≡ slice_index_or ys i none) where
  through : d ≤ 1 → slice_index_or (outputs_of (fresh_of d) xs) n None ≡ slice_index_or (outputs_of (fresh_of d) ys) n None
  through h = output_through d D xs n h l none ∙ ap Some (same n (omega arith) (omega arith)) ∙ sym (output_through d D ys n h m none)

  counts_same : (a : ℕ) → a < 3 * d - 2 → ago (map counts_of xs) n a ≡ ago (map counts_of ys) n a
  counts_same a h =
      ⊎_elim
      (λ k. ap (λ (b : Bool). cond b (slice_index_or (map counts_of xs) (n - a) no_counts) no_counts) (lt-leb a n k) ∙ sym (ap (λ (b : Bool). cond b (slice_index_or (map counts_of ys) (n - a) no_counts) no_counts) (lt-leb a n k)))
      (λ k.
      ap (λ (b : Bool). cond b (slice_index_or (map counts_of xs) (n - a) no_counts) no_counts) (le-leb a n k)
      ∙ map_at counts_of xs (n - a) none no_counts (omega arith)
      ∙ ap counts_of (same (n - a) (omega arith) (omega arith))
      ∙ sym (map_at counts_of ys (n - a) none no_counts (omega arith))
      ∙ sym (ap (λ (b : Bool). cond b (slice_index_or (map counts_of ys) (n - a) no_counts) no_counts) (le-leb a n k)))
      (lt_or_ge n a)

  above : 1 < d → slice_index_or (outputs_of (fresh_of d) xs) n None ≡ slice_index_or (outputs_of (fresh_of d) ys) n None
  above h =
      output_above d D xs n h
      ∙ ap (output_of d) (forgets_at d D (map counts_of xs) (map counts_of ys) n (rw (length-map xs counts_of) l) (rw (length-map ys counts_of) m) counts_same)
      ∙ sym (output_above d D ys n h)

  pub outputs_forget : get_or (outputs_of (fresh_of d) xs) n None ≡ slice_index_or (outputs_of (fresh_of d) ys) n None
  outputs_forget = ⊎_elim (λ h. above h) (λ h. through h) (lt_or_ge 1 d)
