-- Both parts over a row of samples: what the state holds after each, and what its raw outputs are. Assumes nothing.
use Rattle.std.specs.Prelude.{◌≡◌, ℕ, zero, suc, ◌+◌, ◌*◌, ◌%◌, ◌<◌, ◌≤◌, Bool, true, false, cond, List, [], ◌∷◌, map, length, get_or, ℤ, pos, ◌==◌, nat_eq, nat_lt, slice_index_or, refl, Option, Some, None}
use Rattle.std.proofs.Common.{mod-eq_of_lt, le_of_mul-le-mul_right, sym, ◌∙◌, ⊎_elim, lt-ltb, le-ltb, ne_eqb}
use Rattle.std.proofs.Math.Nat.{mod_self, add-mod_left}
use native.Mathlib.Omega.{arith}
use Rattle.std.proofs.Math.Path.{ap, subst}
use Rattle.std.proofs.Math.ListN.{get_or-map}
use Rattle.laws.specs.Ring.{lt_or_ge}
use Rattle.decimator.specs.declared.Counts.{Counts}
use Rattle.decimator.specs.declared.Decimator.{Decimator}
use Rattle.decimator.specs.declared.Advance.{Advance}
use Rattle.decimator.specs.Decimator.{absorbed_of, silent_of, sounded_of, advanced_of, raw_outputs_of}
use Rattle.decimator.specs.Demand.{weighted, wrapped, no_counts}
use Rattle.decimator.proofs.Boxes.{weighted_same}
use Rattle.decimator.specs.Past.{past}
use Rattle.decimator.proofs.Part.{PartHolds, kept_silent, kept_sounded, sounded_value}

-- ---- both parts
abbrev reals : List Counts → List ℤ
reals h = map (λ (n : Counts). n.real) h

abbrev imaginaries : List Counts → List ℤ
imaginaries h = map (λ (n : Counts). n.imaginary) h

-- a decimator after the history h, with as many delays renewed as `level` says
pub record Holds (d level : ℕ) (h : List Counts) (s : Decimator) : Type 0 where
  pub by : s.decimation ≡ d
  pub early : s.counter < d
  pub real_part : PartHolds d level s.counter (reals h) s.integrators.real s.combs.real
  pub imaginary_part : PartHolds d level s.counter (imaginaries h) s.integrators.imaginary s.combs.imaginary

-- the raw output that the history h asks for
unfoldable pub said : ℕ → List Counts → Option Counts
said d h = Some (record { real = wrapped (weighted d (λ a. (get_or h a no_counts).real)); imaginary = wrapped (weighted d (λ a. (get_or h a no_counts).imaginary)) })

-- what a step comes to: no output, or an output
record Quiet (d level since : ℕ) (h : List Counts) (a : Advance) : Type 0 where
  silent : a.raw ≡ None
  later : a.decimator.counter ≡ since + 1
  holds : Holds d level h a.decimator

record Loud (d level : ℕ) (h : List Counts) (a : Advance) : Type 0 where
  sounds : 3 ≤ level → a.raw ≡ said d h
  anew : a.decimator.counter ≡ 0
  holds : Holds d (suc level) h a.decimator

module _ (d level : ℕ) (h : List Counts) (s : Decimator) (k : Holds d level h s) (x : Counts) where
  step_silent : s.counter + 1 < d → Quiet d level s.counter (x ∷ h) (advanced_of s x)
  unfolding advanced_of
  step_silent l =
      let e : nat_lt (s.counter + 1) s.decimation ≡ true = rw k.by (lt-ltb (s.counter + 1) d l) in
      let i = absorbed_of s.integrators x in
      subst (λ (t : Bool). Quiet d level s.counter (x ∷ h) (cond t (silent_of s i) (sounded_of s i))) (sym e) (record {
        silent = refl;
        later = refl;
        holds = record {
          by = k.by;
          early = l;
          real_part = kept_silent d level s.counter (reals h) s.integrators.real s.combs.real k.real_part x.real;
          imaginary_part = kept_silent d level s.counter (imaginaries h) s.integrators.imaginary s.combs.imaginary k.imaginary_part x.imaginary;
        };
      })

  value_of : (part : Counts → ℤ) (l : List Counts) → part no_counts ≡ pos 0 → weighted d (λ a. get_or (map part l) a (pos 0)) ≡ weighted d (λ a. part (slice_index_or l a no_counts))
  value_of part l e = weighted_same d (λ a. get_or (map part l) a (pos 0)) (λ a. part (slice_index_or l a no_counts)) (λ a m. ap (λ (z : ℤ). get_or (map part l) a z) (sym e) ∙ get_or-map part l a no_counts)

  step_sounds : d ≤ s.counter + 1 → Loud d level (x ∷ h) (advanced_of s x)
  unfolding advanced_of said
  step_sounds l =
      let e : nat_lt (s.counter + 1) s.decimation ≡ false = rw k.by (le-ltb (s.counter + 1) d l) in
      let full : s.counter + 1 ≡ d = let m = k.early in omega arith in
      let i = absorbed_of s.integrators x in
      subst (λ (t : Bool). Loud d level (x ∷ h) (cond t (silent_of s i) (sounded_of s i))) (sym e) (record {
        sounds = λ m. λ j. Some (record {
          real = (sounded_value d level s.counter (reals h) s.integrators.real s.combs.real k.real_part x.real full m ∙ ap wrapped (value_of (λ (n : Counts). n.real) (x ∷ h) refl)) j;
          imaginary = (sounded_value d level s.counter (imaginaries h) s.integrators.imaginary s.combs.imaginary k.imaginary_part x.imaginary full m ∙ ap wrapped (value_of (λ (n : Counts). n.imaginary) (x ∷ h) refl)) j;
        });
        anew = refl;
        holds = record {
          by = k.by;
          early = omega arith;
          real_part = kept_sounded d level s.counter (reals h) s.integrators.real s.combs.real k.real_part x.real full;
          imaginary_part = kept_sounded d level s.counter (imaginaries h) s.integrators.imaginary s.combs.imaginary k.imaginary_part x.imaginary full;
        };
      })

-- ---- rows

-- the raw output at the n-th sample of a row: silent between outputs, and at an output, once three outputs have renewed the delays, what the history asks for
abbrev pub expected : ℕ → ℕ → List Counts → Option Counts
expected d t h = cond (t % d == 0) (said d h) None

expected_none : (d t : ℕ) (h : List Counts) → 0 < t → t < d → None ≡ expected d t h
expected_none d t h p l =
    let e : t % d ≡ t = mod-eq_of_lt l in
    ap (λ (b : Bool). cond b (said d h) None) (sym (ap (λ (r : ℕ). nat_eq r 0) e ∙ ne_eqb t 0 (λ z. omega arith)))

expected_some : (d t : ℕ) (h : List Counts) → t % d ≡ 0 → said d h ≡ expected d t h
expected_some d t h e = ap (λ (b : Bool). cond b (said d h) None) (sym (ap (λ (r : ℕ). nat_eq r 0) e))

renewed : (d level : ℕ) → 0 < d → 4 * d ≤ level * d + d → 3 ≤ level
renewed d level D h = le_of_mul-le-mul_right (let g : 3 * d ≤ level * d = omega arith in g) D

pub raw_output_at : (d : ℕ) → 0 < d → (xs : List Counts) (n level : ℕ) (h : List Counts) (s : Decimator) → Holds d level h s → n < length xs
    → ((s.counter + n + 1) % d ≡ 0 → 4 * d ≤ level * d + (s.counter + n + 1))
    → slice_index_or (raw_outputs_of s xs) n None ≡ expected d (s.counter + n + 1) (past h xs n)
unfolding raw_outputs_of past
raw_output_at d D [] n level h s k l g = absurd (omega arith)
raw_output_at d D (x ∷ xs) zero level h s k l g =
    let e : s.counter + 0 + 1 ≡ s.counter + 1 = omega arith in
    ⊎_elim
    (λ m. (step_silent d level h s k x m).silent ∙ expected_none d (s.counter + 0 + 1) (x ∷ h) (omega arith) (omega arith))
    (λ m.
    let full : s.counter + 0 + 1 ≡ d = let b = k.early in omega arith in
    let r : (s.counter + 0 + 1) % d ≡ 0 = ap (λ (t : ℕ). t % d) full ∙ mod_self d in
    (step_sounds d level h s k x m).sounds (renewed d level D (subst (λ (t : ℕ). 4 * d ≤ level * d + t) full (g r))) ∙ expected_some d (s.counter + 0 + 1) (x ∷ h) r)
    (lt_or_ge (s.counter + 1) d)
raw_output_at d D (x ∷ xs) (suc n) level h s k l g =
    let t = s.counter + suc n + 1 in
    let a = (advanced_of s x).decimator in
    ⊎_elim
    (λ m.
    let q = step_silent d level h s k x m in
    let e : a.counter + n + 1 ≡ t = ap (λ (c : ℕ). c + n + 1) q.later ∙ (let f : s.counter + 1 + n + 1 ≡ t = omega arith in f) in
    raw_output_at d D xs n level (x ∷ h) a q.holds (omega arith) (λ z. subst (λ (u : ℕ). 4 * d ≤ level * d + u) (sym e) (g (ap (λ (u : ℕ). u % d) (sym e) ∙ z)))
    ∙ ap (λ (u : ℕ). expected d u (past (x ∷ h) xs n)) e)
    (λ m.
    let q = step_sounds d level h s k x m in
    let f : d + (a.counter + n + 1) ≡ t = ap (λ (c : ℕ). d + (c + n + 1)) q.anew ∙ (let b = k.early in let f : d + (0 + n + 1) ≡ t = omega arith in f) in
    let e : (a.counter + n + 1) % d ≡ t % d = sym (add-mod_left d (a.counter + n + 1)) ∙ ap (λ (u : ℕ). u % d) f in
    raw_output_at d D xs n (suc level) (x ∷ h) a q.holds (omega arith) (λ z. let b = g (sym e ∙ z) in let c : suc level * d ≡ level * d + d = omega arith in omega arith)
    ∙ ap (λ (r : ℕ). cond (r == 0) (said d (past (x ∷ h) xs n)) None) e)
    (lt_or_ge (s.counter + 1) d)
