-- Forgetting, end to end. Two fronts of one rate, with the same oscillator and counts, may hold anything in their integrators, combs and rings: once as many samples have come as the filters reach back, both make the same
-- values of what comes. The reach is (c + 3) d samples, counted from the last output before the first of them, and c where d = 1. Assumes nothing.
use Prim.Native.Nat.{ℕ, zero, suc, ◌+◌, ◌-◌, ◌*◌, ◌%◌, ◌≤◌, ◌<◌}
use Rattle.std.proofs.Common.{add-mul, one-mul, mul-le-mul_right, le_of_mul-le-mul_right, add-one, ◌∙◌, lt-ltb, le-ltb}
use native.Mathlib.Omega.{arith}
use Rattle.std.specs.Prelude.{◌≡◌, Bool, cond, ltb, eqb, length, Float, Option, Some, None}
use Rattle.std.proofs.Math.Path.{refl, sym, ap, subst}
use Rattle.std.proofs.Math.Logic.{⊎_elim}
use mathlib.Core.List.{List, [], ◌∷◌, ◌++◌, append_assoc, append-nil, map}
use Rattle.std.proofs.Math.ListN.{get_or, get_or-map}
use Rattle.std.proofs.lemmas.List.{length-map}
use Rattle.laws.specs.Turns.{turns}
use Rattle.laws.specs.Places.{upto, length_upto}
use Rattle.laws.specs.Ring.{latest, lt_or_ge}
use Rattle.complex.specs.declared.Complex32.{Complex32}
use Rattle.oscillator.specs.declared.Oscillator.{Oscillator}
use Rattle.oscillator.specs.Oscillator.{turned_of, mixed_of}
use Rattle.decimator.specs.declared.Counts.{Counts}
use Rattle.decimator.specs.declared.Decimator.{Decimator}
use Rattle.decimator.specs.declared.Parts.{Parts}
use Rattle.decimator.specs.declared.Advance.{Advance}
use Rattle.decimator.specs.declared.Step.{Step}
use Rattle.decimator.specs.Decimator.{Counting, counts_of, scaled_of, absorbed_of, silent_of, sounded_of, released_of, advanced_of, raw_outputs_of, output_of, stepped_of, outputs_of}
use Rattle.decimator.specs.Demand.{wrapped, sums_at}
use Rattle.decimator.proofs.Part.{Words}
use Rattle.decimator.proofs.Theorem.{recovers}
use Rattle.decimator.proofs.Values.{step_above, step_through, step_counting, outputs_above}
use Rattle.front.specs.Resample.{ResamplerState, resample_state, resample_values}
use Rattle.resampler.specs.Pass.{resampled_of}
use Rattle.front.specs.FiltersForget.{Like, like_other, like_more, values_same}
use Rattle.front.specs.Front.{sample_at, Rung, Run, ring_of, front_step, more, front_of, rung_at, made_of, reach_of}
use Rattle.front.specs.Admitted.{Admitted}

-- ---- a decimator: when it sounds, and its counter
pub record Quiet (u : Decimator) (z : Complex32) : Type 0 where
  pub silent : (stepped_of u z).output ≡ None
  pub later : (stepped_of u z).decimator.counter ≡ u.counter + 1

pub record Loud (u : Decimator) (z : Complex32) : Type 0 where
  pub value : Complex32
  pub sounds : (stepped_of u z).output ≡ Some value
  pub anew : (stepped_of u z).decimator.counter ≡ 0

module _ (u : Decimator) (z : Complex32) where
  abbrev sums : Parts
  sums = absorbed_of u.integrators (counts_of z)

  abbrev finished : Bool → Step
  finished b = let a : Advance = cond b (silent_of u sums) (sounded_of u sums) in record { decimator = a.decimator; output = output_of u.decimation a.raw }

  above : (b : Bool) → 1 < u.decimation → ltb (u.counter + 1) u.decimation ≡ b → stepped_of u z ≡ finished b
  unfolding advanced_of
  above b D e = step_above u z D ∙ ap finished e

  is_quiet : u.counter + 1 < u.decimation → Quiet u z
  unfolding output_of
  is_quiet l =
      let e = above _ (omega arith) (lt-ltb (u.counter + 1) u.decimation l) in
      record { silent = ap (λ (s : Step). s.output) e; later = ap (λ (s : Step). s.decimator.counter) e }

  is_loud : u.counter < u.decimation → u.decimation ≤ u.counter + 1 → Loud u z
  unfolding output_of
  is_loud k l =
      ⊎_elim
      (λ D.
      let e = above _ D (le-ltb (u.counter + 1) u.decimation l) in
      record { value = scaled_of u.decimation (released_of u sums).sum; sounds = ap (λ (s : Step). s.output) e; anew = ap (λ (s : Step). s.decimator.counter) e })
      (λ D.
      let e = step_through u z D in
      record { value = z; sounds = ap (λ (s : Step). s.output) e; anew = ap (λ (s : Step). s.decimator.counter) e ∙ (let g : u.counter ≡ 0 = omega arith in g) })
      (lt_or_ge 1 u.decimation)

-- ---- a decimator over a row of samples, one by one and as a list
module _ (z : ℕ → Complex32) where
  unfoldable dec_at : Decimator → ℕ → Decimator
  dec_at s zero = s
  dec_at s (suc n) = (stepped_of (dec_at s n) (z n)).decimator

  counting_at : (d : ℕ) (s : Decimator) (n : ℕ) → Counting d s → Counting d (dec_at s n)
  unfolding dec_at
  counting_at d s zero k = k
  counting_at d s (suc n) k = step_counting d (dec_at s n) (z n) (counting_at d s n k)

-- the decimator after a list
unfoldable dec_over : Decimator → List Complex32 → Decimator
dec_over s [] = s
dec_over s (z ∷ zs) = dec_over (stepped_of s z).decimator zs

over_last : (s : Decimator) (zs : List Complex32) (z : Complex32) → dec_over s (zs ++ (z ∷ [])) ≡ (stepped_of (dec_over s zs) z).decimator
unfolding dec_over
over_last s [] z = refl
over_last s (y ∷ zs) z = over_last (stepped_of s y).decimator zs z

outputs_last : (s : Decimator) (zs : List Complex32) (z : Complex32) → get_or (outputs_of s (zs ++ (z ∷ []))) (length zs) None ≡ (stepped_of (dec_over s zs) z).output
unfolding outputs_of dec_over
outputs_last s [] z = refl
outputs_last s (y ∷ zs) z = outputs_last (stepped_of s y).decimator zs z

module _ (z : ℕ → Complex32) where
  over_upto : (s : Decimator) (n : ℕ) → dec_over s (upto z n) ≡ dec_at z s n
  unfolding upto dec_at dec_over
  over_upto s zero = refl
  over_upto s (suc n) = over_last s (upto z n) (z n) ∙ ap (λ (t : Decimator). (stepped_of t (z n)).decimator) (over_upto s n)

  output_at_lem : (s : Decimator) (n : ℕ) → (stepped_of (dec_at z s n) (z n)).output ≡ get_or (outputs_of s (upto z (suc n))) n None
  unfolding upto
  output_at_lem s n =
      ap (λ (t : Decimator). (stepped_of t (z n)).output) (sym (over_upto s n))
      ∙ sym (outputs_last s (upto z n) (z n))
      ∙ ap (λ (k : ℕ). get_or (outputs_of s (upto z n ++ (z n ∷ []))) k None) (length_upto z n)

  -- d > 1: from the fourth output on the samples alone decide
  module _ (s t : Decimator) (e : s.decimation ≡ t.decimation) (f : s.counter ≡ t.counter) (k : s.counter < s.decimation) where
    module _ (n : ℕ) where
      abbrev zs : List Complex32
      zs = upto z (suc n)

      short : n < length (map counts_of zs)
      short = rw (length-map zs counts_of, length_upto z (suc n)) (omega arith)

      -- what `recovers` says of both
      both : ◌≡◌ {A = Option Counts}
          (cond (eqb ((s.counter + n + 1) % s.decimation) 0) (Some (record { real = wrapped (sums_at s.decimation (map counts_of zs) n).real; imaginary = wrapped (sums_at s.decimation (map counts_of zs) n).imaginary })) None)
          (cond (eqb ((t.counter + n + 1) % t.decimation) 0) (Some (record { real = wrapped (sums_at t.decimation (map counts_of zs) n).real; imaginary = wrapped (sums_at t.decimation (map counts_of zs) n).imaginary })) None)
      both = λ i. cond (eqb ((f i + n + 1) % e i) 0) (Some (record { real = wrapped (sums_at (e i) (map counts_of zs) n).real; imaginary = wrapped (sums_at (e i) (map counts_of zs) n).imaginary })) None

      same_above : Words s.integrators.real → Words s.integrators.imaginary → Words t.integrators.real → Words t.integrators.imaginary
          → 1 < s.decimation → 4 * s.decimation ≤ s.counter + n + 1 → (stepped_of (dec_at z s n) (z n)).output ≡ (stepped_of (dec_at z t n) (z n)).output
      unfolding output_of
      same_above sr si tr ti D l =
          output_at_lem s n
          ∙ ap (λ (os : List (Option Complex32)). get_or os n None) (outputs_above s.decimation D s (record { by = refl; early = k }) zs)
          ∙ get_or-map (output_of s.decimation) (raw_outputs_of s (map counts_of zs)) n None
          ∙ ap (output_of s.decimation) (recovers s sr si k (map counts_of zs) n short l ∙ both ∙ sym (recovers t tr ti (omega arith) (map counts_of zs) n short (omega arith)))
          ∙ sym (get_or-map (output_of s.decimation) (raw_outputs_of t (map counts_of zs)) n None)
          ∙ ap (λ (os : List (Option Complex32)). get_or os n None) (sym (outputs_above s.decimation D t (record { by = sym e; early = omega arith }) zs))
          ∙ sym (output_at_lem t n)

-- ---- a front over samples: its oscillator and its decimator
module _ (conjugated : Bool) (table xs : List Float) where
  unfoldable walk : Rung → ℕ → Rung
  walk r zero = r
  walk r (suc n) = (front_step conjugated table (walk r n) (sample_at xs n)).rung

  walk_is : (h : Run) (n : ℕ) → (front_of conjugated table xs n h).rung ≡ walk h.rung n
  unfolding front_of turns more walk
  walk_is h zero = refl
  walk_is h (suc n) = ap (λ (r : Rung). (front_step conjugated table r (sample_at xs n)).rung) (walk_is h n)

  unfoldable osc_at : Oscillator → ℕ → Oscillator
  osc_at o zero = o
  osc_at o (suc n) = turned_of (osc_at o n)

  abbrev mix_at : Oscillator → ℕ → Complex32
  mix_at o n = mixed_of (osc_at o n) (sample_at xs n) conjugated

  walk_osc : (r : Rung) (n : ℕ) → (walk r n).place.oscillator ≡ osc_at r.place.oscillator n
  unfolding walk osc_at front_step
  walk_osc r zero = refl
  walk_osc r (suc n) = ap turned_of (walk_osc r n)

  walk_dec : (r : Rung) (n : ℕ) → (walk r n).place.decimator ≡ dec_at (mix_at r.place.oscillator) r.place.decimator n
  unfolding walk front_step dec_at
  walk_dec r zero = refl
  walk_dec r (suc n) = λ i. (stepped_of (walk_dec r n i) (mixed_of (walk_osc r n i) (sample_at xs n) conjugated)).decimator

  -- what the decimator gives for sample n
  abbrev output_at : Rung → ℕ → Option Complex32
  output_at r n = (stepped_of (dec_at (mix_at r.place.oscillator) r.place.decimator n) (mix_at r.place.oscillator n)).output

  abbrev counter_at : Rung → ℕ → ℕ
  counter_at r n = (dec_at (mix_at r.place.oscillator) r.place.decimator n).counter

  walk_ring : (r : Rung) (n : ℕ) → ring_of (walk r (suc n)) ≡ resample_state table (ring_of (walk r n)) (output_at r n)
  unfolding walk front_step
  walk_ring r n = λ i. resample_state table (ring_of (walk r n)) (stepped_of (walk_dec r n i) (mixed_of (walk_osc r n i) (sample_at xs n) conjugated)).output

  walk_values : (r : Rung) (n : ℕ) → (front_step conjugated table (walk r n) (sample_at xs n)).values ≡ resample_values table (ring_of (walk r n)) (output_at r n)
  unfolding front_step
  walk_values r n = λ i. resample_values table (ring_of (walk r n)) (stepped_of (walk_dec r n i) (mixed_of (walk_osc r n i) (sample_at xs n) conjugated)).output

-- ---- two fronts of one rate, with the same oscillator and counts; what they hold may differ
pub record Alike (a b : Rung) : Type 0 where
  pub oscillator : a.place.oscillator ≡ b.place.oscillator
  pub decimation : a.place.decimator.decimation ≡ b.place.decimator.decimation
  pub counter : a.place.decimator.counter ≡ b.place.decimator.counter
  pub resampler : a.place.resampler ≡ b.place.resampler
  pub admitted : Admitted a.place
  pub real_a : a.place.resampler.arm + 16 ≤ length a.real
  pub imaginary_a : a.place.resampler.arm + 16 ≤ length a.imaginary
  pub real_b : a.place.resampler.arm + 16 ≤ length b.real
  pub imaginary_b : a.place.resampler.arm + 16 ≤ length b.imaginary
  -- integrators are 64-bit words
  pub words_real_a : Words a.place.decimator.integrators.real
  pub words_imaginary_a : Words a.place.decimator.integrators.imaginary
  pub words_real_b : Words b.place.decimator.integrators.real
  pub words_imaginary_b : Words b.place.decimator.integrators.imaginary

one_value : (o p : Option Complex32) (v w : Complex32) → o ≡ Some v → p ≡ Some w → o ≡ p → v ≡ w
one_value o p v w e f s = cc

arm_kept : (table : List Float) (h : ResamplerState) (o : Option Complex32) → (resample_state table h o).resampler.arm ≡ h.resampler.arm
unfolding resample_state
arm_kept table h None = refl
arm_kept table h (Some v) = unfold resampled_of in refl

hears_nothing : (table : List Float) (h : ResamplerState) (o : Option Complex32) → o ≡ None → resample_state table h o ≡ h
unfolding resample_state
hears_nothing table h o e = ap (resample_state table h) e

heard_nothing : (table : List Float) (h : ResamplerState) (o : Option Complex32) → o ≡ None → resample_values table h o ≡ []
unfolding resample_values
heard_nothing table h o e = ap (resample_values table h) e

like_of : (k : ℕ) (a b c d : ResamplerState) → a ≡ c → b ≡ d → Like k c d → Like k a b
like_of k a b c d e f l = subst (λ (h : ResamplerState). Like k h b) (sym e) (subst (λ (h : ResamplerState). Like k c h) (sym f) l)

module _ (conjugated : Bool) (table xs : List Float) (a b : Rung) (l : Alike a b) where
  abbrev d : ℕ
  d = a.place.decimator.decimation

  abbrev c : ℕ
  c = a.place.resampler.arm

  abbrev since : ℕ
  since = a.place.decimator.counter

  abbrev ra : ℕ → ResamplerState
  ra n = ring_of (walk conjugated table xs a n)

  abbrev rb : ℕ → ResamplerState
  rb n = ring_of (walk conjugated table xs b n)

  abbrev oa : ℕ → Option Complex32
  oa n = output_at conjugated table xs a n

  abbrev ob : ℕ → Option Complex32
  ob n = output_at conjugated table xs b n

  abbrev da : ℕ → Decimator
  da n = dec_at (mix_at conjugated table xs a.place.oscillator) a.place.decimator n

  abbrev db : ℕ → Decimator
  db n = dec_at (mix_at conjugated table xs b.place.oscillator) b.place.decimator n

  counting_a : (n : ℕ) → Counting d (da n)
  counting_a n = counting_at (mix_at conjugated table xs a.place.oscillator) d a.place.decimator n (record { by = refl; early = l.admitted.decimator.counter_in })

  counting_b : (n : ℕ) → Counting d (db n)
  counting_b n =
      let e = l.decimation in
      let f = l.counter in
      let k = l.admitted.decimator.counter_in in
      counting_at (mix_at conjugated table xs b.place.oscillator) d b.place.decimator n (record { by = sym e; early = omega arith })

  -- m outputs are not to be trusted
  module _ (m : ℕ) (trusted : (n : ℕ) → (m + 1) * d ≤ since + n + 1 → oa n ≡ ob n) where
    -- after n samples, q outputs of the decimators among them
    record Apart (n q : ℕ) : Type 0 where
      counts : since + n ≡ q * d + (da n).counter
      counter : (da n).counter ≡ (db n).counter
      armed : (ra n).resampler.arm ≡ c
      start : Like 0 (ra n) (rb n)
      near : (k : ℕ) → k ≤ c → k + m ≤ q → Like k (ra n) (rb n)

    begin : Apart 0 0
    unfolding walk dec_at latest upto
    begin =
        let z : Like 0 (ring_of a) (ring_of b) = record {
          same = l.resampler;
          planes = record { inside = l.admitted.resampler.write_in; room_xs = l.real_a; room_ys = l.imaginary_a; room_us = l.real_b; room_vs = l.imaginary_b; real_same = refl; imaginary_same = refl };
        } in
        record {
          counts = omega arith;
          counter = l.counter;
          armed = refl;
          start = z;
          near = λ k h g. subst (λ (j : ℕ). Like j (ring_of a) (ring_of b)) (let e : 0 ≡ k = omega arith in e) z;
        }

    quietly : (n q : ℕ) → Apart n q → (da n).counter + 1 < d → Apart (suc n) q
    unfolding dec_at
    quietly n q p s =
        let u = (counting_a n).by in
        let v = (counting_b n).by in
        let e = p.counter in
        let x = is_quiet (da n) (mix_at conjugated table xs a.place.oscillator n) (omega arith) in
        let y = is_quiet (db n) (mix_at conjugated table xs b.place.oscillator n) (omega arith) in
        let f = walk_ring conjugated table xs a n ∙ hears_nothing table (ra n) (oa n) x.silent in
        let g = walk_ring conjugated table xs b n ∙ hears_nothing table (rb n) (ob n) y.silent in
        let t = p.counts in
        record {
          counts = (let h : since + suc n ≡ q * d + ((da n).counter + 1) = omega arith in h) ∙ ap (λ (j : ℕ). q * d + j) (sym x.later);
          counter = x.later ∙ ap (λ (j : ℕ). j + 1) e ∙ sym y.later;
          armed = ap (λ (h : ResamplerState). h.resampler.arm) f ∙ p.armed;
          start = like_of 0 (ra (suc n)) (rb (suc n)) (ra n) (rb n) f g p.start;
          near = λ k h i. like_of k (ra (suc n)) (rb (suc n)) (ra n) (rb n) f g (p.near k h i);
        }

    -- at an output
    module _ (n q : ℕ) (p : Apart n q) (s : d ≤ (da n).counter + 1) where
      whole : since + n + 1 ≡ (q + 1) * d
      whole =
          let t = p.counts in
          let u = (counting_a n).early in
          let e : (q + 1) * d ≡ q * d + d = add-mul q 1 d ∙ ap (λ (j : ℕ). q * d + j) (one-mul d) in
          omega arith

      loud_a : Loud (da n) (mix_at conjugated table xs a.place.oscillator n)
      loud_a =
          let u = (counting_a n).by in
          let v = (counting_a n).early in
          is_loud (da n) (mix_at conjugated table xs a.place.oscillator n) (omega arith) (omega arith)

      loud_b : Loud (db n) (mix_at conjugated table xs b.place.oscillator n)
      loud_b =
          let u = (counting_b n).by in
          let v = (counting_b n).early in
          let e = p.counter in
          is_loud (db n) (mix_at conjugated table xs b.place.oscillator n) (omega arith) (omega arith)

      abbrev va : Complex32
      va = loud_a.value

      abbrev vb : Complex32
      vb = loud_b.value

      same_value : m ≤ q → va ≡ vb
      same_value h = one_value (oa n) (ob n) va vb loud_a.sounds loud_b.sounds (trusted n (subst (λ (j : ℕ). (m + 1) * d ≤ j) (sym whole) (mul-le-mul_right d (let g : m + 1 ≤ q + 1 = omega arith in g))))

      heard_a : ra (suc n) ≡ resample_state table (ra n) (Some va)
      heard_a = walk_ring conjugated table xs a n ∙ ap (resample_state table (ra n)) loud_a.sounds

      heard_b : rb (suc n) ≡ resample_state table (rb n) (Some vb)
      heard_b = walk_ring conjugated table xs b n ∙ ap (resample_state table (rb n)) loud_b.sounds

      first : Like 0 (ra (suc n)) (rb (suc n))
      first = like_of 0 (ra (suc n)) (rb (suc n)) (resample_state table (ra n) (Some va)) (resample_state table (rb n) (Some vb)) heard_a heard_b (like_other table 0 (ra n) (rb n) p.start va vb)

      closer : (k : ℕ) → k ≤ c → k + m ≤ q + 1 → Like k (ra (suc n)) (rb (suc n))
      closer zero h i = first
      closer (suc k) h i =
          let e = p.armed in
          subst (λ (j : ℕ). Like j (ra (suc n)) (rb (suc n))) (add-one k)
          (like_of (k + 1) (ra (suc n)) (rb (suc n)) (resample_state table (ra n) (Some va)) (resample_state table (rb n) (Some vb)) heard_a heard_b
          (like_more table k (ra n) (rb n) (p.near k (omega arith) (omega arith)) va vb (omega arith) (same_value (omega arith))))

      loudly : Apart (suc n) (q + 1)
      unfolding dec_at
      loudly = record {
        counts = (let t = whole in let h : since + suc n ≡ (q + 1) * d + 0 = omega arith in h) ∙ ap (λ (j : ℕ). (q + 1) * d + j) (sym loud_a.anew);
        counter = loud_a.anew ∙ sym loud_b.anew;
        armed = ap (λ (h : ResamplerState). h.resampler.arm) heard_a ∙ arm_kept table (ra n) (Some va) ∙ p.armed;
        start = first;
        near = closer;
      }

      -- the values that sample n makes, once the whole window is trusted
      values_loud : (c + m) * d ≤ since + n + 1 → resample_values table (ra n) (oa n) ≡ resample_values table (rb n) (ob n)
      values_loud h =
          let e = p.armed in
          let w = l.admitted.resampler.arm_low in
          let g : c + m ≤ q + 1 = le_of_mul-le-mul_right (subst (λ (j : ℕ). (c + m) * d ≤ j) whole h) (let u = l.admitted.decimator.counter_in in let v : 0 < d = omega arith in v) in
          ap (resample_values table (ra n)) loud_a.sounds
          ∙ values_same table (c - 1) (ra n) (rb n) (p.near (c - 1) (omega arith) (omega arith)) va vb (omega arith) (same_value (omega arith)) (omega arith)
          ∙ sym (ap (resample_values table (rb n)) loud_b.sounds)

    apart : (n : ℕ) → (q : ℕ) × Apart n q
    apart zero = (0, begin)
    apart (suc n) =
        let p = apart n in
        ⊎_elim (λ s. (p.0, quietly n p.0 p.1 s)) (λ s. (p.0 + 1, loudly n p.0 p.1 s)) (lt_or_ge ((da n).counter + 1) d)

    heard_alike : (n : ℕ) → (c + m) * d ≤ since + n + 1 → resample_values table (ra n) (oa n) ≡ resample_values table (rb n) (ob n)
    heard_alike n h =
        let p = apart n in
        ⊎_elim
        (λ s.
        let u = (counting_a n).by in
        let v = (counting_b n).by in
        let e = p.1.counter in
        heard_nothing table (ra n) (oa n) (is_quiet (da n) (mix_at conjugated table xs a.place.oscillator n) (omega arith)).silent
        ∙ sym (heard_nothing table (rb n) (ob n) (is_quiet (db n) (mix_at conjugated table xs b.place.oscillator n) (omega arith)).silent))
        (λ s. values_loud n p.0 p.1 s h)
        (lt_or_ge ((da n).counter + 1) d)

  -- b's decimator, with a's oscillator
  turned_alike : (n : ℕ) → (stepped_of (dec_at (mix_at conjugated table xs a.place.oscillator) b.place.decimator n) (mix_at conjugated table xs a.place.oscillator n)).output ≡ ob n
  turned_alike n = λ i. (stepped_of (dec_at (mix_at conjugated table xs (l.oscillator i)) b.place.decimator n) (mix_at conjugated table xs (l.oscillator i) n)).output

  trusted_above : 1 < d → (n : ℕ) → (3 + 1) * d ≤ since + n + 1 → oa n ≡ ob n
  trusted_above D n h =
      same_above (mix_at conjugated table xs a.place.oscillator) a.place.decimator b.place.decimator l.decimation l.counter l.admitted.decimator.counter_in n
      l.words_real_a l.words_imaginary_a l.words_real_b l.words_imaginary_b D h
      ∙ turned_alike n

  trusted_through : d ≤ 1 → (n : ℕ) → (0 + 1) * d ≤ since + n + 1 → oa n ≡ ob n
  trusted_through D n h =
      let u = (counting_a n).by in
      let v = (counting_b n).by in
      let z = mix_at conjugated table xs a.place.oscillator n in
      ap (λ (s : Step). s.output) (step_through (da n) z (omega arith))
      ∙ ap (λ (o : Oscillator). Some (mix_at conjugated table xs o n)) l.oscillator
      ∙ sym (ap (λ (s : Step). s.output) (step_through (db n) (mix_at conjugated table xs b.place.oscillator n) (omega arith)))

  -- THE THEOREM, for one sample
  values_alike : (n : ℕ) → reach_of a.place ≤ since + n + 1 → (front_step conjugated table (walk conjugated table xs a n) (sample_at xs n)).values ≡ (front_step conjugated table (walk conjugated table xs b n) (sample_at xs n)).values
  values_alike n h =
      walk_values conjugated table xs a n
      ∙ ⊎_elim
      (λ D. heard_alike 3 (trusted_above D) n (subst (λ (t : Bool). cond t ((c + 3) * d) c ≤ since + n + 1) (lt-ltb 1 d D) h))
      (λ D.
      let k : c ≤ since + n + 1 = subst (λ (t : Bool). cond t ((c + 3) * d) c ≤ since + n + 1) (le-ltb 1 d D) h in
      let e : d ≡ 1 = (let u = l.admitted.decimator.counter_in in let g : d ≡ 1 = omega arith in g) in
      let g : (c + 0) * d ≡ c = ap (λ (j : ℕ). (c + 0) * j) e ∙ (let w : (c + 0) * 1 ≡ c = omega arith in w) in
      heard_alike 0 (trusted_through D) n (subst (λ (j : ℕ). j ≤ since + n + 1) (sym g) k))
      (lt_or_ge 1 d)
      ∙ sym (walk_values conjugated table xs b n)

  -- THE THEOREM: once n samples have come, n and the samples since the last output before them being no fewer than the filters reach back, both fronts make the same values of all that comes
  pub front_forgets : (n k : ℕ) → reach_of a.place ≤ since + n + 1 → made_of conjugated table xs n k a ≡ made_of conjugated table xs n k b
  unfolding made_of turns
  front_forgets n zero h = refl
  front_forgets n (suc k) h =
      let e = walk_is conjugated table xs (record { rung = a; values = [] }) (n + k) in
      let f = walk_is conjugated table xs (record { rung = b; values = [] }) (n + k) in
      let v : (front_step conjugated table (rung_at conjugated table xs (n + k) a) (sample_at xs (n + k))).values ≡ (front_step conjugated table (rung_at conjugated table xs (n + k) b) (sample_at xs (n + k))).values =
      ap (λ (r : Rung). (front_step conjugated table r (sample_at xs (n + k))).values) e
      ∙ values_alike (n + k) (omega arith)
      ∙ sym (ap (λ (r : Rung). (front_step conjugated table r (sample_at xs (n + k))).values) f) in
      λ i. front_forgets n k h i ++ v i

-- those values are what the fold appends
pub values_after : (conjugated : Bool) (table xs : List Float) (n k : ℕ) (h : Run) → (front_of conjugated table xs (n + k) h).values ≡ (front_of conjugated table xs n h).values ++ made_of conjugated table xs n k h.rung
unfolding made_of turns
values_after conjugated table xs n zero h = ap (λ (j : ℕ). (front_of conjugated table xs j h).values) (let e : n + 0 ≡ n = omega arith in e) ∙ sym (append-nil (front_of conjugated table xs n h).values)
values_after conjugated table xs n (suc k) h =
    let r = walk_is conjugated table xs h (n + k) ∙ sym (walk_is conjugated table xs (record { rung = h.rung; values = [] }) (n + k)) in
    ap (λ (j : ℕ). (front_of conjugated table xs j h).values) (let e : n + suc k ≡ suc (n + k) = omega arith in e)
    ∙ one_more (n + k)
    ∙ (λ i. values_after conjugated table xs n k h i ++ (front_step conjugated table (r i) (sample_at xs (n + k))).values)
    ∙ append_assoc (front_of conjugated table xs n h).values (made_of conjugated table xs n k h.rung) (front_step conjugated table (rung_at conjugated table xs (n + k) h.rung) (sample_at xs (n + k))).values
  where
    one_more : (j : ℕ) → (front_of conjugated table xs (suc j) h).values ≡ (front_of conjugated table xs j h).values ++ (front_step conjugated table (front_of conjugated table xs j h).rung (sample_at xs j)).values
    one_more j = unfold front_of turns more in refl
