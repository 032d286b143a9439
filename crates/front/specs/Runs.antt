-- A run of samples into the integrators alone, with the combs where it ends at a d-th, is the same run taken one by one; and only its last sample can give a value. Assumes nothing.
use Prim.Native.Nat.{ℕ, zero, suc, ◌+◌, ◌-◌, ◌*◌, ◌/◌, ◌≤◌, ◌<◌}
use Rattle.std.proofs.Math.Nat.{min-le_left, min-le_right, min-eq_left, min-eq_right}
use Rattle.std.proofs.Math.Numerals.{add-one}
use native.Mathlib.Omega.{arith}
use Rattle.std.proofs.Math.Path.{◌≡◌, refl, sym, ap, subst}
use Rattle.std.proofs.Common.{◌∙◌, lt-ltb, le-ltb}
use Rattle.std.proofs.Math.Logic.{⊎_elim}
use Rattle.std.specs.Prelude.{Bool, cond, List, length, Float, Some, None}
use Rattle.laws.specs.Turns.{turns}
use Rattle.laws.specs.Ring.{lt_or_ge}
use Rattle.complex.specs.declared.Complex32.{Complex32}
use Rattle.oscillator.specs.declared.Oscillator.{Oscillator}
use Rattle.oscillator.specs.Oscillator.{Number, turned_of, mixed_of}
use Rattle.oscillator.specs.Laws.{turned_below}
use Rattle.decimator.specs.declared.Decimator.{Decimator}
use Rattle.decimator.specs.declared.Decimated.{Decimated}
use Rattle.decimator.specs.declared.Parts.{Parts}
use Rattle.decimator.specs.declared.Advance.{Advance}
use Rattle.decimator.specs.declared.Step.{Step}
use Rattle.decimator.specs.Decimator.{Counting, counts_of, absorbed_of, silent_of, sounded_of, advanced_of, decimated_of, output_of, stepped_of}
use Rattle.decimator.proofs.Values.{step_above, step_through, step_counting}
use Rattle.front.specs.declared.FrontPlace.{FrontPlace}
use Rattle.front.specs.declared.Gathering.{Gathering}
use Rattle.front.specs.declared.Drawn.{Drawn}
use Rattle.front.specs.Front.{sample_at, step_of, run_of, draw_turn, draw_start, drawn_of, gathered_of, gather_turn, gather_of}
use Rattle.front.specs.Admitted.{Admitted, Numbers, Drew}

-- ---- a sample of a block that was let in
pub number_at : (xs : List Float) → Numbers xs → (k : ℕ) → k < length xs / 2 → Number (sample_at xs k)
number_at xs n k l = record { real = n.each (2 * k) (omega arith); imaginary = n.each (2 * k + 1) (omega arith) }

pub gathered_is : (conjugated : Bool) (g : Gathering) (x z : Complex32) (s : Parts) (o : Oscillator)
    → z ≡ mixed_of g.oscillator x conjugated → s ≡ absorbed_of g.integrators (counts_of z) → o ≡ turned_of g.oscillator
    → ◌≡◌ {A = Gathering} (record { oscillator = o; integrators = s }) (gathered_of conjugated g x)
gathered_is conjugated g x z s o ze se oe = λ i. record { oscillator = oe i; integrators = (se ∙ ap (λ (t : Complex32). absorbed_of g.integrators (counts_of t)) ze) i }

-- ---- what a run keeps
module _ (conjugated : Bool) (xs : List Float) (from : ℕ) (p : FrontPlace) (r : Admitted p) where
  abbrev pub drew : ℕ → Drawn
  drew k = turns (draw_turn conjugated xs from) k (draw_start p)

  pub run_is : (k : ℕ) → (drew k).run ≡ k
  unfolding turns
  run_is zero = refl
  run_is (suc k) = add-one k

  pub turns_in : (k : ℕ) → (drew k).oscillator.renormalize < 4096
  unfolding turns
  turns_in zero = r.oscillator.renormalize_in
  turns_in (suc k) = turned_below (drew k).oscillator (turns_in k)

  pub decimator_in : (k : ℕ) → Counting p.decimator.decimation (drew k).decimator
  unfolding turns
  decimator_in zero = record { by = refl; early = r.decimator.counter_in }
  decimator_in (suc k) = step_counting p.decimator.decimation (drew k).decimator (mixed_of (drew k).oscillator (sample_at xs (from + k)) conjugated) (decimator_in k)

  pub drawn_kept : (left : ℕ) → Drew left p (drawn_of conjugated xs from left p)
  unfolding drawn_of
  drawn_kept left =
      let n = run_of p.decimator left in
      let d = decimator_in n in
      let e = run_is n in
      let b = d.by in
      let c = d.early in
      record {
        turns = turns_in n;
        early = omega arith;
        decimation = b;
        some = λ l. subst (λ (k : ℕ). 0 < k) (sym e) (some l);
        most = subst (λ (k : ℕ). k ≤ left) (sym e) (min-le_left left (p.decimator.decimation - p.decimator.counter));
      }
    where
      some : 0 < left → 0 < run_of p.decimator left
      some l =
          let b = r.decimator.counter_in in
          ⊎_elim
          (λ (h : left < p.decimator.decimation - p.decimator.counter). subst (λ (k : ℕ). 0 < k) (sym (min-eq_left (let g : left ≤ p.decimator.decimation - p.decimator.counter = omega arith in g))) l)
          (λ (h : p.decimator.decimation - p.decimator.counter ≤ left). subst (λ (k : ℕ). 0 < k) (sym (min-eq_right h)) (omega arith))
          (lt_or_ge left (p.decimator.decimation - p.decimator.counter))

  pub drew_is : (left : ℕ) (q : Drawn) → q ≡ drawn_of conjugated xs from left p → Drew left p q
  drew_is left q e = subst (λ (t : Drawn). Drew left p t) (sym e) (drawn_kept left)

  -- ---- d = 1
  pub single_is : (left : ℕ) (z : Complex32) (o : Oscillator) → p.decimator.decimation ≤ 1 → 0 < left
      → z ≡ mixed_of p.oscillator (sample_at xs from) conjugated → o ≡ turned_of p.oscillator
      → ◌≡◌ {A = Drawn} (record { oscillator = o; decimator = p.decimator; output = Some z; run = 1 }) (drawn_of conjugated xs from left p)
  unfolding drawn_of turns
  single_is left z o D l ze oe =
      let b = r.decimator.counter_in in
      let n : run_of p.decimator left ≡ 1 = min-eq_right (let g : p.decimator.decimation - p.decimator.counter ≤ left = omega arith in g) ∙ (let g : p.decimator.decimation - p.decimator.counter ≡ 1 = omega arith in g) in
      let f : from + 0 ≡ from = omega arith in
      let s : ◌≡◌ {A = Step} (record { decimator = p.decimator; output = Some z }) (step_of conjugated p.oscillator p.decimator (sample_at xs (from + 0))) =
      sym (step_through p.decimator z D) ∙ ap (stepped_of p.decimator) (ze ∙ ap (λ (k : ℕ). mixed_of p.oscillator (sample_at xs k) conjugated) (sym f)) in
      (λ i. record { oscillator = oe i; decimator = (s i).decimator; output = (s i).output; run = 0 + 1 })
      ∙ ap drew (sym n)

  -- ---- d > 1
  module _ (D : 1 < p.decimator.decimation) where
    abbrev pub start : Gathering
    start = record { oscillator = p.oscillator; integrators = p.decimator.integrators }

    abbrev pub taken : ℕ → Gathering
    taken k = turns (gather_turn conjugated xs from) k start

    -- k samples past the last output's successor, none of them a d-th
    abbrev pub waited : ℕ → Decimator
    waited k = record { decimation = p.decimator.decimation; counter = p.decimator.counter + k; integrators = (taken k).integrators; combs = p.decimator.combs }

    abbrev pub quietly : ℕ → Drawn
    quietly k = record { oscillator = (taken k).oscillator; decimator = waited k; output = None; run = k }

    -- the sample that comes next
    abbrev next : ℕ → Complex32
    next k = mixed_of (taken k).oscillator (sample_at xs (from + k)) conjugated

    -- its step, by whether it comes before the d-th
    abbrev finished : ℕ → Bool → Step
    finished k b =
        let s = absorbed_of (taken k).integrators (counts_of (next k)) in
        let a : Advance = cond b (silent_of (waited k) s) (sounded_of (waited k) s) in
        record { decimator = a.decimator; output = output_of p.decimator.decimation a.raw }

    quiet_step : (k : ℕ) → p.decimator.counter + k + 1 < p.decimator.decimation
        → ◌≡◌ {A = Step} (stepped_of (waited k) (next k)) (record { decimator = record { decimation = p.decimator.decimation; counter = p.decimator.counter + k + 1; integrators = absorbed_of (taken k).integrators (counts_of (next k)); combs = p.decimator.combs }; output = None })
    unfolding advanced_of output_of
    quiet_step k l =
        step_above (waited k) (next k) D
        ∙ ap (finished k)
        (lt-ltb (p.decimator.counter + k + 1) p.decimator.decimation l)

    pub quiet : (k : ℕ) → p.decimator.counter + k < p.decimator.decimation → drew k ≡ quietly k
    unfolding turns
    quiet zero l =
        let e : p.decimator.counter ≡ p.decimator.counter + 0 = omega arith in
        λ i. record { oscillator = p.oscillator; decimator = record { decimation = p.decimator.decimation; counter = e i; integrators = p.decimator.integrators; combs = p.decimator.combs }; output = None; run = 0 }
    quiet (suc k) l =
        let e : p.decimator.counter + k + 1 ≡ p.decimator.counter + suc k = omega arith in
        let s = quiet_step k (omega arith) in
        ap (draw_turn conjugated xs from k) (quiet k (omega arith))
        ∙ (λ i. record { oscillator = turned_of (taken k).oscillator; decimator = (s i).decimator; output = (s i).output; run = add-one k i })
        ∙ (λ i. record { oscillator = turned_of (taken k).oscillator; decimator = record { decimation = p.decimator.decimation; counter = e i; integrators = absorbed_of (taken k).integrators (counts_of (next k)); combs = p.decimator.combs }; output = None; run = suc k })

    abbrev pub whole : Gathering → Decimated → ℕ → Drawn
    whole g e n = record { oscillator = g.oscillator; decimator = e.decimator; output = Some e.value; run = n }

    loud_step : (k : ℕ) → p.decimator.decimation ≤ p.decimator.counter + k + 1
        → ◌≡◌ {A = Step} (stepped_of (waited k) (next k)) (record {
          decimator = (decimated_of p.decimator (absorbed_of (taken k).integrators (counts_of (next k)))).decimator;
          output = Some (decimated_of p.decimator (absorbed_of (taken k).integrators (counts_of (next k)))).value;
        })
    unfolding advanced_of output_of
    loud_step k l =
        step_above (waited k) (next k) D
        ∙ ap (finished k)
        (le-ltb (p.decimator.counter + k + 1) p.decimator.decimation l)

    loud : (k : ℕ) → p.decimator.counter + k + 1 ≡ p.decimator.decimation → drew (suc k) ≡ whole (taken (suc k)) (decimated_of p.decimator (taken (suc k)).integrators) (suc k)
    unfolding turns
    loud k e =
        let s = loud_step k (omega arith) in
        ap (draw_turn conjugated xs from k) (quiet k (omega arith))
        ∙ (λ i. record { oscillator = turned_of (taken k).oscillator; decimator = (s i).decimator; output = (s i).output; run = add-one k i })

    -- THE LAW: what the code returns after a run that waits, and after one that is whole
    module _ (left n : ℕ) (g : Gathering) (ne : n ≡ run_of p.decimator left) (ge : g ≡ gather_of conjugated xs from n start) where
      pub waits_is : n < p.decimator.decimation - p.decimator.counter
          → ◌≡◌ {A = Drawn} (record {
            oscillator = g.oscillator;
            decimator = record { decimation = p.decimator.decimation; counter = p.decimator.counter + n; integrators = g.integrators; combs = p.decimator.combs };
            output = None;
            run = n;
          }) (drawn_of conjugated xs from left p)
      unfolding gather_of drawn_of
      waits_is l =
          (λ i. record { oscillator = (ge i).oscillator; decimator = record { decimation = p.decimator.decimation; counter = p.decimator.counter + n; integrators = (ge i).integrators; combs = p.decimator.combs }; output = None; run = n })
          ∙ sym (quiet n (omega arith))
          ∙ ap drew ne

      pub whole_is : (e : Decimated) → p.decimator.decimation - p.decimator.counter ≤ n → e ≡ decimated_of p.decimator g.integrators
          → whole g e n ≡ drawn_of conjugated xs from left p
      unfolding gather_of drawn_of
      whole_is e l ee =
          let b = r.decimator.counter_in in
          let m : n ≤ p.decimator.decimation - p.decimator.counter = subst (λ (k : ℕ). k ≤ p.decimator.decimation - p.decimator.counter) (sym ne) (min-le_right left (p.decimator.decimation - p.decimator.counter)) in
          go n refl m l
        where
          go : (k : ℕ) → k ≡ n → n ≤ p.decimator.decimation - p.decimator.counter → p.decimator.decimation - p.decimator.counter ≤ n → whole g e n ≡ drew (run_of p.decimator left)
          go zero f m l = let b = r.decimator.counter_in in absurd (omega arith)
          go (suc k) f m l =
              let b = r.decimator.counter_in in
              ap (λ (t : Decimated). whole g t n) ee
              ∙ ap (λ (t : Gathering). whole t (decimated_of p.decimator t.integrators) n) ge
              ∙ ap (λ (j : ℕ). whole (taken j) (decimated_of p.decimator (taken j).integrators) j) (sym f)
              ∙ sym (loud k (omega arith))
              ∙ ap drew (f ∙ ne)
