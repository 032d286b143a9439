-- What calls make of each sample: the table lent with it decides the values and nothing of the ring, the decimator gives a value at every d-th sample, and what is made turns on the last c of these. Assumes nothing.
use Rattle.std.specs.Prelude.{◌≡◌, Bool, true, cond, length, get_or, set, Float, Option, Some, None}
use Rattle.std.proofs.Math.Path.{refl, sym, ap, subst}
use Rattle.std.proofs.Common.{◌∙◌, mod-eq_of_lt, eq-zero-or-pos, add-one, length-append, get_or-append-add, lt-ltb, le-ltb, eqb-true}
use mathlib.Core.List.{List, [], ◌∷◌, ◌++◌, flatten, append-nil, append_assoc}
use Rattle.std.proofs.Math.Logic.{inl, inr, ⊎_elim}
use Prim.Native.Nat.{ℕ, zero, suc, ◌+◌, ◌-◌, ◌*◌, ◌%◌, ◌≤◌, ◌<◌}
use Rattle.std.proofs.Math.Nat.{mod_self, add-mod_left, add-mul-mod_self_right, mul-mod_left}
use native.Mathlib.Omega.{arith}
use Rattle.std.proofs.Math.ListN.{get_or-append}
use Rattle.laws.specs.Turns.{turns, turns_same, turns_plus}
use Rattle.laws.specs.Places.{upto, length_upto, upto_at, le_or}
use Rattle.laws.specs.Ring.{lt_or_ge}
use Rattle.complex.specs.declared.Complex32.{Complex32}
use Rattle.decimator.specs.declared.Decimator.{Decimator}
use Rattle.decimator.specs.declared.Parts.{Parts}
use Rattle.decimator.specs.declared.Advance.{Advance}
use Rattle.decimator.specs.declared.Step.{Step}
use Rattle.decimator.specs.Decimator.{counts_of, scaled_of, absorbed_of, silent_of, sounded_of, released_of, advanced_of, output_of, stepped_of, outputs_of}
use Rattle.decimator.specs.Decimator.{Counting}
use Rattle.decimator.proofs.Values.{step_above, step_through, step_counting, outputs_length}
use Rattle.front.specs.Resample.{ResamplerState, resample_state, resample_values}
use Rattle.resampler.specs.Pass.{pushed_of, resampled_of}
use Rattle.resampler.specs.Forgets.{next_same}
use Rattle.front.specs.FiltersForget.{Like, like_other, like_more, values_same}
use Rattle.front.specs.Front as front
use Rattle.oscillator.specs.Oscillator.{conjugated_of}
use Rattle.receiver_state.specs.declared.state.Receiver.{Receiver}
use Rattle.receiver.specs.Admitted.{admitted_of}
use Rattle.front.specs.Admitted.{Admitted as FrontAdmitted}
use Rattle.checks.specs.Fits.{fits_from}
use Rattle.samples.specs.Samples.{count_of}
use Rattle.run.specs.Run.{front_at}
use Rattle.receiver.specs.Block.{one, start_of}
use Rattle.promises.specs.Deliveries.{values_of}
use Rattle.promises.proofs.AcceptsLaws.{accepted_passes}
use Rattle.promises.specs.Taken.{Call, answered_of, taken_where, taken_of, rung_before, given_at, given_of, mixed_row}
use Rattle.promises.proofs.Decimates.{mixed_length, answered, given_is, hears, makes}
use Rattle.promises.specs.Made.{made_at, made_of, tables_of}

-- ---- the table decides the values that are made, and nothing of the ring
hears_by_any : (table other : List Float) (h : ResamplerState) (o : Option Complex32) → resample_state table h o ≡ resample_state other h o
unfolding resample_state resampled_of
hears_by_any table other h None = refl
hears_by_any table other h (Some v) =
    let q = pushed_of h.resampler in
    let xs = set h.real h.resampler.write v.real in
    let ys = set h.imaginary h.resampler.write v.imaginary in
    λ i. record {
      resampler = record { arm = q.arm; half = q.half; step = q.step; index = q.index; next = next_same q table xs ys other xs ys i; write = q.write };
      real = xs;
      imaginary = ys;
    }

-- the ring of a state, and after the first n of a row of outputs
abbrev pub ring_in : Receiver → ResamplerState
ring_in r = front.ring_of (start_of r (one [] [])).rung

abbrev pub ring_after : ResamplerState → List (Option Complex32) → ℕ → ResamplerState
ring_after h os n = turns (λ (i : ℕ) (g : ResamplerState). resample_state [] g (get_or os i None)) n h

ring_first : (h : ResamplerState) (os ps : List (Option Complex32)) (n : ℕ) → n ≤ length os → ring_after h (os ++ ps) n ≡ ring_after h os n
ring_first h os ps n l = turns_same _ _ n h (λ k g m. ap (resample_state [] g) (get_or-append os ps None k (omega arith)))

ring_second : (h : ResamplerState) (os ps : List (Option Complex32)) (n : ℕ) → ring_after h (os ++ ps) (length os + n) ≡ ring_after (ring_after h os (length os)) ps n
ring_second h os ps n =
    sym (turns_plus (λ (i : ℕ) (g : ResamplerState). resample_state [] g (get_or (os ++ ps) i None)) (length os) n h)
    ∙ turns_same _ _ n (ring_after h (os ++ ps) (length os)) (λ k g m. ap (resample_state [] g) (get_or-append-add os ps k None))
    ∙ ap (λ (g : ResamplerState). ring_after g ps n) (ring_first h os ps (length os) (omega arith))

-- ---- within a call
flatten_more : {A : Type 0} (ls : List (List A)) (l : List A) → flatten (ls ++ (l ∷ [])) ≡ flatten ls ++ l
unfolding flatten
flatten_more [] l = append-nil l
flatten_more (m ∷ ls) l = ap (λ (k : List _). m ++ k) (flatten_more ls l) ∙ sym (append_assoc m (flatten ls) l)

ring_call : (r : Receiver) (c : Call) (k n : ℕ) → n ≤ k → ring_after (ring_in r) (upto (given_at r c) k) n ≡ front.ring_of (rung_before r c n)
unfolding turns
ring_call r c k zero l = unfold front.front_of in refl
ring_call r c k (suc n) l =
    (λ i. resample_state [] (ring_call r c k n (omega arith) i) (upto_at (given_at r c) k n None (omega arith) i))
    ∙ hears_by_any [] c.table (front.ring_of (rung_before r c n)) (given_at r c n)
    ∙ sym (hears r c n)

-- what a call hands to its chain are the values made of its samples, in their order
made_so_far : (r : Receiver) (c : Call) (n : ℕ) → (front_at (conjugated_of r.chain.profile) c.table c.samples (start_of r c.rooms) n).values ≡ flatten (upto (made_at r c) n)
unfolding upto
made_so_far r c zero = unfold front.front_of turns flatten in refl
made_so_far r c (suc n) = makes r c n ∙ ap (λ (l : List Complex32). l ++ made_at r c n) (made_so_far r c n) ∙ sym (flatten_more (upto (made_at r c) n) (made_at r c n))

pub made_in_order : (r : Receiver) (c : Call) → values_of r c.table c.samples ≡ flatten (upto (made_at r c) (count_of c.samples))
made_in_order r c = made_so_far r c (count_of c.samples)

-- ---- all calls: what is made of each sample, where two rows of them stand one after the other
module _ (us us' : List (List Complex32)) (ts ts' : List (List Float)) (os os' : List (Option Complex32)) (h g : ResamplerState) where
  abbrev Made : List (List Complex32) → List (List Float) → ResamplerState → List (Option Complex32) → ℕ → Type 0
  Made vs tables ring outputs n = get_or vs n [] ≡ resample_values (get_or tables n []) (ring_after ring outputs n) (get_or outputs n None)

  made_first : (n : ℕ) → n < length us → n < length ts → n < length os → Made us ts h os n → Made (us ++ us') (ts ++ ts') h (os ++ os') n
  made_first n a b c e =
      get_or-append us us' [] n a
      ∙ e
      ∙ sym (λ i. resample_values (get_or-append ts ts' [] n b i) (ring_first h os os' n (omega arith) i) (get_or-append os os' None n c i))

  made_second : (n k : ℕ) → length us ≡ k → length ts ≡ k → length os ≡ k → ring_after h os (length os) ≡ g → Made us' ts' g os' n → Made (us ++ us') (ts ++ ts') h (os ++ os') (k + n)
  made_second n k a b c e f =
      ap (λ (j : ℕ). get_or (us ++ us') (j + n) []) (sym a)
      ∙ get_or-append-add us us' n []
      ∙ f
      ∙ sym (λ i. resample_values
      ((ap (λ (j : ℕ). get_or (ts ++ ts') (j + n) []) (sym b) ∙ get_or-append-add ts ts' n []) i)
      ((ap (λ (j : ℕ). ring_after h (os ++ os') (j + n)) (sym c) ∙ ring_second h os os' n ∙ ap (λ (r : ResamplerState). ring_after r os' n) e) i)
      ((ap (λ (j : ℕ). get_or (os ++ os') (j + n) None) (sym c) ∙ get_or-append-add os os' n None) i))

-- what is made of sample n: by the table lent with it, of the ring that the outputs before it leave and of its own output
pub made_at_lem : (r : Receiver) (cs : List Call) (n : ℕ) → n < length (taken_of r cs) → get_or (made_of r cs) n [] ≡ resample_values (get_or (tables_of r cs) n []) (ring_after (ring_in r) (given_of r cs) n) (get_or (given_of r cs) n None)
unfolding made_of tables_of given_of taken_of front.samples_of
made_at_lem r [] n l = absurd (omega arith)
made_at_lem r (c ∷ cs) n l = elim (answered r c) [
  | inl t ↦
      let after = (answered_of r c).receiver in
      let k = count_of c.samples in
      let us = upto (made_at r c) k in
      let ts : List (List Float) = upto (λ (i : ℕ). c.table) k in
      let os = upto (given_at r c) k in
      let e = length_upto (made_at r c) k in
      let f = length_upto (λ (i : ℕ). c.table) k in
      let g = length_upto (given_at r c) k in
      let h = length_upto (front.sample_at c.samples) k in
      let m : n < k + length (taken_of after cs) =
      (let a = length-append (upto (front.sample_at c.samples) k) (taken_of after cs) in
      let b : n < length (upto (front.sample_at c.samples) k ++ taken_of after cs) = subst (λ (y : Bool). n < length (taken_where y c ++ taken_of after cs)) t.accepted l in
      omega arith) in
      subst (λ (y : Bool). get_or (cond y us [] ++ made_of after cs) n [] ≡ resample_values (get_or (cond y ts [] ++ tables_of after cs) n []) (ring_after (ring_in r) (cond y os [] ++ given_of after cs) n) (get_or (cond y os [] ++ given_of after cs) n None)) (sym t.accepted)
      (⊎_elim
      (λ b. made_first us (made_of after cs) ts (tables_of after cs) os (given_of after cs) (ring_in r) (ring_in after) n (omega arith) (omega arith) (omega arith)
      (upto_at (made_at r c) k n [] b ∙ sym (λ i. resample_values (upto_at (λ (i : ℕ). c.table) k n [] b i) (ring_call r c k n (omega arith) i) (upto_at (given_at r c) k n None b i))))
      (λ b.
      subst (λ (j : ℕ). get_or (us ++ made_of after cs) j [] ≡ resample_values (get_or (ts ++ tables_of after cs) j []) (ring_after (ring_in r) (os ++ given_of after cs) j) (get_or (os ++ given_of after cs) j None)) (let z : k + (n - k) ≡ n = omega arith in z)
      (made_second us (made_of after cs) ts (tables_of after cs) os (given_of after cs) (ring_in r) (ring_in after) (n - k) k e f g
      (ap (ring_after (ring_in r) os) g ∙ ring_call r c k k (omega arith) ∙ sym (ap front.ring_of t.moved))
      (made_at_lem after cs (n - k) (omega arith))))
      (lt_or_ge n k))
  | inr t ↦
      let after = (answered_of r c).receiver in
      let k = count_of c.samples in
      subst (λ (y : Bool). get_or (cond y (upto (made_at r c) k) [] ++ made_of after cs) n [] ≡ resample_values (get_or (cond y (upto (λ (i : ℕ). c.table) k) [] ++ tables_of after cs) n [])
      (ring_after (ring_in r) (cond y (upto (given_at r c) k) [] ++ given_of after cs) n) (get_or (cond y (upto (given_at r c) k) [] ++ given_of after cs) n None)) (sym t.refused)
      (made_at_lem after cs n (subst (λ (y : Bool). n < length (taken_where y c ++ taken_of after cs)) t.refused l)
      ∙ ap (λ (u : Receiver). resample_values (get_or (tables_of after cs) n []) (ring_after (ring_in u) (given_of after cs) n) (get_or (given_of after cs) n None)) t.receiver)
]

-- only an admitted state takes samples
pub taken_admitted : (r : Receiver) (cs : List Call) → 0 < length (taken_of r cs) → admitted_of r ≡ true
unfolding taken_of
taken_admitted r [] l = absurd (omega arith)
taken_admitted r (c ∷ cs) l = elim (answered r c) [
  | inl t ↦ (accepted_passes r c.table c.samples c.rooms (eqb-true _ 0 t.accepted)).admitted
  | inr t ↦ taken_admitted r cs (subst (λ (u : Receiver). 0 < length (taken_of u cs)) t.receiver (subst (λ (y : Bool). 0 < length (taken_where y c ++ taken_of (answered_of r c).receiver cs)) t.refused l))
]

-- ---- when a decimator sounds: a value at every d-th sample, counted from its last one, and nothing between
module _ (d : ℕ) (s : Decimator) (z : Complex32) (k : Counting d s) where
  abbrev sums : Parts
  sums = absorbed_of s.integrators (counts_of z)

  abbrev finished : Bool → Step
  finished b = let a : Advance = cond b (silent_of s sums) (sounded_of s sums) in record { decimator = a.decimator; output = output_of s.decimation a.raw }

  step_quiet : s.counter + 1 < d → ((stepped_of s z).output ≡ None) × ((stepped_of s z).decimator.counter ≡ s.counter + 1)
  unfolding output_of advanced_of
  step_quiet l =
      let b = k.by in
      let e = step_above s z (omega arith) ∙ ap finished (lt-ltb (s.counter + 1) s.decimation (omega arith)) in
      (ap (λ (t : Step). t.output) e, ap (λ (t : Step). t.decimator.counter) e)

  step_loud : d ≤ s.counter + 1 → ((v : Complex32) × ((stepped_of s z).output ≡ Some v)) × ((stepped_of s z).decimator.counter ≡ 0)
  unfolding output_of advanced_of
  step_loud l =
      let b = k.by in
      let c = k.early in
      ⊎_elim
      (λ D.
      let e = step_above s z D ∙ ap finished (le-ltb (s.counter + 1) s.decimation (omega arith)) in
      ((scaled_of s.decimation (released_of s sums).sum, ap (λ (t : Step). t.output) e), ap (λ (t : Step). t.decimator.counter) e))
      (λ D.
      let e = step_through s z D in
      ((z, ap (λ (t : Step). t.output) e), ap (λ (t : Step). t.decimator.counter) e ∙ (let g : s.counter ≡ 0 = omega arith in g)))
      (lt_or_ge 1 s.decimation)

  counts_on : (n : ℕ) → ((stepped_of s z).decimator.counter + n + 1) % d ≡ (s.counter + suc n + 1) % d
  counts_on n =
      let c = k.early in
      ⊎_elim
      (λ l. ap (λ (j : ℕ). (j + n + 1) % d) (step_quiet l).1 ∙ ap (λ (j : ℕ). j % d) (let g : s.counter + 1 + n + 1 ≡ s.counter + suc n + 1 = omega arith in g))
      (λ l. ap (λ (j : ℕ). (j + n + 1) % d) (step_loud l).1 ∙ sym (add-mod_left d (0 + n + 1)) ∙ ap (λ (j : ℕ). j % d) (let g : d + (0 + n + 1) ≡ s.counter + suc n + 1 = omega arith in g))
      (lt_or_ge (s.counter + 1) d)

pub record Paced (d since : ℕ) (os : List (Option Complex32)) : Type 0 where
  pub sounds : (n : ℕ) → n < length os → (since + n + 1) % d ≡ 0 → (v : Complex32) × (get_or os n None ≡ Some v)
  pub quiet : (n : ℕ) → n < length os → ((since + n + 1) % d ≡ 0 → ⊥) → get_or os n None ≡ None

row_sounds : (d : ℕ) (s : Decimator) → Counting d s → (zs : List Complex32) (n : ℕ) → n < length zs → (s.counter + n + 1) % d ≡ 0 → (v : Complex32) × (get_or (outputs_of s zs) n None ≡ Some v)
unfolding outputs_of
row_sounds d s k [] n l e = absurd (omega arith)
row_sounds d s k (z ∷ zs) zero l e =
    ⊎_elim
    (λ m. let f : (s.counter + 0 + 1) % d ≡ s.counter + 0 + 1 = mod-eq_of_lt (let g : s.counter + 0 + 1 < d = omega arith in g) in absurd (omega arith))
    (λ m. (step_loud d s z k m).0)
    (lt_or_ge (s.counter + 1) d)
row_sounds d s k (z ∷ zs) (suc n) l e = row_sounds d (stepped_of s z).decimator (step_counting d s z k) zs n (omega arith) (counts_on d s z k n ∙ e)

row_quiet : (d : ℕ) (s : Decimator) → Counting d s → (zs : List Complex32) (n : ℕ) → n < length zs → ((s.counter + n + 1) % d ≡ 0 → ⊥) → get_or (outputs_of s zs) n None ≡ None
unfolding outputs_of
row_quiet d s k [] n l e = absurd (omega arith)
row_quiet d s k (z ∷ zs) zero l e =
    let c = k.early in
    ⊎_elim
    (λ m. (step_quiet d s z k m).0)
    (λ m. absurd (e (ap (λ (j : ℕ). j % d) (let g : s.counter + 0 + 1 ≡ d = omega arith in g) ∙ mod_self d)))
    (lt_or_ge (s.counter + 1) d)
row_quiet d s k (z ∷ zs) (suc n) l e = row_quiet d (stepped_of s z).decimator (step_counting d s z k) zs n (omega arith) (λ f. e (sym (counts_on d s z k n) ∙ f))

pub given_length : (r : Receiver) (cs : List Call) → length (given_of r cs) ≡ length (taken_of r cs)
given_length r cs =
    let zs = mixed_row (conjugated_of r.chain.profile) r.front.oscillator (taken_of r cs) in
    ap length (given_is r cs) ∙ outputs_length r.front.decimator zs ∙ mixed_length (conjugated_of r.chain.profile) r.front.oscillator (taken_of r cs)

pub given_paced : (d : ℕ) (r : Receiver) (cs : List Call) → Counting d r.front.decimator → Paced d r.front.decimator.counter (given_of r cs)
given_paced d r cs k =
    let s = r.front.decimator in
    let zs = mixed_row (conjugated_of r.chain.profile) r.front.oscillator (taken_of r cs) in
    let e = outputs_length s zs in
    subst (Paced d s.counter) (sym (given_is r cs)) (record { sounds = λ n l f. row_sounds d s k zs n (omega arith) f; quiet = λ n l f. row_quiet d s k zs n (omega arith) f })

-- ---- two rows of outputs with the same sounds-again, into two rings of which the latest `lead` values agree
one_value : (o q : Option Complex32) (v w : Complex32) → o ≡ Some v → q ≡ Some w → o ≡ q → v ≡ w
one_value o q v w e f s = cc

quiet_stays : (k : ℕ) (h g : ResamplerState) (o q : Option Complex32) → o ≡ None → q ≡ None → Like k h g → Like k (resample_state [] h o) (resample_state [] g q)
unfolding resample_state
quiet_stays k h g o q e f l = subst (λ (x : Option Complex32). Like k (resample_state [] h x) (resample_state [] g q)) (sym e) (subst (λ (y : Option Complex32). Like k h (resample_state [] g y)) (sym f) l)

nothing_made : (table : List Float) (h g : ResamplerState) (o q : Option Complex32) → o ≡ None → q ≡ None → resample_values table h o ≡ resample_values table g q
unfolding resample_values
nothing_made table h g o q e f = ap (resample_values table h) e ∙ sym (ap (resample_values table g) f)

arm_stays : (h : ResamplerState) (o : Option Complex32) → (resample_state [] h o).resampler.arm ≡ h.resampler.arm
unfolding resample_state
arm_stays h None = refl
arm_stays h (Some v) = unfold resampled_of in refl

module _ (d since lead : ℕ) (D : 0 < d) (os ps : List (Option Complex32)) (P : Paced d since os) (Q : Paced d since ps) (h g : ResamplerState)
    (start : (k : ℕ) → k ≤ h.resampler.arm → k * d ≤ lead * d + since → Like k h g) where
  abbrev Same : ℕ → Type 0
  Same i = get_or os i None ≡ get_or ps i None

  arm_after : (n : ℕ) → (ring_after h os n).resampler.arm ≡ h.resampler.arm
  unfolding turns
  arm_after zero = refl
  arm_after (suc n) = arm_stays (ring_after h os n) (get_or os n None) ∙ arm_after n

  -- a value more in each ring: where both are the same, one more of the latest agrees
  latest_agree_on : (n : ℕ) (v w : Complex32) → get_or os n None ≡ Some v → get_or ps n None ≡ Some w
      → ((k : ℕ) → k ≤ h.resampler.arm → k * d ≤ lead * d + since + n → ((i : ℕ) → i < n → n ≤ i + k * d → Same i) → Like k (ring_after h os n) (ring_after g ps n))
      → (k : ℕ) → k ≤ h.resampler.arm → k * d ≤ lead * d + since + suc n → ((i : ℕ) → i < suc n → suc n ≤ i + k * d → Same i)
      → Like k (resample_state [] (ring_after h os n) (Some v)) (resample_state [] (ring_after g ps n) (Some w))
  latest_agree_on n v w e f before zero K m same = like_other [] 0 (ring_after h os n) (ring_after g ps n) (before 0 K (omega arith) (λ i a b. absurd (omega arith))) v w
  latest_agree_on n v w e f before (suc k) K m same =
      subst (λ (j : ℕ). Like j (resample_state [] (ring_after h os n) (Some v)) (resample_state [] (ring_after g ps n) (Some w))) (add-one k)
      (like_more [] k (ring_after h os n) (ring_after g ps n) (before k (omega arith) (omega arith) (λ i a b. same i (omega arith) (omega arith))) v w
      (let a = arm_after n in omega arith) (one_value (get_or os n None) (get_or ps n None) v w e f (same n (omega arith) (omega arith))))

  -- d places on the row sounds again, or is quiet again
  sounds_again : (i k n : ℕ) → n ≡ i + k * d → (since + i + 1) % d ≡ 0 → (since + n + 1) % d ≡ 0
  sounds_again i k n e z = ap (λ (m : ℕ). m % d) (let f : since + n + 1 ≡ since + i + 1 + k * d = omega arith in f) ∙ add-mul-mod_self_right (since + i + 1) k d ∙ z

  -- where the samples up to this one fill whole lots of d, it sounds
  sounds_at_whole : (n k : ℕ) → k * d ≡ lead * d + since + suc n → (since + n + 1) % d ≡ 0
  sounds_at_whole n k e = sym (add-mul-mod_self_right (since + n + 1) lead d) ∙ ap (λ (m : ℕ). m % d) (let f : since + n + 1 + lead * d ≡ k * d = omega arith in f) ∙ mul-mod_left k d

  -- the latest k values agree where the outputs of the latest k d samples do
  latest_agree : (n : ℕ) → n ≤ length os → n ≤ length ps → (k : ℕ) → k ≤ h.resampler.arm → k * d ≤ lead * d + since + n → ((i : ℕ) → i < n → n ≤ i + k * d → Same i) → Like k (ring_after h os n) (ring_after g ps n)
  unfolding turns
  latest_agree zero a b k K m same = start k K (omega arith)
  latest_agree (suc n) a b k K m same = elim (eq-zero-or-pos ((since + n + 1) % d)) [
    | inl e ↦
        let o = P.sounds n (omega arith) e in
        let q = Q.sounds n (omega arith) e in
        subst (λ (x : Option Complex32). Like k (resample_state [] (ring_after h os n) x) (resample_state [] (ring_after g ps n) (get_or ps n None))) (sym o.1)
        (subst (λ (y : Option Complex32). Like k (resample_state [] (ring_after h os n) (Some o.0)) (resample_state [] (ring_after g ps n) y)) (sym q.1)
        (latest_agree_on n o.0 q.0 o.1 q.1 (latest_agree n (omega arith) (omega arith)) k K m same))
    | inr p ↦
        let none : (since + n + 1) % d ≡ 0 → ⊥ = λ e. absurd (omega arith) in
        let m' : k * d ≤ lead * d + since + n = ⊎_elim (λ l. omega arith) (λ e. absurd (none (sounds_at_whole n k e))) (le_or (k * d) (lead * d + since + suc n) m) in
        quiet_stays k (ring_after h os n) (ring_after g ps n) (get_or os n None) (get_or ps n None) (P.quiet n (omega arith) none) (Q.quiet n (omega arith) none)
        (latest_agree n (omega arith) (omega arith) k K m' (λ i l j.
        ⊎_elim
        (λ f. same i (omega arith) f)
        (λ f. P.quiet i (omega arith) (λ z. none (sounds_again i k n f z)) ∙ sym (Q.quiet i (omega arith) (λ z. none (sounds_again i k n f z))))
        (le_or n (i + k * d) j)))
  ]

  -- so with c of them the values made are the same, by whatever table
  same_values_made : (n : ℕ) → n < length os → n < length ps → 0 < h.resampler.arm → (h.resampler.arm - 1) * d ≤ lead * d + since + n → ((i : ℕ) → i ≤ n → n ≤ i + (h.resampler.arm - 1) * d → Same i)
      → (table : List Float) → resample_values table (ring_after h os n) (get_or os n None) ≡ resample_values table (ring_after g ps n) (get_or ps n None)
  same_values_made n a b C m same table = elim (eq-zero-or-pos ((since + n + 1) % d)) [
    | inl e ↦
        let o = P.sounds n a e in
        let q = Q.sounds n b e in
        let c = arm_after n in
        ap (resample_values table (ring_after h os n)) o.1
        ∙ values_same table (h.resampler.arm - 1) (ring_after h os n) (ring_after g ps n)
        (latest_agree n (omega arith) (omega arith) (h.resampler.arm - 1) (omega arith) m (λ i l j. same i (omega arith) j)) o.0 q.0 (omega arith)
        (one_value (get_or os n None) (get_or ps n None) o.0 q.0 o.1 q.1 (same n (omega arith) (omega arith))) (omega arith)
        ∙ sym (ap (resample_values table (ring_after g ps n)) q.1)
    | inr p ↦
        let none : (since + n + 1) % d ≡ 0 → ⊥ = λ e. absurd (omega arith) in
        nothing_made table (ring_after h os n) (ring_after g ps n) (get_or os n None) (get_or ps n None) (P.quiet n a none) (Q.quiet n b none)
  ]

-- ---- two receivers
module _ (r q : Receiver) (cs es : List Call) (n lead : ℕ) (l : n < length (taken_of r cs)) (m : n < length (taken_of q es))
    (decimation : r.front.decimator.decimation ≡ q.front.decimator.decimation) (counter : r.front.decimator.counter ≡ q.front.decimator.counter) where
  abbrev d : ℕ
  d = r.front.decimator.decimation

  abbrev c : ℕ
  c = r.front.resampler.arm

  abbrev since : ℕ
  since = r.front.decimator.counter

  pub fits : FrontAdmitted r.front
  fits = (fits_from r.total r.front r.chain r.second r.planes.decisions.parents r.ancestors (taken_admitted r cs (omega arith))).front_fits

  -- what they make of sample n is the same where the outputs of the latest c are
  pub made_alike : ((k : ℕ) → k ≤ c → k * d ≤ lead * d + since → Like k (ring_in r) (ring_in q)) → (c - 1) * d ≤ lead * d + since + n
      → ((i : ℕ) → i ≤ n → n ≤ i + (c - 1) * d → get_or (given_of r cs) i None ≡ get_or (given_of q es) i None)
      → get_or (tables_of r cs) n [] ≡ get_or (tables_of q es) n [] → get_or (made_of r cs) n [] ≡ get_or (made_of q es) n []
  made_alike start full same table =
      let a = given_length r cs in
      let b = given_length q es in
      let early = fits.decimator.counter_in in
      let low = fits.resampler.arm_low in
      made_at_lem r cs n l
      ∙ ap (λ (t : List Float). resample_values t (ring_after (ring_in r) (given_of r cs) n) (get_or (given_of r cs) n None)) table
      ∙ same_values_made d since lead fits.decimator.decimation_low (given_of r cs) (given_of q es) (given_paced d r cs (record { by = refl; early = early }))
      (subst (λ (k : ℕ). Paced d k (given_of q es)) (sym counter) (given_paced d q es (record { by = sym decimation; early = omega arith })))
      (ring_in r) (ring_in q) start n (omega arith) (omega arith) (omega arith) full same (get_or (tables_of q es) n [])
      ∙ sym (made_at_lem q es n m)
