-- Samples and then others are all of them together: for the checks, the front, the chain, and so for what a block delivers and the state that it returns. Assumes nothing.
use Rattle.std.specs.Prelude.{◌≡◌, Bool, false, ◌&&◌, ◌||◌, length, get_or, Float, Option}
use Rattle.std.proofs.Math.Path.{refl, sym, ap}
use Rattle.std.proofs.Common.{◌∙◌, length-append, get_or-append-add}
use Rattle.std.proofs.Math.Bool.{true, cond}
use mathlib.Core.List.{List, [], ◌∷◌, ◌++◌, append_assoc, append-nil}
use Prim.Native.Nat.{ℕ, zero, suc, ◌+◌, ◌*◌, ◌≤◌, ◌<◌}
use native.Mathlib.Omega.{arith}
use Rattle.std.proofs.Math.ListN.{get_or-append}
use Rattle.std.specs.Float.{nan}
use Rattle.laws.specs.Turns.{turns}
use Rattle.numbers.specs.Numbers.{is_finite}
use Rattle.complex.specs.declared.Complex32.{Complex32}
use Rattle.taps.specs.Taps.{both_tables}
use Rattle.front.specs.Front as front
use Rattle.oscillator.specs.Oscillator.{conjugated_of}
use Rattle.chain.specs.Chain.{ChainState, Outcome as Result}
use Rattle.chain.specs.Rows.{dibits_of, pair_of, others_of, other_pair_of, records_after, Told, start, slot_at, next_of, told, ran_of, chain_of}
use Rattle.chain.specs.RowLaws.{ran_profile, ran_append, with_second}
use Rattle.receiver_state.specs.declared.state.Receiver.{Receiver}
use Rattle.samples.specs.Samples.{count_of, real_of, imaginary_of, finite_of, tallied, samples_with, is_at_end, overload_of}
use Rattle.run.specs.Run.{whole_run_of}
use Rattle.receiver.specs.Block.{one, start_of, receiver_of}
use Rattle.promises.specs.SecondKept.{SplitsBack}
use Rattle.promises.specs.Deliveries.{Delivery, delivery_of, other_delivery_of, delivered_by, values_of, deliveries_of, other_deliveries_of, after_of}
use Rattle.answers.specs.declared.soft.Soft.{Soft}

-- ---- samples
module _ (xs ys : List Float) (even : length xs ≡ 2 * count_of xs) where
  pub count_append : count_of (xs ++ ys) ≡ count_of xs + count_of ys
  count_append = let e = length-append xs ys in omega arith

  sample_first : (k : ℕ) → k < count_of xs → front.sample_at (xs ++ ys) k ≡ front.sample_at xs k
  sample_first k l =
      let a = get_or-append xs ys nan (2 * k) (omega arith) in
      let b = get_or-append xs ys nan (2 * k + 1) (omega arith) in
      λ i. record { real = a i; imaginary = b i }

  sample_second : (k : ℕ) → front.sample_at (xs ++ ys) (count_of xs + k) ≡ front.sample_at ys k
  sample_second k =
      let p : 2 * (count_of xs + k) ≡ length xs + 2 * k = omega arith in
      let q : 2 * (count_of xs + k) + 1 ≡ length xs + (2 * k + 1) = omega arith in
      let a = ap (λ (j : ℕ). get_or (xs ++ ys) j nan) p ∙ get_or-append-add xs ys (2 * k) nan in
      let b = ap (λ (j : ℕ). get_or (xs ++ ys) j nan) q ∙ get_or-append-add xs ys (2 * k + 1) nan in
      λ i. record { real = a i; imaginary = b i }

  -- a loop over the samples
  module _ {A : Type 0} (f : A → Complex32 → A) (a : A) where
    abbrev over : List Float → ℕ → A → A
    over zs n b = turns (λ k c. f c (front.sample_at zs k)) n b

    over_first : (n : ℕ) → n ≤ count_of xs → over (xs ++ ys) n a ≡ over xs n a
    unfolding turns
    over_first zero h = refl
    over_first (suc n) h = (λ i. f (over_first n (omega arith) i) (sample_first n h i))

    over_both : (n : ℕ) → over (xs ++ ys) (count_of xs + n) a ≡ over ys n (over xs (count_of xs) a)
    unfolding turns
    over_both zero = let e : count_of xs + 0 ≡ count_of xs = omega arith in ap (λ (n : ℕ). over (xs ++ ys) n a) e ∙ over_first (count_of xs) (omega arith)
    over_both (suc n) =
        let e : count_of xs + suc n ≡ suc (count_of xs + n) = omega arith in
        ap (λ (n : ℕ). over (xs ++ ys) n a) e ∙ (λ i. f (over_both n i) (sample_second n i))

    over_append : over (xs ++ ys) (count_of (xs ++ ys)) a ≡ over ys (count_of ys) (over xs (count_of xs) a)
    over_append = ap (λ (n : ℕ). over (xs ++ ys) n a) count_append ∙ over_both (count_of ys)

-- ---- the checks of the samples
and_from : (g : ℕ → Bool) (n : ℕ) (b : Bool) → turns (λ (k : ℕ) (c : Bool). c && g k) n b ≡ (b && turns (λ (k : ℕ) (c : Bool). c && g k) n true)
unfolding turns
and_from g zero true = refl
and_from g zero false = refl
and_from g (suc n) true = refl
and_from g (suc n) false = rw (and_from g n false)

sum_from : (g : ℕ → ℕ) (n a : ℕ) → turns (λ (k s : ℕ). s + g k) n a ≡ a + turns (λ (k s : ℕ). s + g k) n 0
unfolding turns
sum_from g zero a = omega arith
sum_from g (suc n) a = let e = sum_from g n a in omega arith

module _ (xs ys : List Float) (even : length xs ≡ 2 * count_of xs) where
  pub finite_append : finite_of (xs ++ ys) ≡ (finite_of xs && finite_of ys)
  unfolding finite_of
  finite_append =
      over_append xs ys even (λ (b : Bool) (z : Complex32). b && (is_finite z.real && is_finite z.imaginary)) true
      ∙ and_from (λ (k : ℕ). is_finite (real_of ys k) && is_finite (imaginary_of ys k)) (count_of ys) (finite_of xs)

  pub overload_append : overload_of (xs ++ ys) ≡ overload_of xs + overload_of ys
  unfolding overload_of samples_with
  overload_append =
      over_append xs ys even (λ (n : ℕ) (z : Complex32). tallied is_at_end n z.real z.imaginary) 0
      ∙ sum_from (λ (k : ℕ). cond (is_at_end (real_of ys k) || is_at_end (imaginary_of ys k)) 1 0) (count_of ys) (overload_of xs)

-- ---- the front
module _ (conjugated : Bool) (table : List Float) where
  abbrev pub front_from : List Float → front.Rung → List Complex32 → front.Run
  front_from xs g vs = front.front_of conjugated table xs (count_of xs) (record { rung = g; values = vs })

  -- values from before stay in front
  values_before : (xs : List Float) (n : ℕ) (g : front.Rung) (vs : List Complex32)
      → front.front_of conjugated table xs n (record { rung = g; values = vs })
      ≡ record { rung = (front.front_of conjugated table xs n (record { rung = g; values = [] })).rung; values = vs ++ (front.front_of conjugated table xs n (record { rung = g; values = [] })).values }
  unfolding front.front_of turns front.more
  values_before xs zero g vs = let e = sym (append-nil vs) in λ i. record { rung = g; values = e i }
  values_before xs (suc n) g vs =
      let h = front.front_of conjugated table xs n (record { rung = g; values = [] }) in
      let s = front.front_step conjugated table h.rung (front.sample_at xs n) in
      ap (λ (t : front.Run). front.more conjugated table t (front.sample_at xs n)) (values_before xs n g vs)
      ∙ (λ i. record { rung = s.rung; values = append_assoc vs h.values s.values i })

  front_append : (xs ys : List Float) → length xs ≡ 2 * count_of xs → (g : front.Rung)
      → front_from (xs ++ ys) g [] ≡ record { rung = (front_from ys (front_from xs g []).rung []).rung; values = (front_from xs g []).values ++ (front_from ys (front_from xs g []).rung []).values }
  unfolding front.front_of
  front_append xs ys even g =
      over_append xs ys even (front.more conjugated table) (record { rung = g; values = [] })
      ∙ values_before ys (count_of ys) (front_from xs g []).rung (front_from xs g []).values

-- ---- the chain
module _ (taps derivatives : List Float) where
  -- what was told before changes neither state nor records
  abbrev telling : ChainState → List (Option Soft) → List ℕ → List ℕ → List ℕ → List ℕ → Told
  telling s records ds rs es qs = record { state = s; records = records; dibits = ds; reliabilities = rs; others = es; other_reliabilities = qs }

  ran_alike : (values : List Complex32) (s : ChainState) (records : List (Option Soft)) (ds rs es qs : List ℕ)
      → ((ran_of taps derivatives values (telling s records ds rs es qs)).state ≡ (ran_of taps derivatives values (start s records)).state)
      × ((ran_of taps derivatives values (telling s records ds rs es qs)).records ≡ (ran_of taps derivatives values (start s records)).records)
  unfolding ran_of told
  ran_alike [] s records ds rs es qs = (refl, refl)
  ran_alike (z ∷ values) s records ds rs es qs =
      let n = next_of taps derivatives s records z in
      let o = n.outcome in
      let after = records_after o (slot_at s) records in
      let a = ran_alike values n.state after (ds ++ dibits_of o) (rs ++ pair_of o) (es ++ others_of o) (qs ++ other_pair_of o) in
      let b = ran_alike values n.state after (dibits_of o) (pair_of o) (others_of o) (other_pair_of o) in
      (a.0 ∙ sym b.0, a.1 ∙ sym b.1)

  pub deliveries_append : (pick : Result → List Delivery) (xs ys : List Complex32) (t : Told)
      → delivered_by pick taps derivatives (xs ++ ys) t.state t.records
      ≡ delivered_by pick taps derivatives xs t.state t.records ++ delivered_by pick taps derivatives ys (ran_of taps derivatives xs t).state (ran_of taps derivatives xs t).records
  unfolding delivered_by ran_of told
  deliveries_append pick [] ys t = refl
  deliveries_append pick (z ∷ xs) ys t =
      let n = next_of taps derivatives t.state t.records z in
      ap (λ (l : List Delivery). pick n.outcome ++ l) (deliveries_append pick xs ys (told taps derivatives t z)) ∙ sym (append_assoc (pick n.outcome) _ _)

-- ---- the block
abbrev made : ℕ → front.Rung → ChainState → List (Option Soft) → Receiver
made total g s records = receiver_of total (record {
  rung = g;
  lent = record { state = s; records = records; room = record { dibits = []; reliabilities = []; written = 0 }; other = record { dibits = []; reliabilities = []; written = 0 } };
  from = 0;
})

module _ (r : Receiver) (table xs ys : List Float) where
  abbrev pub conjugated : Bool
  conjugated = conjugated_of r.chain.profile

  abbrev pub ran : List Complex32 → Told → Told
  ran = ran_of both_tables.taps both_tables.derivatives

  -- the front and the chain after the first samples, and after the second
  abbrev pub started : Told
  started = start (start_of r (one [] [])).lent.state r.records.slots

  abbrev pub front_first : front.Run
  front_first = front_from conjugated table xs (start_of r (one [] [])).rung []

  abbrev front_second : front.Run
  front_second = front_from conjugated table ys front_first.rung []

  abbrev pub told_first : Told
  told_first = ran front_first.values started

  abbrev told_second : Told
  told_second = ran front_second.values (start told_first.state told_first.records)

  same_profile : conjugated_of (after_of r table xs).chain.profile ≡ conjugated
  unfolding after_of whole_run_of chain_of
  same_profile = ap conjugated_of (ran_profile both_tables.taps both_tables.derivatives front_first.values started)

  -- the chain as the state returned has it: its second stream was put together into one array and is taken apart again
  abbrev restarted : ChainState
  restarted = (start_of (after_of r table xs) (one [] [])).lent.state

  module _ (back : SplitsBack told_first.state.second) where
    restarted_is : restarted ≡ told_first.state
    unfolding after_of whole_run_of chain_of
    restarted_is =
        let s = told_first.state in
        let m = back.memory in
        let c = back.costs in
        λ i. with_second (record { enabled = s.second.enabled; carrier = s.second.carrier; records = s.second.records; memory = m i; costs = c i; parents = s.second.parents }) s

    after_second : after_of (after_of r table xs) table ys ≡ made (r.total + count_of xs + count_of ys) front_second.rung told_second.state told_second.records
    unfolding after_of whole_run_of chain_of
    after_second =
        let total = r.total + count_of xs + count_of ys in
        let begun : ChainState → Told = λ s. start s told_first.records in
        ap (λ (b : Bool). let f = front_from b table ys front_first.rung [] in made total f.rung (ran f.values (begun restarted)).state (ran f.values (begun restarted)).records) same_profile
        ∙ ap (λ (s : ChainState). made total front_second.rung (ran front_second.values (begun s)).state (ran front_second.values (begun s)).records) restarted_is

  module _ (pick : Result → List Delivery) where
    -- what a stream delivers of the first samples, and then of the second
    abbrev picked_of : Receiver → List Float → List Delivery
    picked_of q zs = delivered_by pick both_tables.taps both_tables.derivatives (values_of q table zs) (start_of q (one [] [])).lent.state q.records.slots

    picked_second : SplitsBack told_first.state.second
        → picked_of (after_of r table xs) ys ≡ delivered_by pick both_tables.taps both_tables.derivatives front_second.values told_first.state told_first.records
    unfolding after_of whole_run_of chain_of
    picked_second back =
        ap (λ (b : Bool). delivered_by pick both_tables.taps both_tables.derivatives (front_from b table ys front_first.rung []).values restarted told_first.records) same_profile
        ∙ ap (λ (s : ChainState). delivered_by pick both_tables.taps both_tables.derivatives front_second.values s told_first.records) (restarted_is back)

    picked_append : length xs ≡ 2 * count_of xs → SplitsBack told_first.state.second → picked_of r (xs ++ ys) ≡ picked_of r xs ++ picked_of (after_of r table xs) ys
    picked_append even back =
        let f = front_append conjugated table xs ys even (start_of r (one [] [])).rung in
        (λ i. delivered_by pick both_tables.taps both_tables.derivatives (f i).values started.state started.records)
        ∙ deliveries_append both_tables.taps both_tables.derivatives pick front_first.values front_second.values started
        ∙ ap (λ (l : List Delivery). picked_of r xs ++ l) (sym (picked_second back))

  module _ (even : length xs ≡ 2 * count_of xs) (back : SplitsBack told_first.state.second) where
    -- the state after a block of both is that after one and then the other
    pub after_append : after_of r table (xs ++ ys) ≡ after_of (after_of r table xs) table ys
    unfolding after_of whole_run_of chain_of
    after_append =
        let n : r.total + count_of (xs ++ ys) ≡ r.total + count_of xs + count_of ys = (let e = count_append xs ys even in omega arith) in
        let f = front_append conjugated table xs ys even (start_of r (one [] [])).rung in
        let t = ran_append both_tables.taps both_tables.derivatives front_first.values front_second.values started in
        let l = ran_alike both_tables.taps both_tables.derivatives front_second.values told_first.state told_first.records told_first.dibits told_first.reliabilities told_first.others told_first.other_reliabilities in
        (λ i. made (n i) (f i).rung (ran (f i).values started).state (ran (f i).values started).records)
        ∙ (λ i. made (r.total + count_of xs + count_of ys) front_second.rung (t i).state (t i).records)
        ∙ (λ i. made (r.total + count_of xs + count_of ys) front_second.rung (l.0 i) (l.1 i))
        ∙ sym (after_second back)

    -- what a block of both delivers is what one delivers and then the other, of each stream
    pub delivered_append : deliveries_of r table (xs ++ ys) ≡ deliveries_of r table xs ++ deliveries_of (after_of r table xs) table ys
    unfolding deliveries_of
    delivered_append = picked_append delivery_of even back

    pub others_append : other_deliveries_of r table (xs ++ ys) ≡ other_deliveries_of r table xs ++ other_deliveries_of (after_of r table xs) table ys
    unfolding other_deliveries_of
    others_append = picked_append other_delivery_of even back
