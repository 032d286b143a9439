-- Demand 3 for the receiver's own decimator, over all the samples that it takes, block after block. At d above 1 every d-th sample since setup gives the resampler an output, and no other does; the output is
-- the sum of the latest 3d - 2 mixed and quantised samples, each weighted by the number of ways to write its age as an ordered sum of three numbers from 0 to d - 1, modulo 2 ^ 64 and read as signed, then
-- scaled and narrowed. Where those samples lie within 2 ^ 44, as they do while mixed parts are at most 2 ^ 29 in size, it is exactly that sum. At d = 1 the mixed samples are passed through. Assumes nothing.
use Rattle.std.specs.Prelude.{◌≡◌, Bool, true, false, cond, ◌⊎◌, eqb, ℤ, length, get_or, Float, Some, None, Option}
use Rattle.std.proofs.Math.Path.{refl, sym, ap}
use Rattle.std.proofs.Common.{◌∙◌, inl, inr, arith, le-ltb}
use mathlib.Core.List.{List, [], ◌∷◌, ◌++◌, map, foldl, foldl-append}
use Prim.Native.Nat.{ℕ, zero, suc, ◌+◌, ◌-◌, ◌*◌, ◌%◌, ◌≤◌, ◌<◌}
use Rattle.std.proofs.lemmas.List.{length-map}
use Rattle.std.proofs.Math.ListN.{get_or-map}
use Rattle.std.specs.Float.{binary64}
use Rattle.std.specs.Float.Ieee.{of_bits, of_int, to_unsigned, add, mul, div, lt, le}
use Rattle.numbers.specs.Constants.{zero64}
use Rattle.laws.specs.Turns.{turns}
use Rattle.laws.specs.Places.{upto}
use Rattle.numbers.specs.Numbers.{abs_of, is_finite}
use Rattle.whole.specs.Whole.{whole_of}
use Rattle.complex.specs.declared.Complex32.{Complex32}
use Rattle.complex.specs.Complex.{zero_pair}
use Rattle.oscillator.specs.declared.Oscillator.{Oscillator}
use Rattle.oscillator.specs.Oscillator.{conjugated_of, fresh_of as fresh_oscillator, turned_of, mixed_of}
use Rattle.decimator.specs.declared.Decimator.{Decimator}
use Rattle.decimator.specs.declared.Counts.{Counts}
use Rattle.decimator.specs.Decimator.{Counting, counts_of, fresh_of, scaled_of, raw_outputs_of, output_of, stepped_of, outputs_of}
use Rattle.decimator.specs.Demand.{ago, sums_at}
use Rattle.decimator.proofs.Part.{Words}
use Rattle.decimator.proofs.Theorem.{decimates_at, wrapped_sums, demanded_sum, demanded_silent, Within, decimates_exactly, recovers}
use Rattle.decimator.proofs.Values.{fresh_counting, outputs_above, outputs_through, outputs_forget}
use Rattle.resampler.specs.Dimensions.{decimation_of, decimated_of, arm_length_of, sized_of}
use Rattle.front.specs.Resample.{resample_state, resample_values}
use Rattle.resampler.specs.Admitted.{Sized}
use Rattle.resampler.specs.Ranges.{sized_in}
use Rattle.front.specs.Front as front
use Rattle.taps.specs.Taps.{both_tables}
use Rattle.chain.specs.Chain as chain
use Rattle.chain.specs.Rows as rows
use Rattle.chain.specs.RowLaws.{ran_profile}
use Rattle.receiver_state.specs.declared.state.Receiver.{Receiver}
use Rattle.receiver_state.specs.State.{fresh_receiver}
use Rattle.checks.specs.Checks.{rate_refused, offset_refused, Judged}
use Rattle.receiver.specs.Admitted.{judged_of}
use Rattle.receiver.specs.Setup.{setup_of}
use Rattle.receiver.specs.Admitted.{admitted_of}
use Rattle.checks.specs.Fits.{fits_from}
use Rattle.samples.specs.Samples.{count_of}
use Rattle.run.specs.Run.{front_at, whole_run_of}
use Rattle.receiver.specs.Block.{one, dibit_room, reliability_room, start_of, accepted_of, block_of}
use Rattle.promises.specs.Tables.{setup_fresh}
use Rattle.promises.specs.Small.{Small, small_counts}
use Rattle.promises.specs.Taken.{Call, answered_of, taken_where, taken_of, rung_before, given_at, given_of, mixed_row}
use Rattle.answers.specs.declared.soft.Soft.{Soft}

-- ---- rows in turn
abbrev oscillator_after : Oscillator → List Complex32 → Oscillator
oscillator_after o xs = foldl (λ (q : Oscillator) (x : Complex32). turned_of q) o xs

abbrev decimator_after : Decimator → List Complex32 → Decimator
decimator_after s zs = foldl (λ (t : Decimator) (z : Complex32). (stepped_of t z).decimator) s zs

mixed_append : (conjugated : Bool) (o : Oscillator) (xs ys : List Complex32) → mixed_row conjugated o (xs ++ ys) ≡ mixed_row conjugated o xs ++ mixed_row conjugated (oscillator_after o xs) ys
unfolding mixed_row
mixed_append conjugated o [] ys = refl
mixed_append conjugated o (x ∷ xs) ys = ap (λ (l : List Complex32). mixed_of o x conjugated ∷ l) (mixed_append conjugated (turned_of o) xs ys)

pub mixed_length : (conjugated : Bool) (o : Oscillator) (xs : List Complex32) → length (mixed_row conjugated o xs) ≡ length xs
unfolding mixed_row
mixed_length conjugated o [] = refl
mixed_length conjugated o (x ∷ xs) = ap suc (mixed_length conjugated (turned_of o) xs)

outputs_append : (s : Decimator) (xs ys : List Complex32) → outputs_of s (xs ++ ys) ≡ outputs_of s xs ++ outputs_of (decimator_after s xs) ys
unfolding outputs_of
outputs_append s [] ys = refl
outputs_append s (x ∷ xs) ys = ap (λ (l : List (Option Complex32)). (stepped_of s x).output ∷ l) (outputs_append (stepped_of s x).decimator xs ys)

-- ---- a front over the first k samples: its oscillator, its decimator, and what that gives
module _ (conjugated : Bool) (table xs : List Float) (h : front.Run) where
  abbrev at : ℕ → front.Run
  at k = front.front_of conjugated table xs k h

  abbrev o : Oscillator
  o = h.rung.place.oscillator

  abbrev s : Decimator
  s = h.rung.place.decimator

  abbrev heads : ℕ → List Complex32
  heads k = upto (front.sample_at xs) k

  abbrev given : ℕ → Option Complex32
  given k = (front.step_of conjugated (at k).rung.place.oscillator (at k).rung.place.decimator (front.sample_at xs k)).output

  oscillator_at : (k : ℕ) → (at k).rung.place.oscillator ≡ oscillator_after o (heads k)
  unfolding front.front_of turns front.more front.front_step upto
  oscillator_at zero = refl
  oscillator_at (suc k) = ap turned_of (oscillator_at k) ∙ sym (foldl-append (λ (q : Oscillator) (x : Complex32). turned_of q) o (heads k) (front.sample_at xs k ∷ []))

  mixed_more : (k : ℕ) → mixed_row conjugated o (heads (suc k)) ≡ mixed_row conjugated o (heads k) ++ (mixed_of (at k).rung.place.oscillator (front.sample_at xs k) conjugated ∷ [])
  unfolding upto mixed_row
  mixed_more k =
      mixed_append conjugated o (heads k) (front.sample_at xs k ∷ [])
      ∙ ap (λ (q : Oscillator). mixed_row conjugated o (heads k) ++ (mixed_of q (front.sample_at xs k) conjugated ∷ [])) (sym (oscillator_at k))

  decimator_at : (k : ℕ) → (at k).rung.place.decimator ≡ decimator_after s (mixed_row conjugated o (heads k))
  unfolding front.front_of turns front.more front.front_step
  decimator_at zero = unfold upto mixed_row in refl
  decimator_at (suc k) =
      let m = mixed_of (at k).rung.place.oscillator (front.sample_at xs k) conjugated in
      ap (λ (t : Decimator). (stepped_of t m).decimator) (decimator_at k)
      ∙ sym (foldl-append (λ (t : Decimator) (z : Complex32). (stepped_of t z).decimator) s (mixed_row conjugated o (heads k)) (m ∷ []))
      ∙ ap (decimator_after s) (sym (mixed_more k))

  given_row : (k : ℕ) → upto given k ≡ outputs_of s (mixed_row conjugated o (heads k))
  unfolding upto outputs_of
  given_row zero = unfold mixed_row in refl
  given_row (suc k) =
      let m = mixed_of (at k).rung.place.oscillator (front.sample_at xs k) conjugated in
      let ms = mixed_row conjugated o (heads k) in
      (λ i. given_row k i ++ ((stepped_of (decimator_at k i) m).output ∷ []))
      ∙ sym (outputs_append s ms (m ∷ []))
      ∙ ap (outputs_of s) (sym (mixed_more k))

-- ---- a chain keeps its profile
chain_profile : (values : List Complex32) (t : chain.ChainState) (records : List (Option Soft)) (room other : rows.Room) → (rows.chain_of values t records room other).state.place.profile ≡ t.place.profile
unfolding rows.chain_of
chain_profile values t records room other = ran_profile both_tables.taps both_tables.derivatives values (rows.start t records)

-- ---- a call is accepted and moves the front over its samples, or refused and leaves the state as it was
pub record Accepted (r : Receiver) (c : Call) : Type 0 where
  pub accepted : eqb (answered_of r c).number 0 ≡ true
  pub moved : (start_of (answered_of r c).receiver (one [] [])).rung ≡ rung_before r c (count_of c.samples)
  pub profile : (answered_of r c).receiver.chain.profile ≡ r.chain.profile

pub record Refused (r : Receiver) (c : Call) : Type 0 where
  pub refused : eqb (answered_of r c).number 0 ≡ false
  pub receiver : (answered_of r c).receiver ≡ r

pub answered : (r : Receiver) (c : Call) → Accepted r c ⊎ Refused r c
unfolding block_of accepted_of whole_run_of
answered r c = go (eqb judged.number 0) refl
  where
    judged : Judged
    judged = judged_of r c.samples (length c.table) (dibit_room c.rooms) (reliability_room c.rooms)

    go : (b : Bool) → eqb judged.number 0 ≡ b → Accepted r c ⊎ Refused r c
    go true e = inl (record { accepted = rw e; moved = rw e; profile = rw e (chain_profile _ _ _ _ _) })
    go false e = inr (record { refused = rw e (e); receiver = rw e })

-- the state after an accepted one answers from where the front came to
moved_on : (r : Receiver) (c : Call) → Accepted r c → (zs : List Complex32)
    → outputs_of (answered_of r c).receiver.front.decimator (mixed_row (conjugated_of (answered_of r c).receiver.chain.profile) (answered_of r c).receiver.front.oscillator zs)
    ≡ outputs_of (decimator_after r.front.decimator (mixed_row (conjugated_of r.chain.profile) r.front.oscillator (upto (front.sample_at c.samples) (count_of c.samples))))
    (mixed_row (conjugated_of r.chain.profile) (oscillator_after r.front.oscillator (upto (front.sample_at c.samples) (count_of c.samples))) zs)
moved_on r c t zs =
    let b = conjugated_of r.chain.profile in
    let k = count_of c.samples in
    let h : front.Run = record { rung = (start_of r c.rooms).rung; values = [] } in
    (λ i. outputs_of (t.moved i).place.decimator (mixed_row (conjugated_of (t.profile i)) (t.moved i).place.oscillator zs))
    ∙ (λ i. outputs_of (decimator_at b c.table c.samples h k i) (mixed_row b (oscillator_at b c.table c.samples h k i) zs))

-- ---- all calls: what the decimator gives for each sample taken is its outputs to the mixed samples in one row
pub given_is : (r : Receiver) (cs : List Call) → given_of r cs ≡ outputs_of r.front.decimator (mixed_row (conjugated_of r.chain.profile) r.front.oscillator (taken_of r cs))
unfolding given_of taken_of front.samples_of
given_is r [] = unfold mixed_row outputs_of in refl
given_is r (c ∷ cs) = elim (answered r c) [
  | inl t ↦
      let after = (answered_of r c).receiver in
      let b = conjugated_of r.chain.profile in
      let q = r.front.oscillator in
      let t₀ = r.front.decimator in
      let rest = taken_of after cs in
      let k = count_of c.samples in
      let h : front.Run = record { rung = (start_of r c.rooms).rung; values = [] } in
      ap (λ (y : Bool). cond y (upto (given_at r c) k) [] ++ given_of after cs) t.accepted
      ∙ (λ i. given_row b c.table c.samples h k i ++ given_is after cs i)
      ∙ ap (λ (l : List (Option Complex32)). outputs_of t₀ (mixed_row b q (upto (front.sample_at c.samples) k)) ++ l) (moved_on r c t rest)
      ∙ sym (outputs_append t₀ (mixed_row b q (upto (front.sample_at c.samples) k)) (mixed_row b (oscillator_after q (upto (front.sample_at c.samples) k)) rest))
      ∙ ap (outputs_of t₀) (sym (mixed_append b q (upto (front.sample_at c.samples) k) rest))
      ∙ ap (λ (y : Bool). outputs_of t₀ (mixed_row b q (taken_where y c ++ rest))) (sym t.accepted)
  | inr t ↦
      let after = (answered_of r c).receiver in
      ap (λ (y : Bool). cond y (upto (given_at r c) (count_of c.samples)) [] ++ given_of after cs) t.refused
      ∙ given_is after cs
      ∙ ap (λ (u : Receiver). outputs_of u.front.decimator (mixed_row (conjugated_of u.chain.profile) u.front.oscillator (taken_of after cs))) t.receiver
      ∙ ap (λ (y : Bool). outputs_of r.front.decimator (mixed_row (conjugated_of r.chain.profile) r.front.oscillator (taken_where y c ++ taken_of after cs))) (sym t.refused)
]

-- and that is what the resampler takes: its place, its ring and the values that it makes go on by it and by nothing else
pub hears : (r : Receiver) (c : Call) (k : ℕ) → front.ring_of (rung_before r c (suc k)) ≡ resample_state c.table (front.ring_of (rung_before r c k)) (given_at r c k)
unfolding front.front_of turns front.more front.front_step
hears r c k = refl

pub makes : (r : Receiver) (c : Call) (k : ℕ)
    → (front_at (conjugated_of r.chain.profile) c.table c.samples (start_of r c.rooms) (suc k)).values
    ≡ (front_at (conjugated_of r.chain.profile) c.table c.samples (start_of r c.rooms) k).values ++ resample_values c.table (front.ring_of (rung_before r c k)) (given_at r c k)
unfolding front.front_of turns front.more front.front_step
makes r c k = refl

-- at d above 1 the outputs to mixed samples are the scaled answers to them quantised
answered_at : (d : ℕ) → 1 < d → (t : Decimator) → Counting d t → (zs : List Complex32) (n : ℕ) → get_or (outputs_of t zs) n None ≡ output_of d (get_or (raw_outputs_of t (map counts_of zs)) n None)
unfolding output_of
answered_at d D t k zs n = ap (λ (os : List (Option Complex32)). get_or os n None) (outputs_above d D t k zs) ∙ get_or-map (output_of d) (raw_outputs_of t (map counts_of zs)) n None

-- samples that agree, mixed
pub mixed_same : (conjugated : Bool) (o : Oscillator) (none : Complex32) (xs ys : List Complex32) (i : ℕ) → i < length xs → i < length ys → get_or xs i none ≡ get_or ys i none
    → get_or (mixed_row conjugated o xs) i none ≡ get_or (mixed_row conjugated o ys) i none
unfolding mixed_row
mixed_same conjugated o none [] ys i l m e = absurd (omega arith)
mixed_same conjugated o none (x ∷ xs) [] i l m e = absurd (omega arith)
mixed_same conjugated o none (x ∷ xs) (y ∷ ys) zero l m e = ap (λ (z : Complex32). mixed_of o z conjugated) e
mixed_same conjugated o none (x ∷ xs) (y ∷ ys) (suc i) l m e = mixed_same conjugated (turned_of o) none xs ys i (omega arith) (omega arith) e

-- ---- DEMAND 3: after an accepted setup, whatever is called
module _ (rate offset : Float) (profile : ℤ) (table : List Float) where
  abbrev pub d : ℕ
  d = (sized_of rate).decimation

  abbrev pub fresh : Receiver
  fresh = (setup_of rate offset profile table).receiver

  -- the samples taken since setup, mixed
  abbrev pub mixed : List Call → List Complex32
  mixed cs = mixed_row (conjugated_of profile) (fresh_oscillator rate offset) (taken_of fresh cs)

  -- and quantised
  abbrev pub quantised : List Call → List Counts
  quantised cs = map counts_of (mixed cs)

  mixed_all : (cs : List Call) → length (mixed cs) ≡ length (taken_of fresh cs)
  mixed_all cs = mixed_length (conjugated_of profile) (fresh_oscillator rate offset) (taken_of fresh cs)

  module _ (accepted : (setup_of rate offset profile table).number ≡ 0) where
    sized : Sized (sized_of rate)
    sized = sized_in rate (setup_fresh rate offset profile table accepted).rate_in

    pub given_fresh : (cs : List Call) → given_of fresh cs ≡ outputs_of (fresh_of d) (mixed cs)
    unfolding fresh_receiver
    given_fresh cs =
        let e = (setup_fresh rate offset profile table accepted).receiver in
        given_is fresh cs ∙ (λ i. outputs_of (e i).front.decimator (mixed_row (conjugated_of (e i).chain.profile) (e i).front.oscillator (taken_of fresh cs)))

    -- d = 1 passes the mixed samples through
    pub given_through : (cs : List Call) → d ≤ 1 → given_of fresh cs ≡ map Some (mixed cs)
    unfolding fresh_of
    given_through cs l = given_fresh cs ∙ outputs_through (fresh_of d) l (mixed cs)

    module _ (cs : List Call) (D : 1 < d) (n : ℕ) (l : n < length (taken_of fresh cs)) where
      inside : n < length (quantised cs)
      inside = let a = length-map (mixed cs) counts_of in let b = mixed_all cs in omega arith

      given_at_lem : get_or (given_of fresh cs) n None ≡ output_of d (get_or (raw_outputs_of (fresh_of d) (quantised cs)) n None)
      given_at_lem = ap (λ (os : List (Option Complex32)). get_or os n None) (given_fresh cs) ∙ answered_at d D (fresh_of d) (fresh_counting d (omega arith)) (mixed cs) n

      -- every d-th sample gives an output
      pub sounds : (n + 1) % d ≡ 0 → get_or (given_of fresh cs) n None ≡ Some (scaled_of d (wrapped_sums d (quantised cs) n))
      unfolding output_of
      sounds e = given_at_lem ∙ ap (output_of d) (decimates_at d (omega arith) (quantised cs) n inside ∙ demanded_sum d (quantised cs) n e)

      -- and no other does
      pub hushed : ((n + 1) % d ≡ 0 → ⊥) → get_or (given_of fresh cs) n None ≡ None
      unfolding output_of
      hushed e = given_at_lem ∙ ap (output_of d) (decimates_at d (omega arith) (quantised cs) n inside ∙ demanded_silent d (quantised cs) n e)

      -- exactly that sum, where the latest 3d - 2 quantised samples lie within 2 ^ 44 in both parts
      pub sounds_exactly : (n + 1) % d ≡ 0 → ((a : ℕ) → a < 3 * d - 2 → Within (ago (quantised cs) n a)) → get_or (given_of fresh cs) n None ≡ Some (scaled_of d (sums_at d (quantised cs) n))
      unfolding output_of
      sounds_exactly e k = given_at_lem ∙ ap (output_of d) (decimates_exactly d (omega arith) sized.decimation_high (quantised cs) n inside e k)

      -- so where those mixed samples have parts of at most 2 ^ 29 in size
      pub sounds_small : (n + 1) % d ≡ 0 → ((i : ℕ) → i ≤ n → n < i + (3 * d - 2) → Small (get_or (mixed cs) i zero_pair)) → get_or (given_of fresh cs) n None ≡ Some (scaled_of d (sums_at d (quantised cs) n))
      sounds_small e k = sounds_exactly e (λ a m. small_counts (conjugated_of profile) (fresh_oscillator rate offset) (taken_of fresh cs) n a (λ h. k (n - a) (omega arith) (omega arith)))

    -- what was taken more than 3d - 2 samples ago leaves nothing behind
    pub forgets_within : (cs es : List Call) (n : ℕ) → n < length (taken_of fresh cs) → n < length (taken_of fresh es)
        → ((i : ℕ) → i ≤ n → n < i + (3 * d - 2) → get_or (taken_of fresh cs) i zero_pair ≡ get_or (taken_of fresh es) i zero_pair)
        → get_or (given_of fresh cs) n None ≡ get_or (given_of fresh es) n None
    forgets_within cs es n l m same =
        let some = sized.decimation_low in
        let p = mixed_all cs in
        let q = mixed_all es in
        ap (λ (os : List (Option Complex32)). get_or os n None) (given_fresh cs)
        ∙ outputs_forget d (omega arith) zero_pair (mixed cs) (mixed es) n (omega arith) (omega arith)
        (λ i h k. mixed_same (conjugated_of profile) (fresh_oscillator rate offset) zero_pair (taken_of fresh cs) (taken_of fresh es) i (omega arith) (omega arith) (same i h k))
        ∙ ap (λ (os : List (Option Complex32)). get_or os n None) (sym (given_fresh es))

-- such setups there are: 384,000 samples a second (P9), d = 2, in the middle of the band, with room for 9,216 taps
abbrev p9 : Float
p9 = of_bits binary64 0x4117_7000_0000_0000

p9_rate : rate_refused p9 ≡ false
unfolding rate_refused is_finite of_bits lt
p9_rate = refl

p9_offset : offset_refused p9 zero64 ≡ false
unfolding offset_refused is_finite abs_of of_bits le div add
p9_offset = refl

pub p9_sizes : ((sized_of p9).decimation ≡ 2) × ((sized_of p9).arm ≡ 288)
unfolding sized_of decimation_of decimated_of arm_length_of whole_of mul div of_int of_bits to_unsigned
p9_sizes = (refl, refl)

pub p9_decimates : (profile : ℤ) (table : List Float) → 9216 ≤ length table → ((setup_of p9 zero64 profile table).number ≡ 0) × ((sized_of p9).decimation ≡ 2)
unfolding setup_of
p9_decimates profile table h = (rw (p9_rate, p9_offset, p9_sizes.1, le-ltb (length table) 9216 h), p9_sizes.0)

-- ---- a state that was handed in: from the fourth output on its samples alone decide, whatever its integrators and combs held
pub recovers_within : (r : Receiver) → admitted_of r ≡ true → 1 < r.front.decimator.decimation → Words r.front.decimator.integrators.real → Words r.front.decimator.integrators.imaginary
    → (cs : List Call) (n : ℕ) → n < length (taken_of r cs) → 4 * r.front.decimator.decimation ≤ r.front.decimator.counter + n + 1
    → get_or (given_of r cs) n None
    ≡ cond (eqb ((r.front.decimator.counter + n + 1) % r.front.decimator.decimation) 0)
    (Some (scaled_of r.front.decimator.decimation (wrapped_sums r.front.decimator.decimation (map counts_of (mixed_row (conjugated_of r.chain.profile) r.front.oscillator (taken_of r cs))) n))) None
unfolding output_of
recovers_within r h D R I cs n l m =
    let t = r.front.decimator in
    let zs = mixed_row (conjugated_of r.chain.profile) r.front.oscillator (taken_of r cs) in
    let early : t.counter < t.decimation = (fits_from r.total r.front r.chain r.second r.planes.decisions.parents r.ancestors h).front_fits.decimator.counter_in in
    let a = length-map zs counts_of in
    let b = mixed_length (conjugated_of r.chain.profile) r.front.oscillator (taken_of r cs) in
    ap (λ (os : List (Option Complex32)). get_or os n None) (given_is r cs)
    ∙ answered_at t.decimation D t (record { by = refl; early = early }) zs n
    ∙ ap (output_of t.decimation) (recovers t R I early (map counts_of zs) n (omega arith) m)
    ∙ through (eqb ((t.counter + n + 1) % t.decimation) 0) (wrapped_sums t.decimation (map counts_of zs) n)
  where
    through : (b : Bool) (v : Counts) → output_of r.front.decimator.decimation (cond b (Some v) None) ≡ cond b (Some (scaled_of r.front.decimator.decimation v)) None
    through true v = refl
    through false v = refl
