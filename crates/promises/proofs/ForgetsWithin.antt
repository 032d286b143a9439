-- What the whole front forgets, over the receiver's calls. After an accepted setup the values that the resampler makes of a sample depend on the latest (c + 2) d - 2 samples taken and on the table lent with it. A state that was
-- handed in leaves nothing behind once (c + 3) d samples have come since its last decimated value, c where d = 1: whatever its integrators, combs and rings held. Refused calls change nothing of this. Assumes nothing.
use Rattle.std.specs.Prelude.{◌≡◌, Bool, cond, List, [], ◌∷◌, map, ltb, eqb, ℤ, length, get_or, Float, Option, Some, None}
use Rattle.std.proofs.Math.Path.{refl}
use Rattle.std.proofs.Common.{sym, ap, ◌∙◌, subst, ⊎_elim, add-mul, arith, lt-ltb, le-ltb, le-leb}
use Prim.Native.Nat.{ℕ, zero, suc, ◌+◌, ◌-◌, ◌*◌, ◌%◌, ◌≤◌, ◌<◌}
use Rattle.std.proofs.Math.ListN.{get_or-map}
use Rattle.std.specs.Float.Ieee.{mul, of_bits, to_signed}
use Rattle.laws.specs.Places.{upto}
use Rattle.laws.specs.Ring.{latest, lt_or_ge}
use Rattle.whole.specs.Whole.{whole_of}
use Rattle.complex.specs.declared.Complex32.{Complex32}
use Rattle.complex.specs.Complex.{zero_pair}
use Rattle.decimator.specs.declared.Counts.{Counts}
use Rattle.decimator.specs.Decimator.{quantised_of, counts_of, scaled_of}
use Rattle.decimator.specs.Demand.{no_counts, ago, wrapped}
use Rattle.decimator.proofs.Boxes.{weighted_same}
use Rattle.decimator.proofs.Theorem.{wrapped_sums}
use Rattle.decimator.proofs.Values.{outputs_through}
use Rattle.front.specs.FiltersForget.{Like}
use Rattle.resampler.specs.Dimensions.{sized_of}
use Rattle.front.specs.Front as front
use Rattle.oscillator.specs.Oscillator.{conjugated_of}
use Rattle.receiver_state.specs.declared.state.Receiver.{Receiver}
use Rattle.receiver.specs.Setup.{setup_of}
use Rattle.promises.specs.Taken.{Call, taken_of, given_of, mixed_row}
use Rattle.promises.proofs.Decimates.{mixed_length, mixed_same, given_is, forgets_within, recovers_within}
use Rattle.promises.specs.Made.{made_of, tables_of}
use Rattle.promises.proofs.MadeLaws.{ring_in, taken_admitted, fits, made_alike}
use Rattle.promises.proofs.FrontTyped.{setup_arm, setup_decimation, FrontTyped, setup_front_typed}

-- ---- how far back
one_more : (c d k : ℕ) → 1 ≤ c → (c + k) * d ≡ (c - 1) * d + (k + 1) * d
one_more c d k C = ap (λ (j : ℕ). j * d) (let e : c + k ≡ c - 1 + (k + 1) = omega arith in e) ∙ add-mul (c - 1) (k + 1) d

-- the reach of a front, case by case
reach_above : (c d m : ℕ) → 1 < d → cond (ltb 1 d) ((c + 3) * d) c ≤ m → (c + 3) * d ≤ m
reach_above c d m D h = subst (λ (t : Bool). cond t ((c + 3) * d) c ≤ m) (lt-ltb 1 d D) h

reach_through : (c d m : ℕ) → d ≤ 1 → cond (ltb 1 d) ((c + 3) * d) c ≤ m → c ≤ m
reach_through c d m D h = subst (λ (t : Bool). cond t ((c + 3) * d) c ≤ m) (le-ltb 1 d D) h

-- ---- FROM AN ACCEPTED SETUP
module _ (rate offset : Float) (profile : ℤ) (table : List Float) (accepted : (setup_of rate offset profile table).number ≡ 0) where
  abbrev fresh : Receiver
  fresh = (setup_of rate offset profile table).receiver

  -- THE FRONT FORGETS: after an accepted setup, whatever is called, the values that are made of a sample are the same wherever the latest (c + 2) d - 2 samples taken and the table lent with it are
  pub front_forgets_within : (cs es : List Call) (n : ℕ) → n < length (taken_of fresh cs) → n < length (taken_of fresh es)
      → ((i : ℕ) → i ≤ n → n < i + (((sized_of rate).arm + 2) * (sized_of rate).decimation - 2) → get_or (taken_of fresh cs) i zero_pair ≡ get_or (taken_of fresh es) i zero_pair)
      → get_or (tables_of fresh cs) n [] ≡ get_or (tables_of fresh es) n [] → get_or (made_of fresh cs) n [] ≡ get_or (made_of fresh es) n []
  front_forgets_within cs es n l m same tables =
      let c = fresh.front.resampler.arm in
      let d = fresh.front.decimator.decimation in
      let typed = setup_front_typed rate offset profile table accepted in
      let real = typed.ring_real in
      let imaginary = typed.ring_imaginary in
      let arm = setup_arm rate offset profile table accepted in
      let decimation = setup_decimation rate offset profile table accepted in
      let fit = fits fresh fresh cs es n c l m refl refl in
      let low = fit.resampler.arm_low in
      let high = fit.resampler.arm_high in
      let some = fit.decimator.decimation_low in
      let e : (c + 0) * d ≡ (c - 1) * d + (0 + 1) * d = one_more c d 0 (omega arith) in
      let f : (c + 2) * d ≡ (c - 1) * d + 3 * d = one_more c d 2 (omega arith) in
      let g : ((sized_of rate).arm + 2) * (sized_of rate).decimation ≡ (c + 2) * d = (λ i. (sym arm i + 2) * sym decimation i) in
      made_alike fresh fresh cs es n c l m refl refl
      (λ k K b. record {
        same = refl;
        planes = record { inside = fit.resampler.write_in; room_xs = omega arith; room_ys = omega arith; room_us = omega arith; room_vs = omega arith; real_same = refl; imaginary_same = refl };
      })
      (let z : (c + 0) * d ≡ c * d = ap (λ (k : ℕ). k * d) (let y : c + 0 ≡ c = omega arith in y) in omega arith)
      (λ i x y. forgets_within rate offset profile table accepted cs es i (omega arith) (omega arith) (λ j a b. same j (omega arith) (omega arith)))
      tables

-- ---- FROM STATES HANDED IN

-- two receivers of one rate, with the same oscillator, profile and counts; their integrators, combs, rings and chains may hold anything
pub record Alike (r q : Receiver) : Type 0 where
  pub oscillator : r.front.oscillator ≡ q.front.oscillator
  pub decimation : r.front.decimator.decimation ≡ q.front.decimator.decimation
  pub counter : r.front.decimator.counter ≡ q.front.decimator.counter
  pub resampler : r.front.resampler ≡ q.front.resampler
  pub profile : conjugated_of r.chain.profile ≡ conjugated_of q.chain.profile
  pub first_typed : FrontTyped r
  pub second_typed : FrontTyped q

value_at : (zs : List Complex32) (n : ℕ) → n < length zs → get_or (map Some zs) n None ≡ Some (get_or zs n zero_pair)
value_at [] n l = absurd (omega arith)
value_at (z ∷ zs) zero l = refl
value_at (z ∷ zs) (suc n) l = value_at zs n (omega arith)

zero_counts : counts_of zero_pair ≡ no_counts
unfolding quantised_of whole_of mul of_bits to_signed
zero_counts = refl

counts_at : (zs : List Complex32) (n a : ℕ) → a ≤ n → ago (map counts_of zs) n a ≡ counts_of (get_or zs (n - a) zero_pair)
counts_at zs n a h =
    ap (λ (b : Bool). cond b (get_or (map counts_of zs) (n - a) no_counts) no_counts) (le-leb a n h)
    ∙ ap (get_or (map counts_of zs) (n - a)) (sym zero_counts)
    ∙ get_or-map counts_of zs (n - a) zero_pair

sums_alike : (d : ℕ) (zs ws : List Complex32) (n : ℕ) → 3 * d - 2 ≤ n + 1 → ((i : ℕ) → i ≤ n → n < i + (3 * d - 2) → get_or zs i zero_pair ≡ get_or ws i zero_pair) → wrapped_sums d (map counts_of zs) n ≡ wrapped_sums d (map counts_of ws) n
sums_alike d zs ws n h same =
    let e : (a : ℕ) → a < 3 * d - 2 → ago (map counts_of zs) n a ≡ ago (map counts_of ws) n a = (λ a l. counts_at zs n a (omega arith) ∙ ap counts_of (same (n - a) (omega arith) (omega arith)) ∙ sym (counts_at ws n a (omega arith))) in
    λ j. record {
      real = wrapped (weighted_same d (λ a. (ago (map counts_of zs) n a).real) (λ a. (ago (map counts_of ws) n a).real) (λ a l. ap (λ (c : Counts). c.real) (e a l)) j);
      imaginary = wrapped (weighted_same d (λ a. (ago (map counts_of zs) n a).imaginary) (λ a. (ago (map counts_of ws) n a).imaginary) (λ a l. ap (λ (c : Counts). c.imaginary) (e a l)) j);
    }

module _ (r q : Receiver) (k : Alike r q) (cs es : List Call) where
  abbrev mixed_first : List Complex32
  mixed_first = mixed_row (conjugated_of r.chain.profile) r.front.oscillator (taken_of r cs)

  abbrev mixed_second : List Complex32
  mixed_second = mixed_row (conjugated_of q.chain.profile) q.front.oscillator (taken_of q es)

  abbrev Taken : ℕ → Type 0
  Taken i = get_or (taken_of r cs) i zero_pair ≡ get_or (taken_of q es) i zero_pair

  mixed_alike : (i : ℕ) → i < length (taken_of r cs) → i < length (taken_of q es) → Taken i → get_or mixed_first i zero_pair ≡ get_or mixed_second i zero_pair
  mixed_alike i l m e =
      mixed_same (conjugated_of r.chain.profile) r.front.oscillator zero_pair (taken_of r cs) (taken_of q es) i l m e
      ∙ (λ j. get_or (mixed_row (k.profile j) (k.oscillator j) (taken_of q es)) i zero_pair)

  module _ (i : ℕ) (l : i < length (taken_of r cs)) (m : i < length (taken_of q es)) (same : (j : ℕ) → j ≤ i → i < j + (3 * r.front.decimator.decimation - 2) → Taken j) where
    -- d > 1: from the fourth output on
    given_above : 1 < r.front.decimator.decimation → 4 * r.front.decimator.decimation ≤ r.front.decimator.counter + i + 1 → get_or (given_of r cs) i None ≡ get_or (given_of q es) i None
    given_above D h =
        let d = r.front.decimator.decimation in
        let e = k.decimation in
        let f = k.counter in
        let early = (fits r q cs es i 0 l m e f).decimator.counter_in in
        recovers_within r (taken_admitted r cs (omega arith)) D k.first_typed.real_words k.first_typed.imaginary_words cs i l h
        ∙ ap (λ (v : Counts). cond (eqb ((r.front.decimator.counter + i + 1) % d) 0) (Some (scaled_of d v)) None)
        (sums_alike d mixed_first mixed_second i (omega arith) (λ j a b. mixed_alike j (omega arith) (omega arith) (same j a b)))
        ∙ (λ x. cond (eqb ((f x + i + 1) % e x) 0) (Some (scaled_of (e x) (wrapped_sums (e x) (map counts_of mixed_second) i))) None)
        ∙ sym (recovers_within q (taken_admitted q es (omega arith)) (omega arith) k.second_typed.real_words k.second_typed.imaginary_words es i m (omega arith))

    -- d = 1 passes the mixed samples through
    given_through : r.front.decimator.decimation ≤ 1 → get_or (given_of r cs) i None ≡ get_or (given_of q es) i None
    given_through D =
        let f = k.decimation in
        let some = (fits r q cs es i 0 l m f k.counter).decimator.decimation_low in
        let a = mixed_length (conjugated_of r.chain.profile) r.front.oscillator (taken_of r cs) in
        let b = mixed_length (conjugated_of q.chain.profile) q.front.oscillator (taken_of q es) in
        ap (λ (os : List (Option Complex32)). get_or os i None) (given_is r cs ∙ outputs_through r.front.decimator D mixed_first)
        ∙ value_at mixed_first i (omega arith)
        ∙ ap Some (mixed_alike i l m (same i (omega arith) (omega arith)))
        ∙ sym (value_at mixed_second i (omega arith))
        ∙ ap (λ (os : List (Option Complex32)). get_or os i None) (sym (given_is q es ∙ outputs_through q.front.decimator (omega arith) mixed_second))

  like_start : (n : ℕ) → n < length (taken_of r cs) → n < length (taken_of q es) → (j : ℕ) → j ≤ r.front.resampler.arm → j * r.front.decimator.decimation ≤ 0 * r.front.decimator.decimation + r.front.decimator.counter → Like j (ring_in r) (ring_in q)
  unfolding latest upto
  like_start n l m zero K h =
      let fit = fits r q cs es n 0 l m k.decimation k.counter in
      let high = fit.resampler.arm_high in
      let a = k.first_typed.ring_real in
      let b = k.first_typed.ring_imaginary in
      let c = k.second_typed.ring_real in
      let d = k.second_typed.ring_imaginary in
      record {
        same = k.resampler;
        planes = record { inside = fit.resampler.write_in; room_xs = omega arith; room_ys = omega arith; room_us = omega arith; room_vs = omega arith; real_same = refl; imaginary_same = refl };
      }
  like_start n l m (suc j) K h = let early = (fits r q cs es n 0 l m k.decimation k.counter).decimator.counter_in in absurd (omega arith)

  -- THE FRONT RECOVERS: two such states, whatever they hold, and whatever was called and taken since, make the same values of a sample once as many have come as the filters reach back, (c + 3) d since the last decimated value or
  -- c where d = 1, where the latest (c + 2) d - 2 of them and the table lent with it are the same
  pub front_recovers_within : (n : ℕ) → n < length (taken_of r cs) → n < length (taken_of q es) → front.reach_of r.front ≤ r.front.decimator.counter + n + 1
      → ((i : ℕ) → i ≤ n → n < i + ((r.front.resampler.arm + 2) * r.front.decimator.decimation - 2) → get_or (taken_of r cs) i zero_pair ≡ get_or (taken_of q es) i zero_pair)
      → get_or (tables_of r cs) n [] ≡ get_or (tables_of q es) n [] → get_or (made_of r cs) n [] ≡ get_or (made_of q es) n []
  front_recovers_within n l m reach same tables =
      let d = r.front.decimator.decimation in
      let c = r.front.resampler.arm in
      let since = r.front.decimator.counter in
      let fit = fits r q cs es n 0 l m k.decimation k.counter in
      let low = fit.resampler.arm_low in
      let some = fit.decimator.decimation_low in
      let early = fit.decimator.counter_in in
      let f : (c + 2) * d ≡ (c - 1) * d + 3 * d = one_more c d 2 (omega arith) in
      ⊎_elim
      (λ D.
      let far = reach_above c d _ D reach in
      let e : (c + 3) * d ≡ (c - 1) * d + 4 * d = one_more c d 3 (omega arith) in
      made_alike r q cs es n 0 l m k.decimation k.counter (like_start n l m) (omega arith)
      (λ i a b. given_above i (omega arith) (omega arith) (λ j x y. same j (omega arith) (omega arith)) D (omega arith)) tables)
      (λ D.
      let far = reach_through c d _ D reach in
      let e : (c - 1) * d ≡ c - 1 = ap (λ (x : ℕ). (c - 1) * x) (let g : d ≡ 1 = omega arith in g) ∙ (let g : (c - 1) * 1 ≡ c - 1 = omega arith in g) in
      made_alike r q cs es n 0 l m k.decimation k.counter (like_start n l m) (omega arith)
      (λ i a b. given_through i (omega arith) (omega arith) (λ j x y. same j (omega arith) (omega arith)) D) tables)
      (lt_or_ge 1 d)
