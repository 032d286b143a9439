-- That the theorems speak of something. From every accepted setup finite samples are accepted in any parts; a setup at 384,000 samples a second is accepted, and from its state a block of zero samples, of which two make the
-- decimator's first output. Assumes nothing.
use Rattle.std.specs.Prelude.{◌≡◌, true, cond, ◌&&◌, List, [], ◌∷◌, ◌++◌, ℕ, ◌+◌, ◌*◌, ◌%◌, ◌^◌, ◌≤◌, ltb, eqb, ℤ, pos, length, get_or, replicate, Float, Some, None}
use Rattle.std.proofs.Math.Path.{refl, ap}
use Rattle.std.proofs.Common.{sym, ◌∙◌, subst, append-nil, arith}
use Rattle.std.proofs.lemmas.List.{length-replicate, get_or-replicate}
use Rattle.std.specs.Float.{binary64}
use Rattle.std.specs.Float.Ieee.{of_bits}
use Rattle.laws.specs.Places.{upto, length_upto, all_true}
use Rattle.numbers.specs.Numbers.{is_finite}
use Rattle.numbers.specs.Constants.{zero32, zero64}
use Rattle.complex.specs.declared.Complex32.{Complex32}
use Rattle.complex.specs.Complex.{zero_pair}
use Rattle.resampler.specs.Dimensions.{sized_of}
use Rattle.front.specs.Front as front
use Rattle.receiver_state.specs.declared.state.Receiver.{Receiver}
use Rattle.receiver_state.specs.State.{zeroes, fresh_receiver}
use Rattle.samples.specs.Samples.{count_of, real_of, imaginary_of, finite_of}
use Rattle.receiver.specs.Setup.{setup_of}
use Rattle.receiver.specs.Laws.{setup_admitted}
use Rattle.promises.proofs.AcceptsLaws.{setup_typed}
use Rattle.receiver.specs.Block.{one}
use Rattle.promises.specs.Cutting.{Part, AllAccepted, samples_in, AllRoomy}
use Rattle.promises.specs.Tables.{setup_fresh, setup_writes}
use Rattle.promises.specs.Taken.{Call, answered_of, taken_of, given_of}
use Rattle.promises.proofs.Decimates.{sounds, hushed, p9_sizes, p9_decimates}
use Rattle.promises.specs.Recut.{AllFew, Takes}
use Rattle.promises.proofs.RecutLaws.{parts_accepted}
use Rattle.promises.proofs.FrontTyped.{setup_arm, setup_decimation, setup_front_typed}
use Rattle.promises.proofs.ForgetsWithin.{Alike}

-- ---- every accepted setup
module _ (rate offset : Float) (profile : ℤ) (lent : List Float) (accepted : (setup_of rate offset profile lent).number ≡ 0) where
  abbrev fresh : Receiver
  fresh = (setup_of rate offset profile lent).receiver

  abbrev written : List Float
  written = (setup_of rate offset profile lent).table

  setup_takes : (xs : List Float) → count_of xs ≤ 2 ^ 52 → finite_of xs ≡ true → Takes fresh written xs
  unfolding fresh_receiver
  setup_takes xs few finite =
      let f = setup_fresh rate offset profile lent accepted in
      let size = (setup_writes rate offset profile lent accepted).size in
      let arm = setup_arm rate offset profile lent accepted in
      let total : fresh.total ≡ 0 = ap (λ (r : Receiver). r.total) f.receiver in
      let room = f.room in
      record {
        admitted = setup_admitted rate offset profile lent accepted;
        table_in = omega arith;
        total_in = omega arith;
        finite = finite;
      }

  -- FROM EVERY ACCEPTED SETUP, with the table that it wrote, finite samples, up to 2^52 of them, are accepted in all parts of whole samples, at most 65,536 of them, with rooms that suffice
  pub setup_accepts : (parts : List Part) → count_of (samples_in parts) ≤ 2 ^ 52 → finite_of (samples_in parts) ≡ true → AllRoomy parts → AllFew parts → AllAccepted fresh written parts
  setup_accepts parts n finite roomy few = parts_accepted fresh written parts (setup_typed rate offset profile lent accepted) (setup_takes (samples_in parts) n finite) roomy few

-- ---- 384,000 samples a second, offset 0, profile 0, and room for 32 x 288 taps
abbrev pub rate : Float
rate = of_bits binary64 0x4117_7000_0000_0000

abbrev pub lent : List Float
lent = zeroes 9216

pub setup_accepted : (setup_of rate zero64 (pos 0) lent).number ≡ 0
setup_accepted = let e = length-replicate 9216 zero32 in (p9_decimates (pos 0) lent (omega arith)).0

by_two : (sized_of rate).decimation ≡ 2
by_two = p9_sizes.0

abbrev pub receiver : Receiver
receiver = (setup_of rate zero64 (pos 0) lent).receiver

abbrev pub taps : List Float
taps = (setup_of rate zero64 (pos 0) lent).table

-- n zero samples, with rooms that just suffice
abbrev pub silence : ℕ → Call
silence n = record { table = taps; samples = zeroes (2 * n); rooms = one (replicate (2 * n + 4) 0) (replicate (4 * n + 8) 0) }

zero_finite : is_finite zero32 ≡ true
unfolding is_finite of_bits
zero_finite = refl

count_zeroes : (n : ℕ) → count_of (zeroes (2 * n)) ≡ n
count_zeroes n = let e = length-replicate (2 * n) zero32 in omega arith

finite_zeroes : (n : ℕ) → finite_of (zeroes (2 * n)) ≡ true
unfolding finite_of
finite_zeroes n = all_true (λ (k : ℕ). is_finite (real_of (zeroes (2 * n)) k) && is_finite (imaginary_of (zeroes (2 * n)) k)) (count_of (zeroes (2 * n))) (λ k l.
    let c = count_zeroes n in
    let a = ap is_finite (get_or-replicate (2 * n) (2 * k) zero32 _ (omega arith)) ∙ zero_finite in
    let b = ap is_finite (get_or-replicate (2 * n) (2 * k + 1) zero32 _ (omega arith)) ∙ zero_finite in
    (λ i. a i && b i))

-- A BLOCK OF ZEROS IS ACCEPTED, up to 65,536 samples
pub silence_accepted : (n : ℕ) → n ≤ 65536 → (answered_of receiver (silence n)).number ≡ 0
silence_accepted n h =
    let part : Part = record { samples = zeroes (2 * n); rooms = one (replicate (2 * n + 4) 0) (replicate (4 * n + 8) 0) } in
    let c = count_zeroes n in
    let l = length-replicate (2 * n) zero32 in
    let a = length-replicate {A = ℕ} (2 * n + 4) 0 in
    let b = length-replicate {A = ℕ} (4 * n + 8) 0 in
    let z = append-nil (zeroes (2 * n)) in
    (setup_accepts rate zero64 (pos 0) lent setup_accepted (part ∷ [])
    (subst (λ (xs : List Float). count_of xs ≤ 2 ^ 52) (sym z) (omega arith)) (ap finite_of z ∙ finite_zeroes n)
    ((omega arith, record { dibits = omega arith; reliabilities = omega arith }), tt) (omega arith, tt)).0

silence_taken : (n : ℕ) → n ≤ 65536 → taken_of receiver (silence n ∷ []) ≡ front.samples_of (zeroes (2 * n))
unfolding taken_of
silence_taken n h = ap (λ (k : ℕ). cond (eqb k 0) (front.samples_of (zeroes (2 * n))) [] ++ []) (silence_accepted n h) ∙ append-nil (front.samples_of (zeroes (2 * n)))

-- its samples are taken, so that there are samples of every number up to 65,536 to speak of
pub all_taken : (n : ℕ) → n ≤ 65536 → length (taken_of receiver (silence n ∷ [])) ≡ n
unfolding front.samples_of
all_taken n h = ap length (silence_taken n h) ∙ length_upto _ (count_of (zeroes (2 * n))) ∙ count_zeroes n

-- TWO ZERO SAMPLES ARE TAKEN
pub two_taken : taken_of receiver (silence 2 ∷ []) ≡ zero_pair ∷ zero_pair ∷ []
two_taken = silence_taken 2 (omega arith) ∙ unfold front.samples_of upto in refl

-- the first of them gives the resampler nothing
pub first_hushed : get_or (given_of receiver (silence 2 ∷ [])) 0 None ≡ None
first_hushed =
    let l = all_taken 2 (omega arith) in
    let d = by_two in
    hushed rate zero64 (pos 0) lent setup_accepted (silence 2 ∷ []) (omega arith) 0 (omega arith) (λ e. let f = ap (λ (k : ℕ). (0 + 1) % k) (sym by_two) ∙ e in let g : (0 + 1) % 2 ≡ 1 = omega arith in omega arith)

-- and the second a decimated value, d being 2
pub second_sounds : (v : Complex32) × (get_or (given_of receiver (silence 2 ∷ [])) 1 None ≡ Some v)
second_sounds =
    let l = all_taken 2 (omega arith) in
    let d = by_two in
    (_, sounds rate zero64 (pos 0) lent setup_accepted (silence 2 ∷ []) (omega arith) 1 (omega arith) (ap (λ (k : ℕ). (1 + 1) % k) by_two ∙ refl))

-- 582 samples are past the reach of its front
pub reach_is : front.reach_of receiver.front ≡ 582
reach_is =
    let d = setup_decimation rate zero64 (pos 0) lent setup_accepted ∙ by_two in
    let c = setup_arm rate zero64 (pos 0) lent setup_accepted ∙ p9_sizes.1 in
    (λ i. cond (ltb 1 (d i)) ((c i + 3) * d i) (c i)) ∙ refl

-- and it is like itself, as `front_recovers_within` asks
pub like_itself : Alike receiver receiver
like_itself =
    let typed = setup_front_typed rate zero64 (pos 0) lent setup_accepted in
    record { oscillator = refl; decimation = refl; counter = refl; resampler = refl; profile = refl; first_typed = typed; second_typed = typed }
