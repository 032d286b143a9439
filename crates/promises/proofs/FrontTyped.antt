-- What a setup gives its front, what the type of a state says of it, and that every state from a call has it. Assumes nothing.
use Rattle.std.specs.Prelude.{◌≡◌, refl, Bool, true, false, List, [], ℕ, zero, suc, ◌+◌, ◌%◌, ◌^◌, ◌<◌, ltb, ℤ, length, Float, Option, Some, None}
use Rattle.std.proofs.Common.{sym, ◌∙◌, subst, inl, inr, mod-lt, lit<, length-set}
use Rattle.std.proofs.Math.Path.{ap}
use Rattle.std.proofs.lemmas.List.{length-replicate}
use Rattle.laws.specs.Turns.{turns}
use Rattle.laws.specs.Modulo.{modulo}
use Rattle.numbers.specs.Constants.{zero32}
use Rattle.complex.specs.declared.Complex32.{Complex32}
use Rattle.decimator.specs.declared.Stages.{Stages}
use Rattle.decimator.specs.declared.Decimator.{Decimator}
use Rattle.decimator.specs.Decimator.{integrated_of, advanced_of, counts_of, fresh_of, stepped_of}
use Rattle.decimator.proofs.Part.{Words}
use Rattle.oscillator.specs.Oscillator.{conjugated_of, mixed_of}
use Rattle.front.specs.Resample.{ResamplerState, resample_state}
use Rattle.resampler.specs.Pass.{resampled_of}
use Rattle.resampler.specs.Dimensions.{sized_of}
use Rattle.resampler.specs.Dimensions as resampler
use Rattle.front.specs.Front as front
use Rattle.receiver_state.specs.declared.state.Receiver.{Receiver}
use Rattle.receiver_state.specs.State.{fresh_receiver}
use Rattle.samples.specs.Samples.{count_of}
use Rattle.receiver.specs.Block.{one, start_of}
use Rattle.receiver.specs.Setup.{setup_of}
use Rattle.promises.specs.Tables.{setup_fresh}
use Rattle.promises.specs.Taken.{Call, answered_of}
use Rattle.promises.proofs.Decimates.{answered}

-- ---- the dimensions of a setup
module _ (rate offset : Float) (profile : ℤ) (table : List Float) (accepted : (setup_of rate offset profile table).number ≡ 0) where
  pub setup_arm : (setup_of rate offset profile table).receiver.front.resampler.arm ≡ (sized_of rate).arm
  unfolding fresh_receiver resampler.fresh_of
  setup_arm = ap (λ (r : Receiver). r.front.resampler.arm) (setup_fresh rate offset profile table accepted).receiver

  pub setup_decimation : (setup_of rate offset profile table).receiver.front.decimator.decimation ≡ (sized_of rate).decimation
  unfolding fresh_receiver fresh_of
  setup_decimation = ap (λ (r : Receiver). r.front.decimator.decimation) (setup_fresh rate offset profile table accepted).receiver

-- ---- what the type says: the integrators are 64-bit words, and both planes of the ring have 592 places. Every value of the type is so
pub record FrontTyped (r : Receiver) : Type 0 where
  pub real_words : Words r.front.decimator.integrators.real
  pub imaginary_words : Words r.front.decimator.integrators.imaginary
  pub ring_real : length r.ring.real ≡ 592
  pub ring_imaginary : length r.ring.imaginary ≡ 592

-- ---- after an accepted setup
zero_words : Words (record { first = 0; second = 0; third = 0 })
zero_words = record { first_word = lit< tt; second_word = lit< tt; third_word = lit< tt }

pub setup_front_typed : (rate offset : Float) (profile : ℤ) (table : List Float) → (setup_of rate offset profile table).number ≡ 0 → FrontTyped (setup_of rate offset profile table).receiver
unfolding fresh_receiver fresh_of
setup_front_typed rate offset profile table accepted =
    subst FrontTyped (sym (setup_fresh rate offset profile table accepted).receiver)
    (record { real_words = zero_words; imaginary_words = zero_words; ring_real = length-replicate 592 zero32; ring_imaginary = length-replicate 592 zero32 })

-- ---- through samples
record Sound (g : front.Rung) : Type 0 where
  real_words : Words g.place.decimator.integrators.real
  imaginary_words : Words g.place.decimator.integrators.imaginary
  ring_real : length g.real ≡ 592
  ring_imaginary : length g.imaginary ≡ 592

summed_words : (s : Stages) (n : ℤ) → Words (integrated_of s n)
unfolding integrated_of
summed_words s n =
    let a = s.first + modulo (2 ^ 64) n in
    let b = s.second + a % 2 ^ 64 in
    record { first_word = mod-lt a (lit< tt); second_word = mod-lt b (lit< tt); third_word = mod-lt (s.third + b % 2 ^ 64) (lit< tt) }

step_words : (s : Decimator) (z : Complex32) → Words s.integrators.real → Words s.integrators.imaginary
    → Words (stepped_of s z).decimator.integrators.real × Words (stepped_of s z).decimator.integrators.imaginary
unfolding stepped_of advanced_of
step_words s z a b = go (ltb 1 s.decimation) (ltb (s.counter + 1) s.decimation) refl refl
  where
    x : Words (integrated_of s.integrators.real (counts_of z).real)
    x = summed_words s.integrators.real (counts_of z).real

    y : Words (integrated_of s.integrators.imaginary (counts_of z).imaginary)
    y = summed_words s.integrators.imaginary (counts_of z).imaginary

    go : (b c : Bool) → ltb 1 s.decimation ≡ b → ltb (s.counter + 1) s.decimation ≡ c → Words (stepped_of s z).decimator.integrators.real × Words (stepped_of s z).decimator.integrators.imaginary
    go true true e f = rw (e, f) (x, y)
    go true false e f = rw (e, f) (x, y)
    go false c e f = rw e (a, b)

ring_size_kept : (table : List Float) (h : ResamplerState) (o : Option Complex32) → (length (resample_state table h o).real ≡ length h.real) × (length (resample_state table h o).imaginary ≡ length h.imaginary)
unfolding resample_state resampled_of
ring_size_kept table h None = (refl, refl)
ring_size_kept table h (Some v) = (length-set h.real h.resampler.write v.real, length-set h.imaginary h.resampler.write v.imaginary)

step_sound : (conjugated : Bool) (table : List Float) (g : front.Rung) (x : Complex32) → Sound g → Sound (front.front_step conjugated table g x).rung
unfolding front.front_step
step_sound conjugated table g x k =
    let z = mixed_of g.place.oscillator x conjugated in
    let w = step_words g.place.decimator z k.real_words k.imaginary_words in
    let e = ring_size_kept table (front.ring_of g) (stepped_of g.place.decimator z).output in
    record { real_words = w.0; imaginary_words = w.1; ring_real = e.0 ∙ k.ring_real; ring_imaginary = e.1 ∙ k.ring_imaginary }

front_sound : (conjugated : Bool) (table xs : List Float) (n : ℕ) (h : front.Run) → Sound h.rung → Sound (front.front_of conjugated table xs n h).rung
unfolding front.front_of turns front.more
front_sound conjugated table xs zero h k = k
front_sound conjugated table xs (suc n) h k = step_sound conjugated table (front.front_of conjugated table xs n h).rung (front.sample_at xs n) (front_sound conjugated table xs n h k)

-- ---- and after any call: every state that a block returns is typed where the state given is
typed_from : (r : Receiver) → Sound (start_of r (one [] [])).rung → FrontTyped r
typed_from r k = record { real_words = k.real_words; imaginary_words = k.imaginary_words; ring_real = k.ring_real; ring_imaginary = k.ring_imaginary }

pub block_front_typed : (r : Receiver) (c : Call) → FrontTyped r → FrontTyped (answered_of r c).receiver
block_front_typed r c k = elim (answered r c) [
  | inl t ↦
      typed_from (answered_of r c).receiver (subst Sound (sym t.moved)
      (front_sound (conjugated_of r.chain.profile) c.table c.samples (count_of c.samples) (record { rung = (start_of r (one [] [])).rung; values = [] })
      (record { real_words = k.real_words; imaginary_words = k.imaginary_words; ring_real = k.ring_real; ring_imaginary = k.ring_imaginary })))
  | inr t ↦ subst FrontTyped (sym t.receiver) k
]
