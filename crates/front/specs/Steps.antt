-- What a sample keeps of a front, on the definitions: it stays admitted, and makes at most two values. Assumes nothing.
use Rattle.std.specs.Prelude.{ℕ, zero, suc, ◌+◌, ◌*◌, ◌/◌, ◌^◌, ◌≤◌, ◌<◌, ◌≡◌, refl, Bool, T, length, get_or, set, Float, Option, Some, None}
use Rattle.std.proofs.Common.{arith, sym, ap, ◌∙◌, subst, length-set, length-append}
use mathlib.Core.List.{List, ◌++◌, foldl-append}
use Rattle.std.specs.Float.{binary64}
use Rattle.std.specs.Float.Ieee.{fits}
use Rattle.laws.specs.Turns.{turns, turns_foldl, turns_same}
use Rattle.laws.specs.Places.{upto, length_upto, upto_at}
use Rattle.complex.specs.declared.Complex32.{Complex32}
use Rattle.oscillator.specs.declared.Oscillator.{Oscillator}
use Rattle.oscillator.specs.Oscillator.{fresh_of as fresh_oscillator, turned_of, mixed_of}
use Rattle.oscillator.specs.Oscillator.{Admitted as OscillatorAdmitted}
use Rattle.decimator.specs.declared.Decimator.{Decimator}
use Rattle.decimator.specs.Decimator.{fresh_of as fresh_decimator}
use Rattle.decimator.specs.Decimator.{Admitted as DecimatorAdmitted}
use Rattle.resampler.specs.declared.dimensions.Dimensions.{Dimensions}
use Rattle.resampler.specs.declared.pass.Resampler.{Resampler}
use Rattle.resampler.specs.Dimensions.{fresh_of}
use Rattle.resampler.specs.Admitted.{Sized}
use Rattle.resampler.specs.Ranges.{fresh_admitted as ring_admitted}
use Rattle.oscillator.specs.Laws.{turned_admitted}
use Rattle.oscillator.specs.Laws.{fresh_admitted as oscillator_admitted}
use Rattle.decimator.proofs.Values.{step_counting}
use Rattle.decimator.proofs.AdmittedLaws.{step_admitted}
use Rattle.decimator.proofs.AdmittedLaws.{fresh_admitted as decimator_admitted}
use Rattle.front.specs.Resample.{ResamplerState, resample_state, resample_values}
use Rattle.resampler.specs.Pass.{resampled_of}
use Rattle.resampler.specs.AdmittedLaws.{admitted_again, next_stored}
use Rattle.resampler.specs.Admitted.{Admitted as RingAdmitted}
use Rattle.front.specs.declared.FrontPlace.{FrontPlace}
use Rattle.front.specs.Front.{sample_at, samples_of, Rung, Run, ring_of, step_of, front_step, more, front_over, front_turn, front_of}
use Rattle.front.specs.Admitted.{Admitted, Next}
use Rattle.front.specs.Laws.{values_few}
use Rattle.front.specs.Draws.{next_none, next_on}

-- an admitted front, its next output a float of its format
pub record Sound (p : FrontPlace) : Type 0 where
  pub admitted : Admitted p
  pub stored : T (fits binary64 p.resampler.next)

-- what n samples keep
pub record Stepped (n : ℕ) (r s : Rung) : Type 0 where
  pub sound : Sound s.place
  pub next : Next n r.place s.place
  pub half : s.place.resampler.half ≡ r.place.resampler.half
  pub step : s.place.resampler.step ≡ r.place.resampler.step
  pub real : length s.real ≡ length r.real
  pub imaginary : length s.imaginary ≡ length r.imaginary

-- ---- the ring
record Hearing (h g : ResamplerState) : Type 0 where
  admitted : RingAdmitted g.resampler
  stored : T (fits binary64 g.resampler.next)
  index_low : h.resampler.index ≤ g.resampler.index
  index : g.resampler.index ≤ h.resampler.index + 1
  arm : g.resampler.arm ≡ h.resampler.arm
  half : g.resampler.half ≡ h.resampler.half
  step : g.resampler.step ≡ h.resampler.step
  real : length g.real ≡ length h.real
  imaginary : length g.imaginary ≡ length h.imaginary

hears : (table : List Float) (h : ResamplerState) (o : Option Complex32) → RingAdmitted h.resampler → T (fits binary64 h.resampler.next) → h.resampler.index < 2 ^ 52 → Hearing h (resample_state table h o)
unfolding resample_state resampled_of
hears table h None k F room = record { admitted = k; stored = F; index_low = omega arith; index = omega arith; arm = refl; half = refl; step = refl; real = refl; imaginary = refl }
hears table h (Some v) k F room =
    let r = h.resampler in
    let xs = set h.real r.write v.real in
    let ys = set h.imaginary r.write v.imaginary in
    record {
      admitted = admitted_again r k F room table xs ys;
      stored = next_stored r k F room table xs ys;
      index_low = omega arith;
      index = omega arith;
      arm = refl;
      half = refl;
      step = refl;
      real = length-set h.real r.write v.real;
      imaginary = length-set h.imaginary r.write v.imaginary;
    }

resampled_few : (table : List Float) (h : ResamplerState) (o : Option Complex32) → length (resample_values table h o) ≤ 2
unfolding resample_values
resampled_few table h None = omega arith
resampled_few table h (Some v) = values_few (resampled_of h.resampler v table h.real h.imaginary).passed

-- ---- one sample
pub values_two : (conjugated : Bool) (table : List Float) (r : Rung) (x : Complex32) → length (front_step conjugated table r x).values ≤ 2
unfolding front_step
values_two conjugated table r x = resampled_few table (ring_of r) (step_of conjugated r.place.oscillator r.place.decimator x).output

pub stepped : (conjugated : Bool) (table : List Float) (r : Rung) (x : Complex32) → Sound r.place → r.place.resampler.index < 2 ^ 52 → Stepped 1 r (front_step conjugated table r x).rung
unfolding front_step
stepped conjugated table r x k room =
    let s = step_of conjugated r.place.oscillator r.place.decimator x in
    let d = step_counting r.place.decimator.decimation r.place.decimator (mixed_of r.place.oscillator x conjugated) (record { by = refl; early = k.admitted.decimator.counter_in }) in
    let h = hears table (ring_of r) s.output k.admitted.resampler k.stored room in
    let b = d.by in
    let g : Admitted (record { oscillator = turned_of r.place.oscillator; decimator = s.decimator; resampler = (resample_state table (ring_of r) s.output).resampler }) =
    record {
      oscillator = turned_admitted r.place.oscillator k.admitted.oscillator;
      decimator = step_admitted r.place.decimator (mixed_of r.place.oscillator x conjugated) k.admitted.decimator;
      resampler = h.admitted;
    } in
    record {
      sound = record { admitted = g; stored = h.stored };
      next = record { admitted = g; index_low = h.index_low; index = h.index; arm = h.arm; decimation = b };
      half = h.half;
      step = h.step;
      real = h.real;
      imaginary = h.imaginary;
    }

-- ---- n samples
pub record Ran (n : ℕ) (h g : Run) : Type 0 where
  pub kept : Stepped n h.rung g.rung
  pub values : length g.values ≤ length h.values + n * 2

ran_none : (h : Run) → Sound h.rung.place → Ran 0 h h
ran_none h k = record { kept = record { sound = k; next = next_none 0 h.rung.place k.admitted; half = refl; step = refl; real = refl; imaginary = refl }; values = omega arith }

ran_more : (conjugated : Bool) (table : List Float) (n : ℕ) (h g : Run) (x : Complex32) → h.rung.place.resampler.index + suc n ≤ 2 ^ 52 → Ran n h g → Ran (suc n) h (more conjugated table g x)
unfolding more
ran_more conjugated table n h g x room r =
    let i = r.kept.next.index in
    let s = stepped conjugated table g.rung x r.kept.sound (omega arith) in
    let v = values_two conjugated table g.rung x in
    let w = r.values in
    record {
      kept = record {
        sound = s.sound;
        next = next_on n 1 (suc n) h.rung.place g.rung.place (front_step conjugated table g.rung x).rung.place (omega arith) r.kept.next s.next;
        half = s.half ∙ r.kept.half;
        step = s.step ∙ r.kept.step;
        real = s.real ∙ r.kept.real;
        imaginary = s.imaginary ∙ r.kept.imaginary;
      };
      values = simp length-append (omega arith);
    }

-- THE LAW: an admitted front stays admitted, and n samples make at most 2 n values
pub ran : (conjugated : Bool) (table xs : List Float) (n : ℕ) (h : Run) → Sound h.rung.place → h.rung.place.resampler.index + n ≤ 2 ^ 52 → Ran n h (front_of conjugated table xs n h)
unfolding front_of turns
ran conjugated table xs zero h k room = ran_none h k
ran conjugated table xs (suc n) h k room = ran_more conjugated table n h (front_of conjugated table xs n h) (sample_at xs n) room (ran conjugated table xs n h k (omega arith))

-- ---- the samples as a list: all of them, one after the other, and a long row is its parts in turn
pub over_append : (conjugated : Bool) (table : List Float) (h : Run) (ys zs : List Complex32) → front_over conjugated table h (ys ++ zs) ≡ front_over conjugated table (front_over conjugated table h ys) zs
unfolding front_over
over_append conjugated table h ys zs = rw foldl-append

pub front_over_lem : (conjugated : Bool) (table xs : List Float) (none : Complex32) (h : Run) → front_of conjugated table xs (length xs / 2) h ≡ front_over conjugated table h (samples_of xs)
unfolding front_of front_over samples_of
front_over_lem conjugated table xs none h =
    turns_same (front_turn conjugated table xs) (λ k a. more conjugated table a (get_or (upto (sample_at xs) (length xs / 2)) k none)) (length xs / 2) h
    (λ k b l. ap (more conjugated table b) (sym (upto_at (sample_at xs) (length xs / 2) k none l)))
    ∙ ap (λ (n : ℕ). turns (λ k a. more conjugated table a (get_or (upto (sample_at xs) (length xs / 2)) k none)) n h) (sym (length_upto (sample_at xs) (length xs / 2)))
    ∙ turns_foldl (more conjugated table) none (upto (sample_at xs) (length xs / 2)) h

-- ---- a fresh front is admitted
pub fresh_admitted : (rate offset : Float) (s : Dimensions) → Sized s → (o : Oscillator) (d : Decimator) (r : Resampler) → o ≡ fresh_oscillator rate offset → d ≡ fresh_decimator s.decimation → r ≡ fresh_of s
    → Admitted (record { oscillator = o; decimator = d; resampler = r })
fresh_admitted rate offset s k o d r oe de re = record {
  oscillator = subst OscillatorAdmitted (sym oe) (oscillator_admitted rate offset);
  decimator = subst DecimatorAdmitted (sym de) (decimator_admitted s.decimation k.decimation_low k.decimation_high);
  resampler = subst RingAdmitted (sym re) (ring_admitted s k);
}
