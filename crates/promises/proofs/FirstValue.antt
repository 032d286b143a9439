-- The first value. At 384,000 samples a second the resampler makes its first of the 576th sample, when 288 decimated values have come: so what the front's theorems say of values, they say of something. Assumes nothing.
use Rattle.std.specs.Prelude.{◌≡◌, refl, Bool, true, false, cond, ltb, pos, length, get_or, set, take, Float, Option, Some, None}
use Rattle.std.proofs.Common.{sym, ap, ◌∙◌, eq-zero-or-pos, lt-ltb, le-ltb}
use Rattle.std.proofs.Math.Path.{subst}
use mathlib.Core.List.{List, [], ◌∷◌}
use Rattle.std.proofs.Math.Logic.{inl, inr}
use Prim.Native.Nat.{ℕ, zero, suc, ◌+◌, ◌-◌, ◌/◌, ◌%◌, ◌≤◌, ◌<◌}
use native.Mathlib.Omega.{arith}
use Rattle.std.specs.Float.{binary64}
use Rattle.std.specs.Float.Ieee.{of_bits, of_int, to_unsigned, sub, mul}
use Rattle.numbers.specs.Constants.{zero64}
use Rattle.laws.specs.Turns.{turns, until, until_stop}
use Rattle.whole.specs.Whole.{whole_of}
use Rattle.complex.specs.declared.Complex32.{Complex32}
use Rattle.decimator.specs.Decimator.{fresh_of}
use Rattle.resampler.specs.declared.pass.Delivery.{Delivery}
use Rattle.resampler.specs.Dimensions as resampler
use Rattle.front.specs.Resample.{ResamplerState, resample_state, resample_values}
use Rattle.resampler.specs.Pass.{placed_of, waiting_of, filtered_of, start_of, is_done, pass_turn, delivered_of, pushed_of, resampled_of}
use Rattle.resampler.specs.AdmittedLaws.{count_emitted}
use Rattle.receiver_state.specs.declared.state.Receiver.{Receiver}
use Rattle.receiver_state.specs.State.{fresh_receiver}
use Rattle.promises.specs.Tables.{setup_fresh}
use Rattle.promises.specs.Taken.{given_of}
use Rattle.promises.proofs.Decimates.{p9_sizes}
use Rattle.promises.specs.Made.{made_of, tables_of}
use Rattle.promises.proofs.MadeLaws.{ring_in, ring_after, made_at_lem, Paced, given_length, given_paced}
use Rattle.promises.proofs.FrontTyped.{setup_arm, setup_decimation}
use Rattle.promises.proofs.Witness.{rate, lent, receiver, silence, setup_accepted, all_taken}

-- ---- a ring into which j values have come, and of which none was made: the first output lies at 144
abbrev first_place : Float
first_place = of_int binary64 (pos 144)

record Filling (j : ℕ) (h : ResamplerState) : Type 0 where
  arm : h.resampler.arm ≡ 288
  half : h.resampler.half ≡ 144
  index : h.resampler.index ≡ j
  next : h.resampler.next ≡ first_place

first_position : (placed_of first_place).position ≡ 144
unfolding placed_of whole_of to_unsigned of_int sub mul of_bits
first_position = refl

-- a value into it waits where there are still fewer than 288
value_waits : (j : ℕ) (h : ResamplerState) → Filling j h → waiting_of (pushed_of h.resampler) (placed_of h.resampler.next) ≡ ltb (j + 1) 288
value_waits j h k = (λ i. ltb (k.index i + 1) ((placed_of (k.next i)).position + (k.arm i - k.half i))) ∙ ap (λ (p : ℕ). ltb (j + 1) (p + (288 - 144))) first_position

filling_one_more : (j : ℕ) (h : ResamplerState) (v : Complex32) → j + 1 < 288 → Filling j h → Filling (j + 1) (resample_state [] h (Some v))
unfolding resample_state resampled_of delivered_of
filling_one_more j h v l k =
    let q = pushed_of h.resampler in
    let xs = set h.real h.resampler.write v.real in
    let ys = set h.imaginary h.resampler.write v.imaginary in
    let e = until_stop (is_done q) (pass_turn q [] xs ys) 2 (start_of q.next) (value_waits j h k ∙ lt-ltb (j + 1) 288 l) in
    record { arm = k.arm; half = k.half; index = ap (λ (n : ℕ). n + 1) k.index; next = ap (λ (d : Delivery). d.next) e ∙ k.next }

filling_stays : (j : ℕ) (h : ResamplerState) → Filling j h → Filling j (resample_state [] h None)
unfolding resample_state
filling_stays j h k = k

-- the 288th makes a value
some_made : (stop : Delivery → Bool) (f : Delivery → Delivery) (d : Delivery) → ((e : Delivery) → (f e).count ≡ e.count + 1) → stop d ≡ false → 0 < (until stop f 2 d).count
unfolding until
some_made stop f d h e = subst (λ (b : Bool). 0 < (cond b d (cond (stop (f d)) (f d) (f (f d)))).count) (sym e) (go (stop (f d)))
  where
    go : (b : Bool) → 0 < (cond b (f d) (f (f d))).count
    go true = let a = h d in omega arith
    go false = let a = h (f d) in omega arith

first_of : (n : ℕ) (a b : Complex32) → 0 < n → (v : Complex32) × ((vs : List Complex32) × (take n (a ∷ b ∷ []) ≡ v ∷ vs))
first_of zero a b l = absurd (omega arith)
first_of (suc n) a b l = (a, (take n (b ∷ []), refl))

value_made : (table : List Float) (h : ResamplerState) (v : Complex32) → Filling 287 h → (w : Complex32) × ((ws : List Complex32) × (resample_values table h (Some v) ≡ w ∷ ws))
unfolding resample_values resampled_of delivered_of
value_made table h v k =
    let q = pushed_of h.resampler in
    let xs = set h.real h.resampler.write v.real in
    let ys = set h.imaginary h.resampler.write v.imaginary in
    let d = until (is_done q) (pass_turn q table xs ys) 2 (start_of q.next) in
    first_of d.count d.first d.second
    (some_made (is_done q) (pass_turn q table xs ys) (start_of q.next) (λ e. count_emitted e q.step (filtered_of q table xs ys (placed_of e.next).phase)) (value_waits 287 h k ∙ le-ltb (287 + 1) 288 (omega arith)))

-- ---- along a row with a value at every second place
module _ (os : List (Option Complex32)) (P : Paced 2 0 os) (h : ResamplerState) (k : Filling 0 h) where
  filling_at : (n : ℕ) → n ≤ length os → n < 576 → Filling (n / 2) (ring_after h os n)
  unfolding turns
  filling_at zero a b = subst (λ (j : ℕ). Filling j h) (let e : 0 ≡ 0 / 2 = omega arith in e) k
  filling_at (suc n) a b = elim (eq-zero-or-pos ((0 + n + 1) % 2)) [
    | inl e ↦
        let o = P.sounds n (omega arith) e in
        subst (λ (j : ℕ). Filling j (resample_state [] (ring_after h os n) (get_or os n None))) (let f : n / 2 + 1 ≡ suc n / 2 = omega arith in f)
        (subst (λ (x : Option Complex32). Filling (n / 2 + 1) (resample_state [] (ring_after h os n) x)) (sym o.1) (filling_one_more (n / 2) (ring_after h os n) o.0 (omega arith) (filling_at n (omega arith) (omega arith))))
    | inr p ↦
        subst (λ (j : ℕ). Filling j (resample_state [] (ring_after h os n) (get_or os n None))) (let f : n / 2 ≡ suc n / 2 = omega arith in f)
        (subst (λ (x : Option Complex32). Filling (n / 2) (resample_state [] (ring_after h os n) x)) (sym (P.quiet n (omega arith) (λ e. omega arith))) (filling_stays (n / 2) (ring_after h os n) (filling_at n (omega arith) (omega arith))))
  ]

-- ---- from the setup
filling_none : Filling 0 (ring_in receiver)
unfolding fresh_receiver resampler.fresh_of
filling_none =
    let e = (setup_fresh rate zero64 (pos 0) lent setup_accepted).receiver in
    record {
      arm = setup_arm rate zero64 (pos 0) lent setup_accepted ∙ p9_sizes.1;
      half = ap (λ (r : Receiver). r.front.resampler.half) e ∙ ap (λ (c : ℕ). c / 2) p9_sizes.1;
      index = ap (λ (r : Receiver). r.front.resampler.index) e;
      next = ap (λ (r : Receiver). r.front.resampler.next) e ∙ ap (λ (c : ℕ). of_int binary64 (pos (c / 2))) p9_sizes.1;
    }

counts_none : receiver.front.decimator.counter ≡ 0
unfolding fresh_receiver fresh_of
counts_none = ap (λ (r : Receiver). r.front.decimator.counter) (setup_fresh rate zero64 (pos 0) lent setup_accepted).receiver

-- THE FIRST VALUE: of 576 zero samples after the setup the last makes a value
pub first_value : (v : Complex32) × ((vs : List Complex32) × (get_or (made_of receiver (silence 576 ∷ [])) 575 [] ≡ v ∷ vs))
first_value =
    let cs = silence 576 ∷ [] in
    let os = given_of receiver cs in
    let taken = all_taken 576 (omega arith) in
    let given = given_length receiver cs in
    let none = counts_none in
    let P : Paced 2 0 os = subst (λ (j : ℕ). Paced 2 j os) counts_none (given_paced 2 receiver cs (record { by = setup_decimation rate zero64 (pos 0) lent setup_accepted ∙ p9_sizes.0; early = omega arith })) in
    let o = P.sounds 575 (omega arith) refl in
    let k = filling_at os P (ring_in receiver) filling_none 575 (omega arith) (omega arith) in
    let m = value_made (get_or (tables_of receiver cs) 575 []) (ring_after (ring_in receiver) os 575) o.0 k in
    (m.0, (m.1.0, made_at_lem receiver cs 575 (omega arith) ∙ ap (resample_values (get_or (tables_of receiver cs) 575 []) (ring_after (ring_in receiver) os 575)) o.1 ∙ m.1.1))
