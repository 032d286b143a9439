-- A block that no check refuses: what is then known of its state, its samples and the rooms. Assumes nothing.
use Rattle.std.specs.Prelude.{◌≡◌, refl, ◌⊎◌, Bool, true, false, cond, not, List, ℕ, ◌+◌, ◌*◌, ◌/◌, ◌%◌, ◌^◌, ◌≤◌, ◌<◌, T, ltb, length, get_or, Float, Ok}
use Rattle.std.proofs.Common.{sym, ap, subst, inl, inr, arith, ltb-false}
use Rattle.std.proofs.lemmas.Bool.{false≢true}
use Rattle.std.specs.Float.{nan, inf, fin}
use Rattle.std.specs.Float.Ieee.{is_nan}
use Rattle.laws.specs.Branches.{not_false, or_false}
use Rattle.laws.specs.Ring.{lt_or_ge}
use Rattle.numbers.specs.Numbers.{is_finite}
use Rattle.front.specs.Admitted as fit
use Rattle.chain.specs.declared.ChainPlace.{ChainPlace}
use Rattle.front.specs.declared.FrontPlace.{FrontPlace}
use Rattle.second.specs.declared.Second.{Second}
use Rattle.receiver_state.specs.declared.state.Receiver.{Receiver}
use Rattle.samples.specs.Samples.{count_of, real_of, imaginary_of, finite_of}
use Rattle.samples.specs.Laws.{finite_parts}
use Rattle.checks.specs.Admitted.{state_fits}
use Rattle.receiver.specs.Admitted.{admitted_of, judged_of}
use Rattle.checks.specs.Fits.{Fits, fits_from}
use Rattle.checks.specs.Checks.{count_refused, room_refused, Judged, judged_now, stated_of}
use Rattle.checks.specs.Ways.{counted}

pub record ReadyBlock (r : Receiver) (table xs : List Float) (dibits reliabilities : ℕ) : Type 0 where
  pub fits : Fits r.total r.front r.chain r.second r.planes.decisions.parents r.ancestors
  pub table_in : 32 * r.front.resampler.arm ≤ length table
  pub total_in : r.total + count_of xs ≤ 2 ^ 52
  pub numbers : fit.Numbers xs
  pub dibits_in : 2 * count_of xs + 4 ≤ dibits
  pub reliabilities_in : 4 * count_of xs + 8 ≤ reliabilities

-- ---- no float is NaN
finite_number : (x : Float) → is_finite x ≡ true → T (not (is_nan x))
unfolding is_finite is_nan
finite_number nan h = absurd (false≢true h)
finite_number (inf s) h = tt
finite_number (fin s m e) h = tt

pub numbers_of : (xs : List Float) → length xs ≡ 2 * (length xs / 2) → finite_of xs ≡ true → fit.Numbers xs
numbers_of xs e h = record { each = λ k l. each k l (lt_or_ge (k % 2) 1) }
  where
    each : (k : ℕ) → k < length xs → (k % 2 < 1) ⊎ (1 ≤ k % 2) → T (not (is_nan (get_or xs k nan)))
    each k l (inl z) =
        let p : 2 * (k / 2) ≡ k = omega arith in
        subst (λ (j : ℕ). T (not (is_nan (get_or xs j nan)))) p (finite_number (real_of xs (k / 2)) (finite_parts xs h (k / 2) (omega arith)).0)
    each k l (inr z) =
        let p : 2 * (k / 2) + 1 ≡ k = omega arith in
        subst (λ (j : ℕ). T (not (is_nan (get_or xs j nan)))) p (finite_number (imaginary_of xs (k / 2)) (finite_parts xs h (k / 2) (omega arith)).1)

-- ---- the checks
-- none of five checks applies
first_none : (a b c d e : Bool) → ◌≡◌ {A = ℕ} (cond a 7 (cond b 3 (cond c 4 (cond d 6 (cond e 5 0))))) 0 → (a ≡ false) × (b ≡ false) × (c ≡ false) × (d ≡ false) × (e ≡ false)
first_none false false false false false h = (refl, refl, refl, refl, refl)
first_none true b c d e h = absurd (omega arith)
first_none false true c d e h = absurd (omega arith)
first_none false false true d e h = absurd (omega arith)
first_none false false false true e h = absurd (omega arith)
first_none false false false false true h = absurd (omega arith)

pub ready_block : (r : Receiver) (table xs : List Float) (dibits reliabilities : ℕ) → (judged_of r xs (length table) dibits reliabilities).number ≡ 0 → ReadyBlock r table xs dibits reliabilities
unfolding stated_of
ready_block r table xs dibits reliabilities h =
    let z = first_none (not (admitted_of r)) (ltb (length table) (32 * r.front.resampler.arm)) (count_refused r.total (length xs)) (room_refused (count_of xs) dibits reliabilities) (not (finite_of xs)) h in
    let q = counted r.total (length xs) (count_refused r.total (length xs)) refl z.2 in
    let p = or_false (ltb dibits (2 * count_of xs + 4)) (ltb reliabilities (4 * count_of xs + 8)) z.3 in
    record {
      fits = fits_from r.total r.front r.chain r.second r.planes.decisions.parents r.ancestors (not_false (admitted_of r) z.0);
      table_in = ltb-false (length table) (32 * r.front.resampler.arm) z.1;
      total_in = q.total_in;
      numbers = numbers_of xs q.even (not_false (finite_of xs) z.4);
      dibits_in = ltb-false dibits (2 * count_of xs + 4) p.0;
      reliabilities_in = ltb-false reliabilities (4 * count_of xs + 8) p.1;
    }

pub take_asks : (r : Receiver) (table xs : List Float) (dibits reliabilities overload : ℕ) → judged_now (Ok overload) ≡ judged_of r xs (length table) dibits reliabilities
    → ReadyBlock r table xs dibits reliabilities
take_asks r table xs dibits reliabilities overload je = ready_block r table xs dibits reliabilities (sym (ap (λ (j : Judged). j.number) je))

-- an accepted block's samples leave the total within 2^52
pub take_total : (total : ℕ) (front : FrontPlace) (chain : ChainPlace) (second : Second) (parents ancestors : List ℕ) (xs : List Float) (table dibits reliabilities overload : ℕ)
    → judged_now (Ok overload) ≡ stated_of total front chain second parents ancestors xs table dibits reliabilities → total + count_of xs ≤ 2 ^ 52
unfolding stated_of
take_total total front chain second parents ancestors xs table dibits reliabilities overload je =
    let number = sym (ap (λ (j : Judged). j.number) je) in
    let z = first_none (not (state_fits total front chain second parents ancestors)) (ltb table (32 * front.resampler.arm)) (count_refused total (length xs)) (room_refused (count_of xs) dibits reliabilities) (not (finite_of xs)) number in
    (counted total (length xs) (count_refused total (length xs)) refl z.2).total_in
