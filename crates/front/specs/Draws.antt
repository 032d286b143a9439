-- A whole run of samples at once, its value into the ring and the row, is its samples taken one by one. Assumes nothing.
use Prim.Native.Nat.{ℕ, zero, suc, ◌+◌, ◌-◌, ◌*◌, ◌/◌, ◌^◌, ◌≤◌, ◌<◌}
use Rattle.std.proofs.Math.Nat.{min-le_left, min-le_right}
use native.Mathlib.Omega.{arith}
use Rattle.std.specs.Prelude.{◌≡◌, Bool, List, Float, None}
use Rattle.std.proofs.Math.Path.{refl, sym, ap, subst}
use Rattle.std.proofs.Common.{◌∙◌, lt-ltb, le-ltb}
use Rattle.std.proofs.Math.ListN.{length}
use Rattle.laws.specs.Turns.{turns, until, until_turn, until_none, until_stop}
use Rattle.front.specs.Resample.{resample_state, resample_values}
use Rattle.front.specs.declared.FrontPlace.{FrontPlace}
use Rattle.front.specs.declared.Drawn.{Drawn}
use Rattle.front.specs.declared.Fronted.{Fronted}
use Rattle.front.specs.declared.Offering.{Offering}
use Rattle.front.specs.Front.{front_step, ring_of, rung_of, Front, laid_of, took_of, is_full, filled_of, front_now, start_of, run_of, drawn_of, Offered, offered_of, offered_now, advanced_with, advanced_of}
use Rattle.front.specs.Admitted.{Admitted, Numbers, Next, Drew, Offer, Moved, Going, CallKeeps}
use Rattle.front.specs.Runs.{drew, run_is, quiet, drawn_kept}
use Rattle.front.specs.Laws.{offered_none}

module _ (conjugated : Bool) (table xs : List Float) where
  abbrev pub took : Front → Front
  took = took_of conjugated table xs

  module _ (f : Front) (r : Admitted f.rung.place) where
    abbrev place : FrontPlace
    place = f.rung.place

    abbrev after : ℕ → Drawn
    after k = drew conjugated xs f.at place r k

    -- mixer and decimator k samples on, ring and row as they were
    abbrev ahead : ℕ → Front
    ahead k = record { rung = rung_of (after k).oscillator (after k).decimator (ring_of f.rung); row = f.row; at = f.at + k }

    -- and with what the last of them gave
    abbrev drawn_on : Drawn → Front
    drawn_on q = advanced_with table f q

    -- no sample before a d-th gives anything
    hushed : (k : ℕ) → place.decimator.counter + k < place.decimator.decimation → (after k).output ≡ None
    unfolding turns
    hushed zero l = refl
    hushed (suc k) l = ap (λ (q : Drawn). q.output) (quiet conjugated xs f.at place r (omega arith) (suc k) l)

    took_on : (k : ℕ) → took (ahead k) ≡ drawn_on (after (suc k))
    unfolding took_of front_step turns
    took_on k = let e : f.at + k + 1 ≡ f.at + (k + 1) = omega arith in λ i. record {
      rung = rung_of (after (suc k)).oscillator (after (suc k)).decimator (resample_state table (ring_of f.rung) (after (suc k)).output);
      row = laid_of (resample_values table (ring_of f.rung) (after (suc k)).output) f.row;
      at = e i;
    }

    -- a run that gave nothing
    nothing_on : (k : ℕ) → (after k).output ≡ None → drawn_on (after k) ≡ ahead k
    nothing_on k h =
        let o = offered_none table (record { ring = ring_of f.rung; row = f.row }) (after k).output h in
        λ i. record { rung = rung_of (after k).oscillator (after k).decimator (sym o i).ring; row = (sym o i).row; at = f.at + run_is conjugated xs f.at place r k i }

    module _ (room : f.row.made ≤ 254) (left : ℕ) where
      reach : (k : ℕ) → place.decimator.counter + k < place.decimator.decimation → k < left → until is_full took left f ≡ until is_full took (left - k) (ahead k)
      unfolding turns
      reach zero l m =
          let e : f.at ≡ f.at + 0 = omega arith in
          let n : left ≡ left - 0 = omega arith in
          λ i. until is_full took (n i) (record { rung = f.rung; row = f.row; at = e i })
      reach (suc k) l m =
          let n : left - k - 1 ≡ left - suc k = omega arith in
          reach k (omega arith) (omega arith)
          ∙ sym (until_turn is_full took (left - k) (ahead k) (omega arith) (le-ltb 254 f.row.made room))
          ∙ ap (until is_full took (left - k - 1)) (took_on k ∙ nothing_on (suc k) (hushed (suc k) l))
          ∙ ap (λ (j : ℕ). until is_full took j (ahead (suc k))) n

      -- THE LAW
      run_taken : (n : ℕ) → 0 < n → n ≤ left → n ≤ place.decimator.decimation - place.decimator.counter → until is_full took left f ≡ until is_full took (left - n) (drawn_on (after n))
      run_taken zero s m d = absurd (omega arith)
      run_taken (suc k) s m d =
          let n : left - k - 1 ≡ left - suc k = omega arith in
          reach k (omega arith) (omega arith)
          ∙ sym (until_turn is_full took (left - k) (ahead k) (omega arith) (le-ltb 254 f.row.made room))
          ∙ ap (until is_full took (left - k - 1)) (took_on k)
          ∙ ap (λ (j : ℕ). until is_full took j (drawn_on (after (suc k)))) n

    -- the loop's turn
    pub advances : f.row.made ≤ 254 → f.at < length xs / 2
        → until is_full took (length xs / 2 - f.at) f ≡ until is_full took (length xs / 2 - (advanced_of conjugated table xs f).at) (advanced_of conjugated table xs f)
    unfolding advanced_of drawn_of
    advances room more =
        let left = length xs / 2 - f.at in
        let n = run_of place.decimator left in
        let e = run_is conjugated xs f.at place r n in
        let s : 0 < n = subst (λ (j : ℕ). 0 < j) e ((drawn_kept conjugated xs f.at place r left).some (omega arith)) in
        let m : left - n ≡ length xs / 2 - (f.at + (after n).run) = (let h : left - n ≡ length xs / 2 - (f.at + n) = omega arith in h) ∙ ap (λ (j : ℕ). length xs / 2 - (f.at + j)) (sym e) in
        run_taken room left n s (min-le_left left (place.decimator.decimation - place.decimator.counter)) (min-le_right left (place.decimator.decimation - place.decimator.counter))
        ∙ ap (λ (j : ℕ). until is_full took j (drawn_on (after n))) m

-- a call that has made a run has the same to do as before it; and nothing once the samples end or the row is full
module _ (conjugated : Bool) (table xs : List Float) (f : Front) where
  pub filled_on : (g : Front) → Admitted f.rung.place → f.row.made ≤ 254 → f.at < length xs / 2 → g ≡ advanced_of conjugated table xs f → filled_of conjugated table xs g ≡ filled_of conjugated table xs f
  unfolding filled_of
  filled_on g r room more e = ap (λ (h : Front). until is_full (took_of conjugated table xs) (length xs / 2 - h.at) h) e ∙ sym (advances conjugated table xs f r room more)

  pub filled_end : length xs / 2 ≤ f.at → f ≡ filled_of conjugated table xs f
  unfolding filled_of
  filled_end l = sym (until_none is_full (took_of conjugated table xs) (length xs / 2 - f.at) f (omega arith))

  pub filled_full : 254 < f.row.made → f ≡ filled_of conjugated table xs f
  unfolding filled_of
  filled_full l = sym (until_stop is_full (took_of conjugated table xs) (length xs / 2 - f.at) f (lt-ltb 254 f.row.made l))

-- from what `draw` and `offered` promise
pub advanced_is : (conjugated : Bool) (table xs : List Float) (f : Front) (q : Drawn) (g : Offered)
    → q ≡ drawn_of conjugated xs f.at (length xs / 2 - f.at) f.rung.place → g ≡ offered_of table (record { ring = ring_of f.rung; row = f.row }) q.output
    → ◌≡◌ {A = Front} (record { rung = rung_of q.oscillator q.decimator g.ring; row = g.row; at = f.at + q.run }) (advanced_of conjugated table xs f)
unfolding advanced_of
advanced_is conjugated table xs f q g qe ge =
    (λ i. record { rung = rung_of q.oscillator q.decimator (ge i).ring; row = (ge i).row; at = f.at + q.run })
    ∙ ap (advanced_with table f) qe

-- the same in the code's own terms
pub advance_is : (conjugated : Bool) (table xs : List Float) (t : Fronted) (from : ℕ) (ring_real ring_imaginary row_real row_imaginary : List Float) (q : Drawn) (l : Offering)
    (next_real next_imaginary laid_real laid_imaginary : List Float)
    → q ≡ drawn_of conjugated xs (from + t.used) (length xs / 2 - (from + t.used)) t.place
    → offered_now l next_real next_imaginary laid_real laid_imaginary ≡ offered_of table (offered_now (record { resampler = t.place.resampler; made = t.made }) ring_real ring_imaginary row_real row_imaginary) q.output
    → front_now (record { place = record { oscillator = q.oscillator; decimator = q.decimator; resampler = l.resampler }; used = t.used + q.run; made = l.made }) from next_real next_imaginary laid_real laid_imaginary
    ≡ advanced_of conjugated table xs (front_now t from ring_real ring_imaginary row_real row_imaginary)
advance_is conjugated table xs t from ring_real ring_imaginary row_real row_imaginary q l next_real next_imaginary laid_real laid_imaginary qe ge =
    let e : from + (t.used + q.run) ≡ from + t.used + q.run = omega arith in
    (λ i. record { rung = record { place = record { oscillator = q.oscillator; decimator = q.decimator; resampler = l.resampler }; real = next_real; imaginary = next_imaginary }; row = record { real = laid_real; imaginary = laid_imaginary; made = l.made }; at = e i })
    ∙ advanced_is conjugated table xs (front_now t from ring_real ring_imaginary row_real row_imaginary) q (offered_now l next_real next_imaginary laid_real laid_imaginary) qe ge

-- ---- what a turn keeps
pub moved_is : (t : Fronted) (left : ℕ) (q : Drawn) (l : Offering) → Admitted t.place → 0 < left → Drew left t.place q → Offer t.place.resampler t.made l
    → Moved left t (record { place = record { oscillator = q.oscillator; decimator = q.decimator; resampler = l.resampler }; used = t.used + q.run; made = l.made })
moved_is t left q l k s d o =
    let c = o.index_low in
    let e = o.index in
    let g = d.some s in
    let h = d.decimation in
    let i = k.decimator.decimation_high in
    let j = d.early in
    record {
      next = record {
        admitted = record {
          oscillator = record { renormalize_in = d.turns };
          decimator = record { decimation_low = omega arith; decimation_high = omega arith; counter_in = d.early };
          resampler = o.admitted;
        };
        index_low = c;
        index = omega arith;
        arm = o.arm;
        decimation = d.decimation;
      };
      further = omega arith;
      most = let m = d.most in omega arith;
      few = o.few;
    }

pub left_some : (at end : ℕ) → at < end → 0 < end - at
left_some at end l = omega arith

pub next_none : (n : ℕ) (p : FrontPlace) → Admitted p → Next n p p
next_none n p r = record { admitted = r; index_low = omega arith; index = omega arith; arm = refl; decimation = refl }

pub next_on : (n m k : ℕ) (p q r : FrontPlace) → n + m ≤ k → Next n p q → Next m q r → Next k p r
next_on n m k p q r l a b =
    let c = a.index_low in
    let d = a.index in
    let e = b.index_low in
    let g = b.index in
    record { admitted = b.admitted; index_low = omega arith; index = omega arith; arm = b.arm ∙ a.arm; decimation = b.decimation ∙ a.decimation }

-- what a call has kept so far, and once more
pub kept_start : (left : ℕ) (p : FrontPlace) → Admitted p → Going left p (start_of p)
kept_start left p r = record { next = next_none 0 p r; most = omega arith; room = omega arith; few = omega arith }

pub kept_on : (left from end : ℕ) (p : FrontPlace) (t r : Fronted) → left ≡ end - from → from + t.used < end → t.made ≤ 254 → Going left p t → Moved (end - (from + t.used)) t r → Going left p r
kept_on left from end p t r le l m k v =
    let a = k.few in
    let b = v.few in
    let c = v.further in
    let d = v.most in
    record { next = next_on t.used (r.used - t.used) r.used p t.place r.place (omega arith) k.next v.next; most = omega arith; room = omega arith; few = omega arith }

pub advance_asks : (p : FrontPlace) (t : Fronted) (xs : List Float) (left from end size : ℕ) → Going left p t → Numbers xs → left ≡ end - from → end ≡ length xs / 2 → from + t.used < end
    → p.resampler.index + left ≤ 2 ^ 52 → 32 * p.resampler.arm ≤ size → t.made ≤ 254
    → Admitted t.place × (Numbers xs × ((32 * t.place.resampler.arm ≤ size) × ((t.place.resampler.index < 2 ^ 52) × ((t.made ≤ 254) × (from + t.used < length xs / 2)))))
advance_asks p t xs left from end size k n le ee l i s m =
    let a = k.next.index in
    let b = k.next.arm in
    (k.next.admitted, (n, (omega arith, (omega arith, (m, omega arith)))))

-- it ends with the samples, or with the row
pub kept_end : (left : ℕ) (p : FrontPlace) (t : Fronted) → Going left p t → left ≤ t.used → CallKeeps left p t
kept_end left p t k l = record { next = k.next; most = k.most; some = λ h. omega arith; room = k.room; few = k.few }

pub kept_full : (left : ℕ) (p : FrontPlace) (t : Fronted) → Going left p t → 254 < t.made → CallKeeps left p t
kept_full left p t k l = record { next = k.next; most = k.most; some = λ h. (let f = k.few in omega arith); room = k.room; few = k.few }
