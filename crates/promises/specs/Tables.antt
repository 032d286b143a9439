-- What a setup and a reading write into what they are lent. An accepted setup writes only the first 32 c places of the table, a refused one nothing; an accepted read writes only the points it counts, a
-- refused one nothing. Assumes nothing.
use Rattle.std.specs.Prelude.{◌≡◌, Bool, cond, List, ◌++◌, ℤ, length, drop, Float}
use Rattle.std.proofs.Math.Path.{refl, subst}
use Rattle.std.proofs.Common.{sym, ◌∙◌, arith}
use Rattle.std.proofs.Math.Bool.{true, false}
use Prim.Native.Nat.{ℕ, ◌*◌, ◌/◌, ◌≤◌, min}
use Rattle.std.specs.Float.{binary64}
use Rattle.std.specs.Float.Ieee.{of_bits}
use borrow.Author.Tests.{ltb-false}
use Rattle.laws.specs.Places.{length_upto}
use Rattle.laws.specs.Ring.{latest}
use Rattle.numbers.specs.Root.{sqrt_of}
use Rattle.complex.specs.declared.Complex32.{Complex32}
use Rattle.resampler.specs.Dimensions.{sized_of}
use Rattle.resampler.specs.Design.{table_of, written_of}
use Rattle.resampler.specs.Admitted.{AdmittedRate}
use Rattle.signal.specs.Signal as signal
use Rattle.signal.proofs.Laws.{length_parts}
use Rattle.receiver_state.specs.declared.state.Receiver.{Receiver}
use Rattle.receiver_state.specs.State.{zero_receiver, fresh_front, fresh_receiver}
use Rattle.checks.specs.Checks.{rate_refused, offset_refused, table_refused}
use Rattle.receiver.specs.Setup.{setup_of}
use Rattle.receiver.specs.Reading.{reading_of}
use Rattle.receiver.specs.Admitted.{admitted_of}
use Rattle.checks.specs.Ways.{rate_admitted}
use Rattle.receiver.specs.Laws.{zero_refused}
use Rattle.promises.specs.Written.{OnlyFirst, only_first}

-- ---- setup
module _ (rate offset : Float) (profile : ℤ) (lent : List Float) where
  -- what an accepted setup is: a rate in range, a table with room for 32 c taps, a fresh state, and the taps
  pub record Fresh : Type 0 where
    pub rate_in : AdmittedRate rate
    pub room : 32 * (sized_of rate).arm ≤ length lent
    pub receiver : (setup_of rate offset profile lent).receiver ≡ fresh_receiver (fresh_front rate offset (sized_of rate)) profile
    pub table : (setup_of rate offset profile lent).table ≡ written_of (sized_of rate).arm (sized_of rate).rate lent

  pub setup_fresh : (setup_of rate offset profile lent).number ≡ 0 → Fresh
  unfolding setup_of
  setup_fresh h = go (rate_refused rate) (offset_refused rate offset) (table_refused rate (length lent)) refl refl refl
    where
      go : (a b c : Bool) → rate_refused rate ≡ a → offset_refused rate offset ≡ b → table_refused rate (length lent) ≡ c → Fresh
      go true b c p q e = absurd (let z = rw p at h in omega arith)
      go false true c p q e = absurd (let z = rw (p, q) at h in omega arith)
      go false false true p q e = absurd (let z = rw (p, q, e) at h in omega arith)
      go false false false p q e = record {
        rate_in = rate_admitted rate false (sym p) refl;
        room = ltb-false (length lent) (32 * (sized_of rate).arm) e;
        receiver = rw (p, q, e);
        table = rw (p, q, e);
      }

  -- an accepted setup writes only the first 32 c table places
  pub setup_writes : (setup_of rate offset profile lent).number ≡ 0 → OnlyFirst (32 * (sized_of rate).arm) lent (setup_of rate offset profile lent).table
  unfolding table_of
  setup_writes h =
      let f = setup_fresh h in
      subst (OnlyFirst (32 * (sized_of rate).arm) lent) (sym f.table)
      (only_first (32 * (sized_of rate).arm) (table_of (sized_of rate).arm (sized_of rate).rate) lent (length_upto _ (32 * (sized_of rate).arm)) f.room)

  -- a refused one writes none, and in the state's place stands the zero one, which is not admitted
  pub record Unchanged : Type 0 where
    pub table : (setup_of rate offset profile lent).table ≡ lent
    pub receiver : (setup_of rate offset profile lent).receiver ≡ zero_receiver
    pub refused : admitted_of (setup_of rate offset profile lent).receiver ≡ false

  pub setup_leaves : ((setup_of rate offset profile lent).number ≡ 0 → ⊥) → Unchanged
  unfolding setup_of
  setup_leaves h = go (rate_refused rate) (offset_refused rate offset) (table_refused rate (length lent)) refl refl refl
    where
      go : (a b c : Bool) → rate_refused rate ≡ a → offset_refused rate offset ≡ b → table_refused rate (length lent) ≡ c → Unchanged
      go true b c p q e = record { table = rw p; receiver = rw p; refused = rw p (zero_refused) }
      go false true c p q e = record { table = rw (p, q); receiver = rw (p, q); refused = rw (p, q) (zero_refused) }
      go false false true p q e = record { table = rw (p, q, e); receiver = rw (p, q, e); refused = rw (p, q, e) (zero_refused) }
      go false false false p q e = absurd (h (rw (p, q, e)))

-- ---- reading
last_few : (v : signal.View) (n : ℕ) → length (signal.last_of v n) ≡ n
unfolding signal.last_of latest
last_few v n = length_upto _ n

shown_few : (zs : List Complex32) (l : List Float) → length zs ≤ length l / 2 → OnlyFirst (2 * (signal.shown_of zs l).reading.count) l (signal.shown_of zs l).output
unfolding signal.shown_of signal.written_of
shown_few zs l h = go (signal.usable_of (length zs) (signal.mean_power zs))
  where
    a : Float
    a = sqrt_of binary64 (signal.mean_power zs)

    go : (b : Bool) → OnlyFirst (2 * (cond b (signal.shown_as (length zs) (signal.written_of a zs l)) (signal.nothing l)).reading.count) l (cond b (signal.shown_as (length zs) (signal.written_of a zs l)) (signal.nothing l)).output
    go true =
        let e : length zs * 2 ≡ 2 * length zs = omega arith in
        subst (λ (n : ℕ). OnlyFirst (2 * length zs) l (signal.parts_of a zs ++ drop n l)) (sym e) (only_first (2 * length zs) (signal.parts_of a zs) l (length_parts a zs ∙ e) (omega arith))
    go false = record { size = refl; rest = refl }

module _ (r : Receiver) (lent : List Float) where
  -- an accepted read writes only the points it counts, two floats each
  pub reading_writes : (reading_of r lent).number ≡ 0 → OnlyFirst (2 * (reading_of r lent).count) lent (reading_of r lent).output
  unfolding reading_of
  reading_writes h = go (admitted_of r) refl
    where
      go : (b : Bool) → admitted_of r ≡ b → OnlyFirst (2 * (reading_of r lent).count) lent (reading_of r lent).output
      go true e =
          let v = signal.view_of r.chain.view r.planes.decisions.view.real r.planes.decisions.view.imaginary in
          let n = min v.place.count (length lent / 2) in
          rw e (shown_few (signal.last_of v n) lent (let k = last_few v n in omega arith))
      go false e = absurd (let z = rw e at h in omega arith)

  -- a refused one gives 7, count 0 and error 0, with nothing written
  pub record Unread : Type 0 where
    pub number : (reading_of r lent).number ≡ 7
    pub count : (reading_of r lent).count ≡ 0
    pub error : (reading_of r lent).error ≡ of_bits binary64 0
    pub output : (reading_of r lent).output ≡ lent

  pub reading_leaves : ((reading_of r lent).number ≡ 0 → ⊥) → Unread
  unfolding reading_of
  reading_leaves h = go (admitted_of r) refl
    where
      go : (b : Bool) → admitted_of r ≡ b → Unread
      go true e = absurd (h (rw e))
      go false e = record { number = rw e; count = rw e; error = rw e; output = rw e }
