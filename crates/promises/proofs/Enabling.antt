-- Enabling. It is refused for a state that is not admitted, which is handed back as given; enabling twice is enabling once; the state that it gives is admitted, and from it both streams begin with 31 silent
-- symbols. Before it, both streams are one. Assumes nothing.
use Rattle.std.specs.Prelude.{◌≡◌, Bool, true, false, ℕ, ◌≤◌, length, replicate, Float}
use Rattle.std.proofs.Math.Path.{refl, ap, subst}
use Rattle.std.proofs.Common.{sym, ◌∙◌, arith}
use Rattle.std.proofs.Math.Bool.{cond}
use mathlib.Core.List.{List, [], ◌++◌}
use Rattle.std.proofs.Math.ListN.{length-replicate}
use Rattle.complex.specs.declared.Complex32.{Complex32}
use Rattle.taps.specs.Taps.{both_tables}
use Rattle.numbers.specs.Constants.{zero32}
use Rattle.drift_detector.specs.Detector.{fresh_memory}
use Rattle.drift_detector.specs.Theorems.{fresh_ranged as fresh_detector}
use Rattle.second.specs.Second.{costs_of, fresh_second, fresh_floats}
use Rattle.second.specs.Parts.{join_split}
use Rattle.second.specs.FreshLaws.{fresh_ranged}
use Rattle.second.specs.AdmittedLaws.{ranged_place}
use Rattle.chain.specs.Rows.{Told, start, ran_of}
use Rattle.receiver_state.specs.declared.state.Receiver.{Receiver}
use Rattle.checks.specs.Fits.{fits_from, fits_to}
use Rattle.receiver.specs.Admitted.{admitted_of}
use Rattle.receiver.specs.Block.{Rooms, one, start_of, block_of}
use Rattle.receiver.specs.Enable.{Enabling, started_of, enabled_of, enable_of}
use Rattle.promises.specs.Deliveries.{dibits_in, bytes_in, deliveries, values_of, deliveries_of, other_deliveries_of}
use Rattle.promises.proofs.DeliveriesLaws.{accepted_is}
use Rattle.promises.specs.SecondKept.{joined_length}
use Rattle.promises.specs.Accepts.{Typed}
use Rattle.promises.specs.Compose.{delivered_dibits, delivered_bytes, delivered_others, delivered_other_bytes}
use Rattle.promises.proofs.ComposeLaws.{dibits_are, bytes_are, others_are, other_bytes_are}
use Rattle.promises.specs.Streams.{one_before_enabling, Filling, heard_in, silent_symbols, BothRan}
use Rattle.promises.proofs.AfterEnabling.{first_after_enabling}

-- ACCEPTED: the state enabled
pub enable_accepted : (r : Receiver) → admitted_of r ≡ true → enable_of r ≡ record { number = 0; receiver = enabled_of r }
unfolding enable_of
enable_accepted r h = rw h

module _ (r : Receiver) where
  -- REFUSED: 7, and the state as given
  pub enable_refused : admitted_of r ≡ false → enable_of r ≡ record { number = 7; receiver = r }
  unfolding enable_of
  enable_refused h = rw h

  started_admitted : admitted_of r ≡ true → admitted_of (started_of r) ≡ true
  unfolding started_of
  started_admitted h =
      let f = fits_from r.total r.front r.chain r.second r.planes.decisions.parents r.ancestors h in
      fits_to r.total r.front r.chain fresh_second r.planes.decisions.parents (replicate 2048 0) (record {
        total_in = f.total_in;
        index_in = f.index_in;
        locked_in = f.locked_in;
        symbols_in = f.symbols_in;
        front_fits = f.front_fits;
        chain_fits_lem = f.chain_fits_lem;
        table = f.table;
        second_fits = λ on. ranged_place fresh_second fresh_floats (replicate 2048 0) fresh_ranged;
      })

  -- the state that it gives is admitted and enabled
  pub enabled_admitted : admitted_of r ≡ true → (admitted_of (enabled_of r) ≡ true) × ((enabled_of r).second.enabled ≡ true)
  unfolding enabled_of
  enabled_admitted h = go r.second.enabled refl
    where
      picked : (b : Bool) → r.second.enabled ≡ b → (admitted_of (cond b r (started_of r)) ≡ true) × ((cond b r (started_of r)).second.enabled ≡ true)
          → (admitted_of (cond r.second.enabled r (started_of r)) ≡ true) × ((cond r.second.enabled r (started_of r)).second.enabled ≡ true)
      picked b e k = subst (λ (q : Receiver). (admitted_of q ≡ true) × (q.second.enabled ≡ true)) (sym (ap (λ (c : Bool). cond c r (started_of r)) e)) k

      go : (b : Bool) → r.second.enabled ≡ b → (admitted_of (cond r.second.enabled r (started_of r)) ≡ true) × ((cond r.second.enabled r (started_of r)).second.enabled ≡ true)
      go true e = picked true e (h, e)
      go false e = picked false e (started_admitted h, unfold started_of in unfold fresh_second in refl)

  -- ENABLING TWICE IS ENABLING ONCE, also where it is refused
  pub enabling_twice : enable_of (enable_of r).receiver ≡ enable_of r
  enabling_twice = go (admitted_of r) refl
    where
      still : (q : Receiver) → q.second.enabled ≡ true → enabled_of q ≡ q
      still q on = unfold enabled_of in rw on

      go : (b : Bool) → admitted_of r ≡ b → enable_of (enable_of r).receiver ≡ enable_of r
      go true e =
          let once = enable_accepted r e in
          let k = enabled_admitted e in
          ap (λ (x : Enabling). enable_of x.receiver) once
          ∙ enable_accepted (enabled_of r) k.0
          ∙ ap (λ (q : Receiver). record { number = 0; receiver = q }) (still (enabled_of r) k.1)
          ∙ sym once
      go false e = ap (λ (x : Enabling). enable_of x.receiver) (enable_refused e)

-- ---- BEFORE ENABLING an accepted call for both streams delivers the same in both
module _ (r : Receiver) (table xs : List Float) where
  pub one_delivered : r.second.enabled ≡ false → other_deliveries_of r table xs ≡ deliveries_of r table xs
  unfolding other_deliveries_of deliveries_of
  one_delivered off = one_before_enabling both_tables.taps both_tables.derivatives (values_of r table xs) (start_of r (one [] [])).lent.state r.records.slots off

  pub both_are_one : (lent : Rooms) → (block_of r table xs lent).number ≡ 0 → lent.both ≡ true → r.second.enabled ≡ false
      → (delivered_others (block_of r table xs lent) ≡ delivered_dibits (block_of r table xs lent)) × (delivered_other_bytes (block_of r table xs lent) ≡ delivered_bytes (block_of r table xs lent))
  both_are_one lent h b off =
      let e = accepted_is r table xs lent h in
      let same = one_delivered off in (
        ap delivered_others e ∙ others_are r table xs lent h b ∙ ap dibits_in same ∙ sym (dibits_are r table xs lent) ∙ sym (ap delivered_dibits e),
        ap delivered_other_bytes e ∙ other_bytes_are r table xs lent h b ∙ ap bytes_in same ∙ sym (bytes_are r table xs lent) ∙ sym (ap delivered_bytes e),
      )

-- ---- FROM ENABLING ON
module _ (r : Receiver) (off : r.second.enabled ≡ false) where
  -- the chains before and after
  abbrev begun : Receiver → Told
  begun q = start (start_of q (one [] [])).lent.state q.records.slots

  pub started_is : enabled_of r ≡ started_of r
  unfolding enabled_of
  started_is = rw off

  fresh_filling : Filling 0 (begun (enabled_of r)).state.second
  fresh_filling = subst (λ (q : Receiver). Filling 0 (begun q).state.second) (sym started_is) (unfold started_of in unfold fresh_second in record { enabled = refl; filled = refl; previous = refl })

  module _ (table xs : List Float) where
    abbrev values : List Complex32
    values = values_of (enabled_of r) table xs

    -- both streams are silent while 31 symbols come
    pub silent_from_enabling : heard_in both_tables.taps both_tables.derivatives values (begun (enabled_of r)).state (enabled_of r).records.slots ≤ 31
        → (deliveries_of (enabled_of r) table xs ≡ []) × (other_deliveries_of (enabled_of r) table xs ≡ [])
    unfolding deliveries_of other_deliveries_of
    silent_from_enabling few =
        let k = silent_symbols both_tables.taps both_tables.derivatives values (begun (enabled_of r)) 0 fresh_filling (omega arith) in
        (k.first, k.other)

    -- and what the first delivers after them is what it delivers from there without the second, whose silent symbols alone it lacks
    pub first_from_enabling : (before after : List Complex32) → values ≡ before ++ after
        → heard_in both_tables.taps both_tables.derivatives before (begun (enabled_of r)).state (enabled_of r).records.slots ≡ 31
        → deliveries_of (enabled_of r) table xs
        ≡ deliveries both_tables.taps both_tables.derivatives after (ran_of both_tables.taps both_tables.derivatives before (begun r)).state (ran_of both_tables.taps both_tables.derivatives before (begun r)).records
    unfolding deliveries_of
    first_from_enabling before after e heard =
        ap (λ (l : List Complex32). deliveries both_tables.taps both_tables.derivatives l (begun (enabled_of r)).state (enabled_of r).records.slots) e
        ∙ first_after_enabling both_tables.taps both_tables.derivatives before after (begun (enabled_of r)) (begun r)
        (subst (λ (q : Receiver). BothRan both_tables.taps both_tables.derivatives (begun q) (begun r)) (sym started_is) (unfold started_of in record { state = record { recovery = refl; decisions = refl; profile = refl }; records = refl; off = off }))
        fresh_filling heard

fresh_length : length fresh_floats ≡ 9280
unfolding fresh_floats
fresh_length = let m = fresh_detector.memory in joined_length fresh_memory (replicate 64 zero32) m.real_size m.imaginary_size m.drift_size m.inverse_size (length-replicate 64 zero32)

-- its second detector's costs are zeros
pub fresh_costs : costs_of fresh_floats ≡ replicate 64 zero32
unfolding fresh_floats
fresh_costs = (join_split fresh_memory (replicate 64 zero32) fresh_detector.memory (length-replicate 64 zero32)).1

-- what the type of a state says holds of it too
pub enabled_typed : (r : Receiver) → Typed r → Typed (enabled_of r)
unfolding enabled_of
enabled_typed r t = go r.second.enabled refl
  where
    started : Typed (started_of r)
    started = unfold started_of in record {
      next = t.next;
      keeper_real = t.keeper_real;
      keeper_imaginary = t.keeper_imaginary;
      channel_real = t.channel_real;
      channel_imaginary = t.channel_imaginary;
      costs = t.costs;
      parents = t.parents;
      memory = fresh_length;
      ancestors = length-replicate {A = ℕ} 2048 0;
    }

    go : (b : Bool) → r.second.enabled ≡ b → Typed (cond r.second.enabled r (started_of r))
    go true e = subst Typed (sym (ap (λ (c : Bool). cond c r (started_of r)) e)) t
    go false e = subst Typed (sym (ap (λ (c : Bool). cond c r (started_of r)) e)) started
