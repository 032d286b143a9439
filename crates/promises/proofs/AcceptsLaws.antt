-- When a block is accepted, and that the state that it returns can be given to the next. Assumes nothing.
use Rattle.std.specs.Prelude.{◌≡◌, Bool, true, false, cond, not, List, [], ℕ, ◌+◌, ◌*◌, ◌/◌, ◌%◌, ◌^◌, ◌≤◌, ◌<◌, ltb, eqb, ℤ, pos, Float}
use Rattle.std.proofs.Math.Path.{refl, sym, ap}
use Rattle.std.proofs.Common.{◌∙◌, arith}
use Rattle.std.proofs.Math.ListN.{length}
use Rattle.std.proofs.lemmas.List.{length-replicate}
use Rattle.std.specs.Float.{binary64}
use Rattle.std.specs.Float.Ieee.{fits}
use Rattle.std.specs.Float.Ieee.Fits.{of_int-fits}
use borrow.Author.Tests.{le-ltb, ne_eqb, eqb-false}
use Rattle.laws.specs.Places.{length_upto}
use Rattle.laws.specs.Branches.{not_false}
use Rattle.numbers.specs.Constants.{zero32}
use Rattle.resampler.specs.declared.dimensions.Dimensions.{Dimensions}
use Rattle.resampler.specs.Dimensions as resampler
use Rattle.sequence.specs.Sequence as sequence
use Rattle.front.specs.Front as front
use Rattle.front.specs.Steps as steps
use Rattle.oscillator.specs.Oscillator.{conjugated_of}
use Rattle.taps.specs.Taps.{both_tables}
use Rattle.second.specs.Parts.{split_join, memory_sized, costs_sized}
use Rattle.chain.specs.Rows.{start, ran_of, chain_of}
use Rattle.chain.specs.RowLaws.{Left, chain_left}
use Rattle.receiver_state.specs.declared.state.Receiver.{Receiver}
use Rattle.checks.specs.Refusal.{first_of}
use Rattle.receiver_state.specs.State.{fresh_front, fresh_receiver}
use Rattle.checks.specs.Checks.{setup_checks, count_refused, room_refused, stated_of}
use Rattle.receiver.specs.Setup.{setup_by, setup_of}
use Rattle.samples.specs.Samples.{count_of, finite_of}
use Rattle.receiver.specs.Admitted.{admitted_of}
use Rattle.checks.specs.Fits.{fits_from}
use Rattle.run.specs.Run.{front_at, whole_run_of, Going, ReadyRun}
use Rattle.receiver.specs.Block.{Rooms, one, dibit_room, reliability_room, start_of, floats_of, block_of}
use Rattle.checks.specs.Ways.{counted}
use Rattle.receiver.specs.Accepted.{ReadyBlock, ready_block, numbers_of}
use Rattle.receiver.proofs.BlockLaws.{room_in, run_asks, run_admitted}
use Rattle.promises.specs.Deliveries.{after_of}
use Rattle.promises.proofs.DeliveriesLaws.{number_is, accepted_is}
use Rattle.promises.specs.SecondKept.{SecondSized, ran_sized, SplitsBack, ran_splits}
use Rattle.promises.specs.Accepts.{BlockKeeps, Passes, Typed}

-- ---- the checks
passed : (n : ℕ) (b : Bool) (m : ℕ) → 0 < n → cond b n m ≡ 0 → (b ≡ false) × (m ≡ 0)
passed n true m l h = absurd (omega arith)
passed n false m l h = (refl, h)

uncounted : (total floats : ℕ) → floats / 2 ≤ 65536 → floats ≡ 2 * (floats / 2) → total + floats / 2 ≤ 2 ^ 52 → count_refused total floats ≡ false
unfolding count_refused
uncounted total floats few even room = rw (le-ltb 65536 (floats / 2) few, ne_eqb (floats % 2) 1 (λ e. omega arith), le-ltb (2 ^ 52) (total + floats / 2) room)

module _ (r : Receiver) (table xs : List Float) (lent : Rooms) where
  -- accepted exactly where no check applies
  pub accepted_passes : (block_of r table xs lent).number ≡ 0 → Passes r table xs lent
  unfolding stated_of
  accepted_passes h =
      let z = sym (number_is r table xs lent) ∙ h in
      let k = ready_block r table xs (dibit_room lent) (reliability_room lent) z in
      let a = passed 7 (not (admitted_of r)) _ (omega arith) z in
      let b = passed 3 (ltb (length table) (32 * r.front.resampler.arm)) _ (omega arith) a.1 in
      let c = passed 4 (count_refused r.total (length xs)) _ (omega arith) b.1 in
      let d = passed 6 (room_refused (count_of xs) (dibit_room lent) (reliability_room lent)) _ (omega arith) c.1 in
      let e = passed 5 (not (finite_of xs)) _ (omega arith) d.1 in
      let q = counted r.total (length xs) (count_refused r.total (length xs)) refl c.0 in
      record {
        admitted = not_false (admitted_of r) a.0;
        table_in = k.table_in;
        few = q.few;
        even = q.even;
        total_in = q.total_in;
        room = record { dibits = k.dibits_in; reliabilities = k.reliabilities_in };
        finite = not_false (finite_of xs) e.0;
      }

  pub passes_accepted : Passes r table xs lent → (block_of r table xs lent).number ≡ 0
  unfolding stated_of
  passes_accepted k = number_is r table xs lent ∙ rw (
    k.admitted,
    le-ltb (length table) (32 * r.front.resampler.arm) k.table_in,
    uncounted r.total (length xs) k.few k.even k.total_in,
    le-ltb (dibit_room lent) (2 * count_of xs + 4) k.room.dibits,
    le-ltb (reliability_room lent) (4 * count_of xs + 8) k.room.reliabilities,
    k.finite,
  )

-- ---- the state that is returned

module _ (r : Receiver) (table xs : List Float) (lent : Rooms) (t : Typed r) (k : Passes r table xs lent) where
  ready : 2 * count_of xs + 4 ≤ length lent.dibits → 4 * count_of xs + 8 ≤ length lent.reliabilities → ReadyBlock r table xs (length lent.dibits) (length lent.reliabilities)
  ready a b = record {
    fits = fits_from r.total r.front r.chain r.second r.planes.decisions.parents r.ancestors k.admitted;
    table_in = k.table_in;
    total_in = k.total_in;
    numbers = numbers_of xs k.even k.finite;
    dibits_in = a;
    reliabilities_in = b;
  }

  -- the state does not depend on the rooms: it is looked at as left with none for the second stream
  abbrev alone : Rooms
  alone = one lent.dibits lent.reliabilities

  asks : ReadyRun false table xs (start_of r alone)
  asks =
      let a = (room_in lent.both (length lent.dibits) (length lent.others) _ k.room.dibits).0 in
      let b = (room_in lent.both (length lent.reliabilities) (length lent.other_reliabilities) _ k.room.reliabilities).0 in
      run_asks r table xs r.memory alone (ready a b) (record { no_dibits = λ e. refl; no_reliabilities = λ e. refl }) (λ on. t.memory) t.ancestors
      t.keeper_real t.keeper_imaginary t.channel_real t.channel_imaginary t.costs t.parents

  abbrev conjugated : Bool
  conjugated = conjugated_of r.chain.profile

  abbrev before : front.Run
  before = record { rung = (start_of r alone).rung; values = [] }

  ran : steps.Ran (count_of xs) before (front.front_of conjugated table xs (count_of xs) before)
  ran = steps.ran conjugated table xs (count_of xs) before (record { admitted = asks.ready; stored = t.next }) asks.index_in

  left : Left (2 * count_of xs) (start_of r alone).lent.state (start_of r alone).lent.room (start_of r alone).lent.other (whole_run_of conjugated table xs (start_of r alone)).lent
  unfolding whole_run_of
  left =
      let l = chain_left (front_at conjugated table xs (start_of r alone) (count_of xs)).values (start_of r alone).lent.state (start_of r alone).lent.records (start_of r alone).lent.room (start_of r alone).lent.other asks.asks.state in
      let m = l.most in
      let v = ran.values in
      record { ranged = l.ranged; least = l.least; most = omega arith; symbols = l.symbols; dibits = l.dibits; reliabilities = l.reliabilities; others = l.others; other_reliabilities = l.other_reliabilities }

  going : Going conjugated table xs (start_of r alone) (whole_run_of conjugated table xs (start_of r alone))
  unfolding whole_run_of
  going = record { high = omega arith; next = ran.kept.next; rung = refl; lent = refl; left = left }

  sized : SecondSized (whole_run_of conjugated table xs (start_of r alone)).lent.state.second
  unfolding whole_run_of chain_of
  sized =
      ran_sized both_tables.taps both_tables.derivatives (front_at conjugated table xs (start_of r alone) (count_of xs)).values (start (start_of r alone).lent.state r.records.slots) asks.asks.state
      (record { floats = ap length (split_join r.memory t.memory) ∙ t.memory; parents = t.ancestors })

  -- the second stream that is returned is the one that the run left
  pub passes_back : SplitsBack (ran_of both_tables.taps both_tables.derivatives (front_at conjugated table xs (start_of r (one [] [])) (count_of xs)).values (start (start_of r (one [] [])).lent.state r.records.slots)).state.second
  passes_back =
      let m = t.memory in
      ran_splits both_tables.taps both_tables.derivatives (front_at conjugated table xs (start_of r (one [] [])) (count_of xs)).values (start (start_of r (one [] [])).lent.state r.records.slots) asks.asks.state
      (memory_sized r.memory (omega arith)) (costs_sized r.memory (omega arith))

  pub passes_kept : BlockKeeps r (after_of r table xs)
  unfolding after_of whole_run_of chain_of
  passes_kept =
      let s = left.ranged in record {
        admitted =
            run_admitted conjugated r table xs r.memory alone (whole_run_of conjugated table xs (start_of r alone)) (floats_of (whole_run_of conjugated table xs (start_of r alone)))
            (ready (room_in lent.both (length lent.dibits) (length lent.others) _ k.room.dibits).0 (room_in lent.both (length lent.reliabilities) (length lent.other_reliabilities) _ k.room.reliabilities).0)
            going;
        typed = record {
          next = ran.kept.sound.stored;
          keeper_real = s.recovery.keeper.real_size;
          keeper_imaginary = s.recovery.keeper.imaginary_size;
          channel_real = s.decisions.carrier.detector.real_size;
          channel_imaginary = s.decisions.carrier.detector.imaginary_size;
          costs = s.decisions.carrier.detector.skeleton.costs_size;
          parents = s.decisions.carrier.detector.skeleton.parents_size;
          memory = sized.floats;
          ancestors = sized.parents;
        };
        arm = ran.kept.next.arm;
      }

-- EVERY STATE FROM AN ACCEPTED BLOCK is admitted, and typed where the state given is
pub block_kept : (r : Receiver) (table xs : List Float) (lent : Rooms) → Typed r → (block_of r table xs lent).number ≡ 0 → BlockKeeps r (block_of r table xs lent).receiver
block_kept r table xs lent t h = rw (accepted_is r table xs lent h) (passes_kept r table xs lent t (accepted_passes r table xs lent h))

fresh_typed : (rate offset : Float) (profile : ℤ) (d : Dimensions) → Typed (fresh_receiver (fresh_front rate offset d) profile)
unfolding fresh_receiver resampler.fresh_of sequence.fresh_real
fresh_typed rate offset profile d = record {
  next = of_int-fits binary64 (pos (d.arm / 2));
  keeper_real = length-replicate 64 zero32;
  keeper_imaginary = length-replicate 64 zero32;
  channel_real = length_upto sequence.fresh_tap 256;
  channel_imaginary = length-replicate 256 zero32;
  costs = length-replicate 64 zero32;
  parents = length-replicate {A = ℕ} 2048 0;
  memory = length-replicate 9280 zero32;
  ancestors = length-replicate {A = ℕ} 2048 0;
}

-- and every state from an accepted setup is typed
pub setup_typed : (rate offset : Float) (profile : ℤ) (table : List Float) → (setup_of rate offset profile table).number ≡ 0 → Typed (setup_of rate offset profile table).receiver
unfolding setup_of
setup_typed rate offset profile table h = go (first_of (setup_checks rate offset (length table))) (eqb (first_of (setup_checks rate offset (length table))) 0) refl h
  where
    go : (n : ℕ) (b : Bool) → eqb n 0 ≡ b → (setup_by n rate offset profile table).number ≡ 0 → Typed (setup_by n rate offset profile table).receiver
    go n true e h = rw e (fresh_typed rate offset profile (resampler.sized_of rate))
    go n false e h = absurd (eqb-false n 0 e (rw e at h))
