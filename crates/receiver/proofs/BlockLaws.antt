-- An accepted block: what it asks, and that it leaves an admitted state. Assumes nothing.
use Rattle.std.specs.Prelude.{◌≡◌, refl, Bool, true, false, List, [], ◌∷◌, ℕ, ◌+◌, ◌*◌, ◌/◌, ◌≤◌, length, Float, Result, Ok, Err}
use Rattle.std.proofs.Math.Path.{sym, ap}
use Rattle.std.proofs.Common.{◌∙◌, arith}
use Rattle.std.proofs.lemmas.Bool.{false≢true}
use Rattle.oscillator.specs.Oscillator.{conjugated_of}
use Rattle.second.specs.Second.{second_of}
use Rattle.second.specs.Parts.{split_join}
use Rattle.second.specs.AdmittedLaws.{place_ranged}
use Rattle.checks.specs.declared.refusal.Refusal.{Refusal}
use Rattle.receiver_state.specs.declared.state.Receiver.{Receiver}
use Rattle.receiver_state.specs.declared.state.Snapshot.{Snapshot}
use Rattle.receiver.specs.declared.block.Block.{Block}
use Rattle.receiver_state.specs.State.{snapshot_of}
use Rattle.samples.specs.Samples.{count_of}
use Rattle.receiver.specs.Admitted.{admitted_of, judged_of}
use Rattle.checks.specs.Fits.{fits_to}
use Rattle.checks.specs.Ways.{number_not}
use Rattle.run.specs.Run.{Whole, whole_run_of, Going, ReadyRun}
use Rattle.checks.specs.Checks.{judged_now}
use Rattle.receiver.specs.Accepted.{ReadyBlock, take_asks}
use Rattle.receiver.specs.Absent.{whole_given, run_off}
use Rattle.receiver.specs.Block.{Rooms, NoneLent, room_of, dibit_room, reliability_room, start_with, start_of, receiver_with, floats_of, Outcome, outcome_now, ended_with, ended_of, accepted_of, block_of}

-- ---- the rooms

-- where the shorter is long enough, both are
pub room_in : (both : Bool) (first other least : ℕ) → least ≤ room_of both first other → (least ≤ first) × (both ≡ true → least ≤ other)
room_in true first other least h = (omega arith, λ t. omega arith)
room_in false first other least h = (h, λ t. absurd (false≢true t))

-- a room of no bytes stays one
emptied : (l : List ℕ) → length l ≡ 0 → [] ≡ l
emptied [] h = refl
emptied (x ∷ l) h = absurd (omega arith)

pub none_lent : (x : Result Block Refusal) (r : Receiver) (ds rs es qs : List ℕ) (y : Outcome) → length es ≡ 0 → length qs ≡ 0 → outcome_now x r ds rs es qs ≡ y → outcome_now x r ds rs [] [] ≡ y
none_lent x r ds rs es qs y e f h = (λ i. outcome_now x r ds rs (emptied es e i) (emptied qs f i)) ∙ h

abbrev Ready : Receiver → List Float → List Float → Rooms → Type 0
Ready r table xs o = ReadyBlock r table xs (dibit_room o) (reliability_room o)

-- ---- the run
pub run_asks : (r : Receiver) (table xs memory : List Float) (o : Rooms) → Ready r table xs o → NoneLent o → (r.second.enabled ≡ true → length memory ≡ 9280) → length r.ancestors ≡ 2048
    → length r.planes.recovery.keeper.real ≡ 64 → length r.planes.recovery.keeper.imaginary ≡ 64 → length r.planes.decisions.channels.real ≡ 256 → length r.planes.decisions.channels.imaginary ≡ 256 → length r.planes.decisions.costs ≡ 64 → length r.planes.decisions.parents ≡ 2048
    → ReadyRun o.both table xs (start_with r memory o)
run_asks r table xs memory o k none sized an kr ki hr hi co pa =
    let f = k.fits in
    let a = f.front_fits in
    let b = f.chain_fits_lem in
    let c = room_in o.both (length o.dibits) (length o.others) (2 * count_of xs + 4) k.dibits_in in
    let d = room_in o.both (length o.reliabilities) (length o.other_reliabilities) (4 * count_of xs + 8) k.reliabilities_in in
    let c0 = c.0 in
    let d0 = d.0 in
    let e = k.total_in in
    let g = f.index_in in
    let h = f.symbols_in in
    record {
      start = refl;
      ready = a;
      numbers = k.numbers;
      table_in = k.table_in;
      index_in = omega arith;
      asks = record {
        state = record {
          recovery = record { keeper = record { head = b.keeper.head; fill = b.keeper.fill; real_size = kr; imaginary_size = ki }; clock = b.clock };
          decisions = record {
            carrier = record {
              alternation = b.carrier.alternation;
              detector = record { skeleton = record { place = b.carrier.detector; table = f.table; costs_size = co; parents_size = pa }; real_size = hr; imaginary_size = hi };
            };
            view = b.view;
          };
          second = λ on. let m = sized on in place_ranged r.second memory r.ancestors (f.second_fits on) (omega arith) an;
          delivery = record { locked = f.locked_in };
        };
        symbols = omega arith;
        room = record { dibits = omega arith; reliabilities = omega arith };
        other = record {
          room = λ t. let u = c.1 t in let v = d.1 t in record { dibits = omega arith; reliabilities = omega arith };
          no_dibits = none.no_dibits;
          no_reliabilities = none.no_reliabilities;
        };
      };
    }

-- what a run leaves is admitted, whatever the second stream's floats
pub run_admitted : (conjugated : Bool) (r : Receiver) (table xs memory : List Float) (o : Rooms) (w : Whole) (left : List Float) → Ready r table xs o → Going conjugated table xs (start_with r memory o) w
    → admitted_of (receiver_with (r.total + count_of xs) w left) ≡ true
run_admitted conjugated r table xs memory o w left k g =
    let n : w.from ≤ count_of xs = g.high in
    let f = k.fits in
    let l = g.left in
    let s = l.symbols in
    let m = l.most in
    let i = g.next.index in
    let d = g.next.decimation in
    let q = f.front_fits.decimator.decimation_low in
    let a = f.index_in in
    let b = f.symbols_in in
    let t = k.total_in in
    let u = l.ranged.recovery in
    let v = l.ranged.decisions in
    let y = g.next.admitted in
    let x = receiver_with (r.total + count_of xs) w left in
    fits_to x.total x.front x.chain x.second x.planes.decisions.parents x.ancestors (record {
      total_in = k.total_in;
      index_in = omega arith;
      locked_in = l.ranged.delivery.locked;
      symbols_in = omega arith;
      front_fits = y;
      chain_fits_lem = record {
        keeper = record { head = u.keeper.head; fill = u.keeper.fill };
        clock = u.clock;
        carrier = record { alternation = v.carrier.alternation; detector = v.carrier.detector.skeleton.place };
        view = v.view;
      };
      table = v.carrier.detector.skeleton.table;
      second_fits = λ on.
          let z = l.ranged.second on in
          record { carrier = record { alternation = z.alternation; detector = z.detector.skeleton.place }; table = z.detector.skeleton.table };
    })

-- at most two dibits a sample
run_most : (conjugated : Bool) (r : Receiver) (table xs memory : List Float) (o : Rooms) (w : Whole) → Going conjugated table xs (start_with r memory o) w → w.lent.room.written ≤ length xs
run_most conjugated r table xs memory o w g = let n : w.from ≤ length xs / 2 = g.high in let m = g.left.most in omega arith

-- ---- an accepted block
module _ (r : Receiver) (table xs : List Float) (overload : ℕ) (o : Rooms) where
  abbrev total : ℕ
  total = r.total + count_of xs

  -- what the definition's run leaves
  abbrev ended : Outcome
  ended = ended_of total overload (whole_run_of (conjugated_of r.chain.profile) table xs (start_of r o))

  -- what the code makes of its own run
  abbrev made : Whole → Snapshot → Result Block Refusal
  made w s = Ok (record { count = w.lent.room.written; overload = overload; snapshot = s })

  pub accepted_is : (conjugated : Bool) (memory : List Float) (w : Whole) (s : Snapshot) (left : List Float) → Ready r table xs o → Going conjugated table xs (start_with r memory o) w
      → s ≡ snapshot_of w.lent.state.place → ended_with total overload w left ≡ ended
      → (outcome_now (made w s) (receiver_with total w left) w.lent.room.dibits w.lent.room.reliabilities w.lent.other.dibits w.lent.other.reliabilities ≡ accepted_of r table xs overload o)
      × ((admitted_of (receiver_with total w left) ≡ true) × (w.lent.room.written ≤ length xs))
  unfolding accepted_of
  accepted_is conjugated memory w s left k g se en = (
    ap (λ (t : Snapshot). outcome_now (made w t) (receiver_with total w left) w.lent.room.dibits w.lent.room.reliabilities w.lent.other.dibits w.lent.other.reliabilities) se ∙ en,
    (run_admitted conjugated r table xs memory o w left k g, run_most conjugated r table xs memory o w g),
  )

  -- with the second stream's floats taken out and put back
  pub ended_both : (conjugated : Bool) (w : Whole) (left : List Float) → conjugated ≡ conjugated_of r.chain.profile → w ≡ whole_run_of conjugated table xs (start_of r o) → floats_of w ≡ left
      → ended_with total overload w left ≡ ended
  ended_both conjugated w left ce we fe =
      ap (ended_with total overload w) (sym fe) ∙ ap (ended_of total overload) (we ∙ ap (λ (b : Bool). whole_run_of b table xs (start_of r o)) ce)

  -- with others in their place, while the second is not enabled
  pub ended_one : (conjugated : Bool) (memory : List Float) (w : Whole) → r.second.enabled ≡ false → length r.memory ≡ 9280 → conjugated ≡ conjugated_of r.chain.profile
      → w ≡ whole_run_of conjugated table xs (start_with r memory o) → ended_with total overload w r.memory ≡ ended
  ended_one conjugated memory w off size ce we =
      let profile = conjugated_of r.chain.profile in
      let first = start_with r memory o in
      let own = second_of r.second memory r.ancestors in
      let kept = second_of r.second r.memory r.ancestors in
      ap (λ (v : Whole). ended_with total overload v r.memory) (we ∙ ap (λ (b : Bool). whole_run_of b table xs first) ce ∙ run_off own off profile table xs first off)
      ∙ ap (ended_with total overload (whole_given kept off (whole_run_of profile table xs first))) (sym (split_join r.memory size))
      ∙ ap (ended_of total overload) (sym (run_off kept off profile table xs first off))

-- ---- the call

-- the rooms that the checks looked at
pub judged_rooms : (r : Receiver) (xs : List Float) (table : ℕ) (o : Rooms) (c : Result ℕ Refusal) (dibits reliabilities : ℕ) → dibits ≡ dibit_room o → reliabilities ≡ reliability_room o
    → judged_now c ≡ judged_of r xs table dibits reliabilities → judged_now c ≡ judged_of r xs table (dibit_room o) (reliability_room o)
judged_rooms r xs table o c dibits reliabilities d e h = h ∙ (λ i. judged_of r xs table (d i) (e i))

module _ (r : Receiver) (table xs : List Float) (o : Rooms) where
  pub take_refused : (e : Refusal) → judged_now (Err e) ≡ judged_of r xs (length table) (dibit_room o) (reliability_room o)
      → outcome_now (Err e) r o.dibits o.reliabilities o.others o.other_reliabilities ≡ block_of r table xs o
  unfolding block_of
  take_refused e j = rw (← j, number_not e)

  module _ (overload : ℕ) (je : judged_now (Ok overload) ≡ judged_of r xs (length table) (dibit_room o) (reliability_room o)) where
    take_accepted : (x : Result Block Refusal) (q : Receiver) (ds rs es qs : List ℕ) → outcome_now x q ds rs es qs ≡ accepted_of r table xs overload o → outcome_now x q ds rs es qs ≡ block_of r table xs o
    unfolding block_of
    take_accepted x q ds rs es qs h = rw (← je) h

    -- an accepted block, from what the run left
    pub taken_is : (conjugated : Bool) (memory : List Float) (w : Whole) (s : Snapshot) (left : List Float) → Going conjugated table xs (start_with r memory o) w → s ≡ snapshot_of w.lent.state.place
        → ended_with (r.total + count_of xs) overload w left ≡ ended_of (r.total + count_of xs) overload (whole_run_of (conjugated_of r.chain.profile) table xs (start_of r o))
        → (outcome_now (made r table xs overload o w s) (receiver_with (r.total + count_of xs) w left) w.lent.room.dibits w.lent.room.reliabilities w.lent.other.dibits w.lent.other.reliabilities ≡ block_of r table xs o)
        × ((admitted_of (receiver_with (r.total + count_of xs) w left) ≡ true) × (w.lent.room.written ≤ length xs))
    taken_is conjugated memory w s left g se en =
        let a = accepted_is r table xs overload o conjugated memory w s left (take_asks r table xs (dibit_room o) (reliability_room o) overload je) g se en in
        (take_accepted (made r table xs overload o w s) (receiver_with (r.total + count_of xs) w left) w.lent.room.dibits w.lent.room.reliabilities w.lent.other.dibits w.lent.other.reliabilities a.0, a.1)

    -- and one for which nothing was lent to the second stream
    pub taken_one : (conjugated : Bool) (memory : List Float) (w : Whole) (s : Snapshot) (left : List Float) → Going conjugated table xs (start_with r memory o) w → s ≡ snapshot_of w.lent.state.place
        → ended_with (r.total + count_of xs) overload w left ≡ ended_of (r.total + count_of xs) overload (whole_run_of (conjugated_of r.chain.profile) table xs (start_of r o))
        → length w.lent.other.dibits ≡ 0 → length w.lent.other.reliabilities ≡ 0
        → (outcome_now (made r table xs overload o w s) (receiver_with (r.total + count_of xs) w left) w.lent.room.dibits w.lent.room.reliabilities [] [] ≡ block_of r table xs o)
        × ((admitted_of (receiver_with (r.total + count_of xs) w left) ≡ true) × (w.lent.room.written ≤ length xs))
    taken_one conjugated memory w s left g se en es qs =
        let a = taken_is conjugated memory w s left g se en in
        (none_lent (made r table xs overload o w s) (receiver_with (r.total + count_of xs) w left) w.lent.room.dibits w.lent.room.reliabilities w.lent.other.dibits w.lent.other.reliabilities (block_of r table xs o) es qs a.0, a.1)
