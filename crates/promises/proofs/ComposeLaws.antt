-- Two blocks one after the other give what one block of both gives. Assumes nothing.
use Rattle.std.specs.Prelude.{◌≡◌, refl, true, List, ◌++◌, ℕ, ◌+◌, ◌*◌, ◌%◌, ◌≤◌, length, take, Float}
use Rattle.std.proofs.Common.{sym, ap, ◌∙◌, arith, length-append, take_at}
use Rattle.receiver_state.specs.declared.state.Receiver.{Receiver}
use Rattle.receiver_state.specs.State.{snapshot_of}
use Rattle.samples.specs.Samples.{count_of, finite_of}
use Rattle.laws.specs.Branches.{and_true}
use Rattle.receiver.specs.Block.{Rooms, Outcome, block_of}
use Rattle.promises.specs.Deliveries.{dibits_in, bytes_in, deliveries_of, other_deliveries_of, after_of, outcome_of}
use Rattle.promises.proofs.DeliveriesLaws.{length_dibits, length_bytes, dibits_append, bytes_append, total_after, laid_front, as_many_delivered, others_fit, accepted_is}
use Rattle.promises.specs.SecondKept.{SplitsBack}
use Rattle.promises.specs.Append.{told_first, count_append, finite_append, overload_append, after_append, delivered_append, others_append}
use Rattle.promises.specs.Accepts.{Roomy, Passes, Typed}
use Rattle.promises.proofs.AcceptsLaws.{accepted_passes, passes_accepted, passes_back, passes_kept}
use Rattle.promises.specs.Compose.{InTurn, InTurnToo, delivered_bytes, delivered_dibits, delivered_other_bytes, delivered_others}

-- an accepted block delivers its list
pub dibits_are : (r : Receiver) (table xs : List Float) (lent : Rooms) → delivered_dibits (outcome_of r table xs lent) ≡ dibits_in (deliveries_of r table xs)
dibits_are r table xs lent = let l = deliveries_of r table xs in take_at (dibits_in l) _ (length l) (length_dibits l)

pub bytes_are : (r : Receiver) (table xs : List Float) (lent : Rooms) → delivered_bytes (outcome_of r table xs lent) ≡ bytes_in (deliveries_of r table xs)
bytes_are r table xs lent = let l = deliveries_of r table xs in take_at (bytes_in l) _ (2 * length l) (length_bytes l)

-- and, where the second stream's rooms are lent, that stream's
pub others_are : (r : Receiver) (table xs : List Float) (lent : Rooms) → (block_of r table xs lent).number ≡ 0 → lent.both ≡ true → delivered_others (outcome_of r table xs lent) ≡ dibits_in (other_deliveries_of r table xs)
others_are r table xs lent h t =
    let m = other_deliveries_of r table xs in
    let n : length (dibits_in m) ≡ length (deliveries_of r table xs) = length_dibits m ∙ as_many_delivered r table xs in
    let k = (others_fit r table xs lent h t).0 in
    let a = length_dibits m in
    ap (take (length (deliveries_of r table xs))) (laid_front (dibits_in m) lent.others (length (deliveries_of r table xs)) n (omega arith)) ∙ take_at (dibits_in m) _ _ n

pub other_bytes_are : (r : Receiver) (table xs : List Float) (lent : Rooms) → (block_of r table xs lent).number ≡ 0 → lent.both ≡ true → delivered_other_bytes (outcome_of r table xs lent) ≡ bytes_in (other_deliveries_of r table xs)
other_bytes_are r table xs lent h t =
    let m = other_deliveries_of r table xs in
    let n : length (bytes_in m) ≡ 2 * length (deliveries_of r table xs) = length_bytes m ∙ ap (λ (i : ℕ). 2 * i) (as_many_delivered r table xs) in
    let k = (others_fit r table xs lent h t).1 in
    let a = length_bytes m in
    ap (take (2 * length (deliveries_of r table xs))) (laid_front (bytes_in m) lent.other_reliabilities (2 * length (deliveries_of r table xs)) n (omega arith)) ∙ take_at (bytes_in m) _ _ n

joined : (f s w first second whole : List ℕ) → first ≡ f → second ≡ s → whole ≡ w → w ≡ f ++ s → whole ≡ first ++ second
joined f s w first second whole p q e h = rw (p, q, e) h

in_turn_as : (f s w first second whole : Outcome) → first ≡ f → second ≡ s → whole ≡ w → InTurn f s w → InTurn first second whole
in_turn_as f s w first second whole p q e t = rw (p, q, e) t

module _ (r : Receiver) (table xs ys : List Float) (lent lent1 lent2 : Rooms) where
  outcomes : length xs ≡ 2 * count_of xs → SplitsBack (told_first r table xs ys).state.second → InTurn (outcome_of r table xs lent1) (outcome_of (after_of r table xs) table ys lent2) (outcome_of r table (xs ++ ys) lent)
  outcomes even back =
      let f = deliveries_of r table xs in
      let s = deliveries_of (after_of r table xs) table ys in
      let a = after_append r table xs ys even back in
      let d = delivered_append r table xs ys even back in
      record {
        first_accepted = refl;
        second_accepted = refl;
        whole_accepted = refl;
        receiver = a;
        snapshot = ap (λ (q : Receiver). snapshot_of q.chain) a;
        count = ap length d ∙ length-append f s;
        overload = overload_append xs ys even;
        dibits = joined _ _ _ _ _ _ (dibits_are r table xs lent1) (dibits_are (after_of r table xs) table ys lent2) (dibits_are r table (xs ++ ys) lent) (ap dibits_in d ∙ dibits_append f s);
        reliabilities = joined _ _ _ _ _ _ (bytes_are r table xs lent1) (bytes_are (after_of r table xs) table ys lent2) (bytes_are r table (xs ++ ys) lent) (ap bytes_in d ∙ bytes_append f s);
      }

  all_accepted : Typed r → length xs ≡ 2 * count_of xs → (block_of r table xs lent1).number ≡ 0 → (block_of (after_of r table xs) table ys lent2).number ≡ 0 → (block_of r table (xs ++ ys) lent).number ≡ 0
      → InTurn (block_of r table xs lent1) (block_of (block_of r table xs lent1).receiver table ys lent2) (block_of r table (xs ++ ys) lent)
  all_accepted t even f s w =
      let p = accepted_is r table xs lent1 f in
      let q = ap (λ (o : Outcome). block_of o.receiver table ys lent2) p ∙ accepted_is (after_of r table xs) table ys lent2 s in
      in_turn_as _ _ _ _ _ _ p q (accepted_is r table (xs ++ ys) lent w) (outcomes even (passes_back r table xs lent1 t (accepted_passes r table xs lent1 f)))

  -- A BLOCK IN TWO: where the block of both is accepted, so are, with rooms that suffice, the block of the first samples and, from the state that it returns, the block of the others; and these two give what it gives
  pub block_in_two : Typed r → length xs % 2 ≡ 0 → (block_of r table (xs ++ ys) lent).number ≡ 0 → Roomy xs lent1 → Roomy ys lent2
      → InTurn (block_of r table xs lent1) (block_of (block_of r table xs lent1).receiver table ys lent2) (block_of r table (xs ++ ys) lent)
  block_in_two t e w room1 room2 =
      let even : length xs ≡ 2 * count_of xs = omega arith in
      let k = accepted_passes r table (xs ++ ys) lent w in
      let n = count_append xs ys even in
      let l = length-append xs ys in
      let a = k.few in
      let b = k.even in
      let c = k.total_in in
      let d = k.table_in in
      let f = and_true (finite_of xs) (finite_of ys) (sym (finite_append xs ys even) ∙ k.finite) in
      let first : Passes r table xs lent1 = record { admitted = k.admitted; table_in = d; few = omega arith; even = even; total_in = omega arith; room = room1; finite = f.0 } in
      let g = passes_kept r table xs lent1 t first in
      let h = g.arm in
      let m = total_after r table xs in
      let second : Passes (after_of r table xs) table ys lent2 = record { admitted = g.admitted; table_in = omega arith; few = omega arith; even = omega arith; total_in = omega arith; room = room2; finite = f.1 } in
      all_accepted t even (passes_accepted r table xs lent1 first) (passes_accepted (after_of r table xs) table ys lent2 second) w

  -- TWO BLOCKS AS ONE: where a block is accepted and, from the state that it returns, another, and both have at most 65,536 samples, the block of both is accepted, with rooms that suffice; and it gives what the two give
  pub two_blocks_as_one : Typed r → (block_of r table xs lent1).number ≡ 0 → (block_of (block_of r table xs lent1).receiver table ys lent2).number ≡ 0 → count_of (xs ++ ys) ≤ 65536 → Roomy (xs ++ ys) lent
      → InTurn (block_of r table xs lent1) (block_of (block_of r table xs lent1).receiver table ys lent2) (block_of r table (xs ++ ys) lent)
  two_blocks_as_one t f s few room =
      let p = accepted_is r table xs lent1 f in
      let s' : (block_of (after_of r table xs) table ys lent2).number ≡ 0 = rw p at s in
      let k = accepted_passes r table xs lent1 f in
      let j = accepted_passes (after_of r table xs) table ys lent2 s' in
      let even = k.even in
      let n = count_append xs ys even in
      let l = length-append xs ys in
      let a = j.even in
      let b = j.total_in in
      let m = total_after r table xs in
      let z : finite_of (xs ++ ys) ≡ true = finite_append xs ys even ∙ rw (k.finite, j.finite) in
      all_accepted t even f s'
      (passes_accepted r table (xs ++ ys) lent (record { admitted = k.admitted; table_in = k.table_in; few = few; even = omega arith; total_in = omega arith; room = room; finite = z }))

  -- THE SECOND STREAM IN TURN: of three accepted blocks with rooms for it, the whole delivers of it what the first and then the second deliver
  pub others_in_turn : Typed r → length xs ≡ 2 * count_of xs → lent.both ≡ true → lent1.both ≡ true → lent2.both ≡ true
      → InTurn (block_of r table xs lent1) (block_of (block_of r table xs lent1).receiver table ys lent2) (block_of r table (xs ++ ys) lent)
      → InTurnToo (block_of r table xs lent1) (block_of (block_of r table xs lent1).receiver table ys lent2) (block_of r table (xs ++ ys) lent)
  others_in_turn typed even b b1 b2 t =
      let p = accepted_is r table xs lent1 t.first_accepted in
      let from = ap (λ (o : Outcome). o.receiver) p in
      let second_accepted : (block_of (after_of r table xs) table ys lent2).number ≡ 0 = ap (λ (q : Receiver). (block_of q table ys lent2).number) (sym from) ∙ t.second_accepted in
      let q = ap (λ (q : Receiver). block_of q table ys lent2) from ∙ accepted_is (after_of r table xs) table ys lent2 second_accepted in
      let w = accepted_is r table (xs ++ ys) lent t.whole_accepted in
      let f = other_deliveries_of r table xs in
      let s = other_deliveries_of (after_of r table xs) table ys in
      let d = others_append r table xs ys even (passes_back r table xs lent1 typed (accepted_passes r table xs lent1 t.first_accepted)) in
      record {
        others = joined (dibits_in f) (dibits_in s) (dibits_in (other_deliveries_of r table (xs ++ ys))) _ _ _
            (ap delivered_others p ∙ others_are r table xs lent1 t.first_accepted b1)
            (ap delivered_others q ∙ others_are (after_of r table xs) table ys lent2 second_accepted b2)
            (ap delivered_others w ∙ others_are r table (xs ++ ys) lent t.whole_accepted b) (ap dibits_in d ∙ dibits_append f s);
        other_reliabilities = joined (bytes_in f) (bytes_in s) (bytes_in (other_deliveries_of r table (xs ++ ys))) _ _ _
            (ap delivered_other_bytes p ∙ other_bytes_are r table xs lent1 t.first_accepted b1)
            (ap delivered_other_bytes q ∙ other_bytes_are (after_of r table xs) table ys lent2 second_accepted b2)
            (ap delivered_other_bytes w ∙ other_bytes_are r table (xs ++ ys) lent t.whole_accepted b) (ap bytes_in d ∙ bytes_append f s);
      }
