-- Cutting anew, at any total length. Parts that are accepted one after the other stay accepted when their samples are cut into other parts, each of whole samples, at most 65,536 of them, with rooms that suffice; and both give the
-- same dibits, the same reliabilities and the same state. Assumes nothing.
use Rattle.std.specs.Prelude.{◌≡◌, true, ◌&&◌, List, [], ◌∷◌, ◌+◌, ◌*◌, ◌^◌, ◌≤◌, ◌<◌, length, Float}
use Rattle.std.proofs.Math.Path.{refl}
use Rattle.std.proofs.Common.{sym, ap, ◌∙◌, subst, arith}
use Rattle.laws.specs.Turns.{turns}
use Rattle.laws.specs.Branches.{and_true}
use Rattle.receiver_state.specs.declared.state.Receiver.{Receiver}
use Rattle.samples.specs.Samples.{count_of, finite_of}
use Rattle.receiver.specs.Block.{Outcome}
use Rattle.promises.proofs.DeliveriesLaws.{total_after, accepted_is}
use Rattle.promises.specs.Append.{count_append, finite_append}
use Rattle.promises.specs.Accepts.{Typed}
use Rattle.promises.proofs.AcceptsLaws.{accepted_passes, passes_accepted, block_kept}
use Rattle.promises.specs.Cutting.{Part, called, session_of, AllAccepted, samples_in, AllRoomy}
use Rattle.promises.proofs.CuttingLaws.{any_cutting}
use Rattle.promises.specs.Recut.{AllFew, Takes}

-- the total after an accepted part
total_on : (r : Receiver) (table : List Float) (c : Part) → (called r table c).number ≡ 0 → (called r table c).receiver.total ≡ r.total + count_of c.samples
total_on r table c h = ap (λ (o : Outcome). o.receiver.total) (accepted_is r table c.samples c.rooms h) ∙ total_after r table c.samples

-- PARTS ARE ACCEPTED: from such a state, all parts of whole samples, at most 65,536 of them, with rooms that suffice
pub parts_accepted : (r : Receiver) (table : List Float) (parts : List Part) → Typed r → Takes r table (samples_in parts) → AllRoomy parts → AllFew parts → AllAccepted r table parts
parts_accepted r table [] t k room few = tt
parts_accepted r table (c ∷ parts) t k room few =
    let e = room.0.0 in
    let even : length c.samples ≡ 2 * count_of c.samples = omega arith in
    let n = count_append c.samples (samples_in parts) even in
    let f = and_true (finite_of c.samples) (finite_of (samples_in parts)) (sym (finite_append c.samples (samples_in parts) even) ∙ k.finite) in
    let a = k.total_in in
    let b = k.table_in in
    let d = few.0 in
    let accepted = passes_accepted r table c.samples c.rooms (record {
      admitted = k.admitted;
      table_in = b;
      few = omega arith;
      even = even;
      total_in = omega arith;
      room = room.0.1;
      finite = f.0;
    }) in
    let kept = block_kept r table c.samples c.rooms t accepted in
    let arm = kept.arm in
    let m = total_on r table c accepted in
    (accepted, parts_accepted (called r table c).receiver table parts kept.typed (record { admitted = kept.admitted; table_in = omega arith; total_in = omega arith; finite = f.1 }) room.1 few.1)

-- ---- and what accepted parts say of their samples
all_finite : (r : Receiver) (table : List Float) (parts : List Part) → AllAccepted r table parts → finite_of (samples_in parts) ≡ true
all_finite r table [] h = unfold finite_of turns in refl
all_finite r table (c ∷ parts) h =
    let p = accepted_passes r table c.samples c.rooms h.0 in
    finite_append c.samples (samples_in parts) p.even ∙ (λ i. p.finite i && all_finite (called r table c).receiver table parts h.1 i)

all_within : (r : Receiver) (table : List Float) (parts : List Part) → r.total ≤ 2 ^ 52 → AllAccepted r table parts → r.total + count_of (samples_in parts) ≤ 2 ^ 52
all_within r table [] l h = omega arith
all_within r table (c ∷ parts) l h =
    let p = accepted_passes r table c.samples c.rooms h.0 in
    let n = count_append c.samples (samples_in parts) p.even in
    let m = total_on r table c h.0 in
    let a = p.total_in in
    let b = all_within (called r table c).receiver table parts (omega arith) h.1 in
    omega arith

accepted_takes : (r : Receiver) (table : List Float) (parts : List Part) → 0 < length parts → AllAccepted r table parts → Takes r table (samples_in parts)
accepted_takes r table [] l h = absurd (omega arith)
accepted_takes r table (c ∷ parts) l h =
    let p = accepted_passes r table c.samples c.rooms h.0 in
    let a = p.total_in in
    record { admitted = p.admitted; table_in = p.table_in; total_in = all_within r table (c ∷ parts) (omega arith) h; finite = all_finite r table (c ∷ parts) h }

module _ (r : Receiver) (table : List Float) (parts others : List Part) (typed : Typed r) (some : 0 < length parts) (accepted : AllAccepted r table parts) (same : samples_in parts ≡ samples_in others)
    (roomy : AllRoomy others) (few : AllFew others) where
  -- CUT ANEW AND ACCEPTED: where parts are accepted one after the other, so is any other cutting of their samples. (No parts at all are accepted from every state, but an empty block only from an admitted one: so there is at least one part.)
  pub recut_accepted : AllAccepted r table others
  recut_accepted = parts_accepted r table others typed (subst (Takes r table) same (accepted_takes r table parts some accepted)) roomy few

  -- CUT ANEW, THE SAME: and it gives the same dibits and reliabilities, the same k and overload in all, and the same state at the end
  pub recut_same : session_of r table parts ≡ session_of r table others
  recut_same = any_cutting r table parts others typed accepted recut_accepted same
