-- What a block writes into the rooms that it is lent, for every state, table, samples and rooms. Assumes nothing.
use Rattle.std.specs.Prelude.{◌≡◌, Bool, List, ℕ, ◌*◌, ◌≤◌, length, Float}
use Rattle.std.proofs.Math.Path.{refl}
use Rattle.std.proofs.Common.{sym, ap, ◌∙◌, subst, arith}
use Rattle.std.proofs.Math.Bool.{true, false}
use Rattle.std.proofs.Math.Dec.{eqb}
use Rattle.receiver_state.specs.declared.state.Receiver.{Receiver}
use Rattle.checks.specs.Checks.{Judged}
use Rattle.receiver.specs.Admitted.{judged_of}
use Rattle.receiver.specs.Block.{Rooms, dibit_room, reliability_room, Outcome, accepted_of, refused_of, block_by, block_of}
use Rattle.promises.specs.Deliveries.{deliveries_of, other_deliveries_of, dibits_in, bytes_in}
use Rattle.promises.proofs.DeliveriesLaws.{length_dibits, length_bytes, laid_front, as_many_delivered, delivered_fits, others_fit, accepted_is}
use Rattle.promises.specs.Written.{OnlyFirst, only_first}

module _ (r : Receiver) (table xs : List Float) (lent : Rooms) where
  -- an accepted block writes only the first k dibits and 2k reliability bytes
  pub accepted_writes : (block_of r table xs lent).number ≡ 0
      → OnlyFirst (block_of r table xs lent).count lent.dibits (block_of r table xs lent).dibits × OnlyFirst (2 * (block_of r table xs lent).count) lent.reliabilities (block_of r table xs lent).reliabilities
  accepted_writes h =
      let l = deliveries_of r table xs in
      let k = delivered_fits r table xs lent h in
      subst (λ (o : Outcome). OnlyFirst o.count lent.dibits o.dibits × OnlyFirst (2 * o.count) lent.reliabilities o.reliabilities) (sym (accepted_is r table xs lent h))
      (only_first (length l) (dibits_in l) lent.dibits (length_dibits l) k.0, only_first (2 * length l) (bytes_in l) lent.reliabilities (length_bytes l) k.1)

  -- and of the second stream, where its rooms are lent, as many
  pub accepted_writes_others : (block_of r table xs lent).number ≡ 0 → lent.both ≡ true
      → OnlyFirst (block_of r table xs lent).count lent.others (block_of r table xs lent).others × OnlyFirst (2 * (block_of r table xs lent).count) lent.other_reliabilities (block_of r table xs lent).other_reliabilities
  accepted_writes_others h t =
      let l = deliveries_of r table xs in
      let m = other_deliveries_of r table xs in
      let n = as_many_delivered r table xs in
      let k = others_fit r table xs lent h t in
      let a : length (dibits_in m) ≡ length l = length_dibits m ∙ n in
      let b : length (bytes_in m) ≡ 2 * length l = length_bytes m ∙ ap (λ (i : ℕ). 2 * i) n in
      let c : length l ≤ length lent.others = (let q = k.0 in omega arith) in
      let d : 2 * length l ≤ length lent.other_reliabilities = (let q = k.1 in omega arith) in
      subst (λ (o : Outcome). OnlyFirst o.count lent.others o.others × OnlyFirst (2 * o.count) lent.other_reliabilities o.other_reliabilities) (sym (accepted_is r table xs lent h)) (
        subst (OnlyFirst (length l) lent.others) (sym (laid_front (dibits_in m) lent.others (length l) a c)) (only_first (length l) (dibits_in m) lent.others a c),
        subst (OnlyFirst (2 * length l) lent.other_reliabilities) (sym (laid_front (bytes_in m) lent.other_reliabilities (2 * length l) b d)) (only_first (2 * length l) (bytes_in m) lent.other_reliabilities b d),
      )

  -- a refused block gives its number, the state as given, k 0, overload 0, a Snapshot of zeros and untouched buffers
  pub refused_is : ((block_of r table xs lent).number ≡ 0 → ⊥) → block_of r table xs lent ≡ refused_of (block_of r table xs lent).number r lent
  unfolding block_of accepted_of
  refused_is h = go (judged_of r xs (length table) (dibit_room lent) (reliability_room lent)) (eqb (judged_of r xs (length table) (dibit_room lent) (reliability_room lent)).number 0) refl h
    where
      go : (j : Judged) (b : Bool) → eqb j.number 0 ≡ b → ((block_by j r table xs lent).number ≡ 0 → ⊥) → block_by j r table xs lent ≡ refused_of (block_by j r table xs lent).number r lent
      go j true e h = absurd (h (rw e))
      go j false e h = rw e

  -- so the state and all rooms are what they were
  pub refused_keeps : ((block_of r table xs lent).number ≡ 0 → ⊥)
      → ((block_of r table xs lent).receiver ≡ r) × ((block_of r table xs lent).dibits ≡ lent.dibits) × ((block_of r table xs lent).reliabilities ≡ lent.reliabilities)
      × ((block_of r table xs lent).others ≡ lent.others) × ((block_of r table xs lent).other_reliabilities ≡ lent.other_reliabilities)
  refused_keeps h =
      let e = refused_is h in
      (ap (λ (o : Outcome). o.receiver) e, ap (λ (o : Outcome). o.dibits) e, ap (λ (o : Outcome). o.reliabilities) e, ap (λ (o : Outcome). o.others) e, ap (λ (o : Outcome). o.other_reliabilities) e)
