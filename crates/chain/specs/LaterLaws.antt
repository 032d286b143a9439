-- THE ROWS BETWEEN THE LATER STAGES: to decide a row for each stream and then to deliver what both answer is to say its symbols one by one. Assumes nothing.
use Rattle.std.specs.Prelude.{◌≡◌, Bool, false, List, ℤ, get_or, set, Float}
use Rattle.std.proofs.Math.Path.{refl, ap}
use Rattle.std.proofs.Common.{sym, ◌∙◌, arith}
use Prim.Native.Nat.{ℕ, zero, suc, ◌≤◌, ◌<◌}
use Rattle.std.proofs.Math.Bool.{true}
use Rattle.laws.specs.Turns.{turns}
use Rattle.complex.specs.Planes.{point_at}
use Rattle.answers.specs.Observed.{record_before}
use Rattle.answer_row.specs.AnswerRow.{AnswerRow, is_dibit, put_of, Sized}
use Rattle.decisions.specs.Decisions as Decisions
use Rattle.decisions.specs.Rows as Decided
use Rattle.decisions.specs.Ranges as DecisionsRanges
use Rattle.decisions.specs.Laws as DecisionsLaws
use Rattle.second.specs.Second as Second
use Rattle.second.specs.Second.{SecondState, other_of}
use Rattle.second.specs.Rows as Seconded
use Rattle.second.specs.Ranges as SecondRanges
use Rattle.second.specs.Laws as SecondLaws
use Rattle.delivery.specs.Delivery as Delivery
use Rattle.delivery.specs.Delivery.{paired_of, Room, noted_in}
use Rattle.delivery.specs.Rows as Delivered
use Rattle.delivery.specs.Rows.{room_row}
use Rattle.delivery.specs.Ranges as DeliveryRanges
use Rattle.delivery.specs.Laws as DeliveryLaws
use Rattle.chain.specs.Ranges.{RoomyToo}
use Rattle.chain.specs.Later.{Later, said_with, said_of, said_row}

-- what a row decided by both and delivered leaves
abbrev pub told_row : ℕ → Decided.Lent → Seconded.Lent → Delivery.Lent → Room → Later
told_row n d e t room = record {
  state = d.state;
  records = d.records;
  second = e.state;
  delivery = Delivered.row_of d.answers e.answers.flags n t;
  other = room_row t.place.profile e.answers d.answers.flags n room;
}

module _ (real imaginary : List Float) (reliable : List Bool) where
  abbrev decided_row : ℕ → Decided.Lent → Decided.Lent
  decided_row n d = Decided.row_of real imaginary reliable n d

  -- the first's step to the symbol after n
  abbrev first_step : ℕ → Decided.Lent → Decisions.Step
  first_step n a = Decisions.decided_of a.state (point_at (record { real = real; imaginary = imaginary }) n) (get_or reliable n false) (record_before a.records (Decided.slot_at a.state))

  -- one symbol more: its answers put into both rows are delivered after the others
  more_told : (n : ℕ) (a : Decided.Lent) (b : Seconded.Lent) (o : Second.Step) (lock : Bool) (t : Delivery.Lent) (room : Room) → n < 256 → Sized a.answers → Sized b.answers
      → told_row (suc n) (Decided.linked_with a n (first_step n a)) (record { state = o.state; answers = put_of b.answers n o.answer lock }) t room
      ≡ said_with (told_row n a b t room) (first_step n a) o
  more_told n a b o lock t room m h k =
      let s = first_step n a in
      let first = DeliveryLaws.row_put a.answers b.answers n s.answer (Decisions.locked_of s.state) o.answer lock t h k m in
      let second = DeliveryLaws.room_put b.answers a.answers n o.answer lock s.answer (Decisions.locked_of s.state) t.place.profile room k h m
      ∙ ap (λ (p : ℤ). noted_in p (room_row t.place.profile b.answers a.answers.flags n room) (paired_of o.answer (is_dibit s.answer)))
      (sym (DeliveryLaws.row_profile a.answers b.answers.flags n t)) in
      λ i. record {
        state = s.state;
        records = set a.records (Decided.slot_at a.state) s.soft;
        second = o.state;
        delivery = first i;
        other = second i;
      }

  -- the second enabled
  pub rows_said : (n : ℕ) (d : Decided.Lent) (e : Seconded.Lent) (t : Delivery.Lent) (room : Room) → n ≤ 256 → DecisionsRanges.Asks d → SecondRanges.Asks e → e.state.enabled ≡ true
      → told_row n (decided_row n d) (Seconded.row_of real imaginary reliable n e) t room ≡ said_row real imaginary reliable n (record { state = d.state; records = d.records; second = e.state; delivery = t; other = room })
  unfolding said_row said_of other_of Decided.row_of Decided.linked_of Seconded.row_of Seconded.linked_of Delivered.row_of room_row turns
  rows_said zero d e t room m h k on = refl
  rows_said (suc n) d e t room m h k on =
      let a = decided_row n d in
      let b = Seconded.row_of real imaginary reliable n e in
      let o = Second.decided_of b.state (point_at (record { real = real; imaginary = imaginary }) n) (get_or reliable n false) in
      let so : b.state.enabled ≡ true = SecondLaws.row_enabled real imaginary reliable n e ∙ on in
      let same : o ≡ other_of b.state (first_step n a).answer (point_at (record { real = real; imaginary = imaginary }) n) (get_or reliable n false) = rw so in
      more_told n a b o (Second.locked_of o.state) t room m (DecisionsLaws.row_asks real imaginary reliable n d h).answers (SecondLaws.row_asks real imaginary reliable n e k).answers
      ∙ ap (said_with (told_row n a b t room) (first_step n a)) same
      ∙ ap (λ (l : Later). said_of l (point_at (record { real = real; imaginary = imaginary }) n) (get_or reliable n false)) (rows_said n d e t room (omega arith) h k on)

  -- and not enabled: the first's row beside itself
  pub rows_said_once : (n : ℕ) (d : Decided.Lent) (s : SecondState) (t : Delivery.Lent) (room : Room) → n ≤ 256 → DecisionsRanges.Asks d → s.enabled ≡ false
      → told_row n (decided_row n d) (record { state = s; answers = (decided_row n d).answers }) t room ≡ said_row real imaginary reliable n (record { state = d.state; records = d.records; second = s; delivery = t; other = room })
  unfolding said_row said_of other_of Decided.row_of Decided.linked_of Delivered.row_of room_row turns
  rows_said_once zero d s t room m h off = refl
  rows_said_once (suc n) d s t room m h off =
      let a = decided_row n d in
      let f = first_step n a in
      let o : Second.Step = record { state = s; answer = f.answer } in
      let same : o ≡ other_of s f.answer (point_at (record { real = real; imaginary = imaginary }) n) (get_or reliable n false) = rw off in
      let sized = (DecisionsLaws.row_asks real imaginary reliable n d h).answers in
      more_told n a (record { state = s; answers = a.answers }) o (Decisions.locked_of f.state) t room m sized sized
      ∙ ap (said_with (told_row n a (record { state = s; answers = a.answers }) t room) f) same
      ∙ ap (λ (l : Later). said_of l (point_at (record { real = real; imaginary = imaginary }) n) (get_or reliable n false)) (rows_said_once n d s t room (omega arith) h off)

-- ---- the rooms of both

-- n answers more can be delivered: the first's always, the second's where both are asked for
pub record AsksRooms (both : Bool) (n : ℕ) (t : Delivery.Lent) (room : Room) : Type 0 where
  pub delivery : DeliveryRanges.Asks n t
  pub other : RoomyToo both n room

-- where both are asked for, the second's row is delivered by the same place
pub other_asks : (both : Bool) (n : ℕ) (t : Delivery.Lent) (other : Room) → AsksRooms both n t other → both ≡ true → DeliveryRanges.Asks n (record { place = t.place; room = other })
other_asks both n t other h e = record { place = h.delivery.place; symbols = h.delivery.symbols; room = h.other.room e }

module _ (n : ℕ) (row other : AnswerRow) (t : Delivery.Lent) (room : Room) (u : Delivery.Lent) (together : t.room.written ≡ room.written) (is : u ≡ Delivered.row_of row other.flags n t) where
  -- as many are written of the second as of the first
  written_is : u.room.written ≡ (room_row t.place.profile other row.flags n room).written
  written_is = ap (λ (l : Delivery.Lent). l.room.written) is ∙ ap (λ (r : Room). r.written) (DeliveryLaws.row_room row other.flags n t) ∙ DeliveryLaws.as_many t.place.profile row other n t.room room together

  -- both delivered
  pub told_both : (v : Delivery.Lent) → v ≡ Delivered.row_of other row.flags n (record { place = t.place; room = room })
      → (u ≡ Delivered.row_of row other.flags n t)
      × (◌≡◌ {A = Room} (record { dibits = v.room.dibits; reliabilities = v.room.reliabilities; written = u.room.written }) (room_row t.place.profile other row.flags n room))
  told_both v e =
      let r = ap (λ (l : Delivery.Lent). l.room) e ∙ DeliveryLaws.row_room other row.flags n (record { place = t.place; room = room }) in
      let w = written_is in
      (is, λ i. record { dibits = (r i).dibits; reliabilities = (r i).reliabilities; written = w i })

  -- the first alone: no room is lent to the second
  pub told_one : (both : Bool) → RoomyToo both n room → both ≡ false
      → (u ≡ Delivered.row_of row other.flags n t)
      × (◌≡◌ {A = Room} (record { dibits = room.dibits; reliabilities = room.reliabilities; written = u.room.written }) (room_row t.place.profile other row.flags n room))
  told_one both h f =
      let p = t.place.profile in
      let d = h.no_dibits f ∙ sym (DeliveryLaws.no_dibits p other row.flags n room (h.no_dibits f)) in
      let r = h.no_reliabilities f ∙ sym (DeliveryLaws.no_reliabilities p other row.flags n room (h.no_reliabilities f)) in
      let w = written_is in
      (is, λ i. record { dibits = d i; reliabilities = r i; written = w i })

-- ---- the stages together
module _ (real imaginary : List Float) (reliable : List Bool) (n : ℕ) (l : Later) (answers : AnswerRow) (d : Decided.Lent) (m : n ≤ 256) (ranged : DecisionsRanges.Ranged l.state) (sized : Sized answers)
    (is_d : d ≡ Decided.row_of real imaginary reliable n (record { state = l.state; records = l.records; answers = answers })) where
  -- with the second enabled
  pub later_both : (replies : AnswerRow) (e : Seconded.Lent) (u : Delivery.Lent) (other : Room) → l.second.enabled ≡ true → SecondRanges.Ranged l.second → Sized replies
      → e ≡ Seconded.row_of real imaginary reliable n (record { state = l.second; answers = replies })
      → u ≡ Delivered.row_of d.answers e.answers.flags n l.delivery
      → other ≡ room_row l.delivery.place.profile e.answers d.answers.flags n l.other
      → ◌≡◌ {A = Later} (record { state = d.state; records = d.records; second = e.state; delivery = u; other = other }) (said_row real imaginary reliable n l)
  later_both replies e u other on r s is_e is_u is_o =
      (λ i. record { state = d.state; records = d.records; second = e.state; delivery = is_u i; other = is_o i })
      ∙ (λ i. told_row n (is_d i) (is_e i) l.delivery l.other)
      ∙ rows_said real imaginary reliable n (record { state = l.state; records = l.records; answers = answers }) (record { state = l.second; answers = replies }) l.delivery l.other m (record { state = ranged; answers = sized }) (record { state = r; answers = s }) on

  -- and without it
  pub later_one : (u : Delivery.Lent) (other : Room) → l.second.enabled ≡ false
      → u ≡ Delivered.row_of d.answers d.answers.flags n l.delivery
      → other ≡ room_row l.delivery.place.profile d.answers d.answers.flags n l.other
      → ◌≡◌ {A = Later} (record { state = d.state; records = d.records; second = l.second; delivery = u; other = other }) (said_row real imaginary reliable n l)
  later_one u other off is_u is_o =
      (λ i. record { state = d.state; records = d.records; second = l.second; delivery = is_u i; other = is_o i })
      ∙ (λ i. told_row n (is_d i) (record { state = l.second; answers = (is_d i).answers }) l.delivery l.other)
      ∙ rows_said_once real imaginary reliable n (record { state = l.state; records = l.records; answers = answers }) l.second l.delivery l.other m (record { state = ranged; answers = sized }) off
