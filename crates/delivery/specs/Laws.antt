-- The stage's definition met from what its parts answer, one law for each way out of a function, what an answer adds, and the ranges that are kept. Assumes nothing.
use Rattle.std.specs.Prelude.{◌≡◌, Bool, true, false, cond, List, [], ◌∷◌, ℤ, length, set, Option, None, Some}
use Rattle.std.proofs.Math.Path.{refl, sym, ap, subst}
use Rattle.std.proofs.Common.{◌∙◌, add-one}
use Prim.Native.Nat.{ℕ, zero, suc, ◌+◌, ◌*◌, ◌≤◌, ◌<◌}
use native.Mathlib.Omega.{arith}
use Rattle.std.proofs.lemmas.List.Edits.{sets}
use Rattle.std.proofs.Math.Seq.{length-sets}
use Rattle.laws.specs.Turns.{turns, turns_start, turns_step}
use Rattle.answer_row.specs.AnswerRow.{AnswerRow, answer_at, told_at, is_dibit, locked_at, put_of, Sized}
use Rattle.answer_row.specs.Laws.{answer_put, told_put, locked_put, answer_kept, told_kept, locked_kept}
use Rattle.labels.specs.Labels.{rearranges, labelled_of, counted_of}
use Rattle.labels.specs.LabelLaws.{count_within}
use Rattle.delivery.specs.declared.DeliveryPlace.{DeliveryPlace}
use Rattle.delivery.specs.declared.step.Stepped.{Stepped}
use Rattle.delivery.specs.Delivery.{paired_of, told_of, answer_dibits, answer_pair, Room, laid_in, noted_in, Lent, delivered_with, delivered_of}
use Rattle.delivery.specs.Rows.{paired_at, row_turn, row_of, room_row}
use Rattle.delivery.specs.Ranges.{Ranged, Asks}
use Rattle.answers.specs.declared.walk.Dibit.{Dibit}

pub told_is : (p : DeliveryPlace) (answer : Option Dibit) (is_locked_lem : Bool) (symbols locked : ℕ) (rearranged : Bool) (label : Option Dibit) (profile : ℤ)
    → profile ≡ p.profile → symbols ≡ counted_of p.symbols answer true → locked ≡ counted_of p.locked answer is_locked_lem
    → rearranged ≡ rearranges profile → label ≡ labelled_of rearranged answer
    → ◌≡◌ {A = Stepped} (record { place = record { profile = profile; symbols = symbols; locked = locked }; answer = label }) (told_of p answer is_locked_lem)
unfolding told_of
told_is p answer is_locked_lem symbols locked rearranged label profile q s l b e = rw (s, l, e, b, q)

-- an answer beside itself is itself
pub paired_self : (answer : Option Dibit) → paired_of answer (is_dibit answer) ≡ answer
paired_self None = refl
paired_self (Some d) = refl

-- ---- an answer written
pub noted_silent : (room : Room) (a : Option Dibit) → a ≡ None → room ≡ laid_in room (answer_dibits a) (answer_pair a)
noted_silent room a e = let n : room.written + 0 ≡ room.written = omega arith in rw (e, n)

pub noted_dibit : (room : Room) (a : Option Dibit) (d : Dibit) → a ≡ Some d
    → ◌≡◌ {A = Room}
    (record {
      dibits = set room.dibits room.written d.value;
      reliabilities = set (set room.reliabilities (2 * room.written) d.high) (2 * room.written + 1) d.low;
      written = room.written + 1;
    })
    (laid_in room (answer_dibits a) (answer_pair a))
noted_dibit room a d e = rw (e, add-one)

pub delivered_is : (l : Lent) (answer : Option Dibit) (locked : Bool) (s : Stepped) (room : Room) → s ≡ told_of l.place answer locked → room ≡ laid_in l.room (answer_dibits s.answer) (answer_pair s.answer)
    → ◌≡◌ {A = Lent} (record { place = s.place; room = room }) (delivered_of l answer locked)
unfolding delivered_of
delivered_is l answer locked s room e q = ap (λ (w : Room). record { place = s.place; room = w }) q ∙ ap (delivered_with l.room) e

-- ---- what an answer adds
label_counts : (n : ℕ) (a : Option Dibit) (rearranged : Bool) → counted_of n a true ≡ n + length (answer_dibits (labelled_of rearranged a))
label_counts n None rearranged = omega arith
label_counts n (Some d) true = refl
label_counts n (Some d) false = refl

-- symbols grows by the dibits that an answer gives
pub told_counts : (p : DeliveryPlace) (answer : Option Dibit) (locked : Bool) → (told_of p answer locked).place.symbols ≡ p.symbols + length (answer_dibits (told_of p answer locked).answer)
unfolding told_of
told_counts p answer locked = label_counts p.symbols answer (rearranges p.profile)

-- the profile is kept
pub told_profile : (p : DeliveryPlace) (answer : Option Dibit) (locked : Bool) → (told_of p answer locked).place.profile ≡ p.profile
unfolding told_of
told_profile p answer locked = refl

pub told_ranged : (p : DeliveryPlace) (answer : Option Dibit) (locked : Bool) → Ranged p → Ranged (told_of p answer locked).place
unfolding told_of
told_ranged p answer locked h = record { locked = count_within p.locked p.symbols answer locked h.locked }

-- a dibit at most, and a pair of reliabilities with it
pub one_most : (a : Option Dibit) → length (answer_dibits a) ≤ 1
one_most None = omega arith
one_most (Some d) = omega arith

pub pair_each : (a : Option Dibit) → length (answer_pair a) ≡ 2 * length (answer_dibits a)
pair_each None = refl
pair_each (Some d) = refl

-- ---- a row
delivered_asks : (n : ℕ) (l : Lent) (answer : Option Dibit) (locked : Bool) → Asks (suc n) l → Asks n (delivered_of l answer locked)
unfolding delivered_of
delivered_asks n l answer locked h =
    let s = told_of l.place answer locked in
    let c = told_counts l.place answer locked in
    let m = one_most s.answer in
    let a = h.symbols in
    let b = h.room.dibits in
    let d = h.room.reliabilities in
    let u = length-sets l.room.dibits l.room.written (answer_dibits s.answer) in
    let v = length-sets l.room.reliabilities (2 * l.room.written) (answer_pair s.answer) in
    record { place = told_ranged l.place answer locked h.place; symbols = omega arith; room = record { dibits = omega arith; reliabilities = omega arith } }

fewer : (m n : ℕ) (l : Lent) → n ≤ m → Asks m l → Asks n l
fewer m n l h a = let r = a.room.dibits in let q = a.room.reliabilities in let s = a.symbols in record { place = a.place; symbols = omega arith; room = record { dibits = omega arith; reliabilities = omega arith } }

module _ (row : AnswerRow) (others : List Bool) where
  asks_after : (i n : ℕ) (b : Lent) → Asks (n + i) b → Asks n (row_of row others i b)
  unfolding row_of turns
  asks_after zero n b h = let e : n + 0 ≡ n = omega arith in subst (λ (k : ℕ). Asks k b) e h
  asks_after (suc i) n b h = let e : n + suc i ≡ suc n + i = omega arith in delivered_asks n (turns (row_turn row others) i b) _ _ (asks_after i (suc n) b (subst (λ (k : ℕ). Asks k b) e h))

  pub row_start : (b : Lent) → b ≡ row_of row others 0 b
  unfolding row_of
  row_start b = turns_start _ _

  pub row_step : (i : ℕ) (answer paired : Option Dibit) (other locked : Bool) (b l m : Lent) → answer ≡ answer_at row i → other ≡ told_at others i → paired ≡ paired_of answer other
      → locked ≡ locked_at row.flags i → m ≡ delivered_of l paired locked → l ≡ row_of row others i b → m ≡ row_of row others (i + 1) b
  unfolding row_of
  row_step i answer paired other locked b l m a o p k e h =
      e
      ∙ ap (λ (x : Option Dibit). delivered_of l x locked) (p ∙ ap (λ (x : Option Dibit). paired_of x other) a ∙ ap (paired_of (answer_at row i)) o)
      ∙ ap (delivered_of l (paired_at row others i)) k
      ∙ turns_step (row_turn row others) i b l h

  pub row_asks : (i n : ℕ) (b l : Lent) → Asks n b → l ≡ row_of row others i b → i < n → Asks 1 l
  row_asks i n b l a e h = rw e (asks_after i 1 b (fewer n (1 + i) b (omega arith) a))

  pub row_end : (i n : ℕ) (b l : Lent) → Asks n b → l ≡ row_of row others i b → i ≤ n → n ≤ i → (l ≡ row_of row others n b) × Asks 0 l
  row_end i n b l a e h k =
      let q : i ≡ n = omega arith in
      (e ∙ ap (λ (m : ℕ). row_of row others m b) q, rw e (asks_after i 0 b (fewer n (0 + i) b (omega arith) a)))

  -- the profile is kept
  pub row_profile : (n : ℕ) (l : Lent) → (row_of row others n l).place.profile ≡ l.place.profile
  unfolding row_of turns delivered_of
  row_profile zero l = refl
  row_profile (suc n) l = told_profile (turns (row_turn row others) n l).place _ _ ∙ row_profile n l

  -- what is written depends on nothing of the place but its profile
  pub row_room : (n : ℕ) (l : Lent) → (row_of row others n l).room ≡ room_row l.place.profile row others n l.room
  unfolding row_of room_row turns delivered_of told_of
  row_room zero l = refl
  row_room (suc n) l =
      let p = row_profile n l in
      let r = row_room n l in
      λ j. noted_in (p j) (r j) (paired_at row others n)

-- ---- AN ANSWER PUT AFTER THOSE DELIVERED, and one into the other row, is delivered after them
module _ (row other : AnswerRow) (k : ℕ) (answer : Option Dibit) (locked : Bool) (reply : Option Dibit) (second : Bool) where
  paired_kept : (n : ℕ) → n < k → paired_at (put_of row k answer locked) (put_of other k reply second).flags n ≡ paired_at row other.flags n
  paired_kept n h =
      let a = answer_kept row k answer locked n (λ e. omega arith) in
      let o = told_kept other k reply second n (λ e. omega arith) in
      λ j. paired_of (a j) (o j)

  paired_put : Sized row → Sized other → k < 256 → paired_at (put_of row k answer locked) (put_of other k reply second).flags k ≡ paired_of answer (is_dibit reply)
  paired_put s t h =
      let a = answer_put row k answer locked s h in
      let o = told_put other k reply second t h in
      λ j. paired_of (a j) (o j)

  row_kept : (n : ℕ) (l : Lent) → n ≤ k → row_of (put_of row k answer locked) (put_of other k reply second).flags n l ≡ row_of row other.flags n l
  unfolding row_of turns
  row_kept zero l h = refl
  row_kept (suc n) l h =
      let p = paired_kept n h in
      let b = locked_kept row k answer locked n (λ e. omega arith) in
      λ j. delivered_of (row_kept n l (omega arith) j) (p j) (b j)

  pub row_put : (l : Lent) → Sized row → Sized other → k < 256
      → row_of (put_of row k answer locked) (put_of other k reply second).flags (suc k) l ≡ delivered_of (row_of row other.flags k l) (paired_of answer (is_dibit reply)) locked
  unfolding row_of turns
  row_put l s t h =
      let p = paired_put s t h in
      let b = locked_put row k answer locked s h in
      λ j. delivered_of (row_kept k l (omega arith) j) (p j) (b j)

  room_kept : (profile : ℤ) (n : ℕ) (room : Room) → n ≤ k → room_row profile (put_of row k answer locked) (put_of other k reply second).flags n room ≡ room_row profile row other.flags n room
  unfolding room_row turns
  room_kept profile zero room h = refl
  room_kept profile (suc n) room h = let p = paired_kept n h in λ j. noted_in profile (room_kept profile n room (omega arith) j) (p j)

  pub room_put : (profile : ℤ) (room : Room) → Sized row → Sized other → k < 256
      → room_row profile (put_of row k answer locked) (put_of other k reply second).flags (suc k) room ≡ noted_in profile (room_row profile row other.flags k room) (paired_of answer (is_dibit reply))
  unfolding room_row turns
  room_put profile room s t h = let p = paired_put s t h in λ j. noted_in profile (room_kept profile k room (omega arith) j) (p j)

-- ---- BOTH STREAMS write as many: what one delivers at a place the other has too
both_counted : (a b : Bool) (d : Dibit) (rearranged : Bool) → length (answer_dibits (labelled_of rearranged (paired_of (cond a (Some d) None) b))) ≡ cond a (cond b 1 0) 0
both_counted true true d true = refl
both_counted true true d false = refl
both_counted true false d rearranged = refl
both_counted false true d rearranged = refl
both_counted false false d rearranged = refl

both_swapped : (a b : Bool) → ◌≡◌ {A = ℕ} (cond a (cond b 1 0) 0) (cond b (cond a 1 0) 0)
both_swapped true true = refl
both_swapped true false = refl
both_swapped false true = refl
both_swapped false false = refl

module _ (profile : ℤ) (row other : AnswerRow) where
  as_many_at : (k : ℕ)
      → length (answer_dibits (labelled_of (rearranges profile) (paired_at row other.flags k))) ≡ length (answer_dibits (labelled_of (rearranges profile) (paired_at other row.flags k)))
  unfolding answer_at
  as_many_at k =
      both_counted (told_at row.flags k) (told_at other.flags k) _ (rearranges profile) ∙ both_swapped (told_at row.flags k) (told_at other.flags k)
      ∙ sym (both_counted (told_at other.flags k) (told_at row.flags k) _ (rearranges profile))

  pub as_many : (n : ℕ) (a b : Room) → a.written ≡ b.written → (room_row profile row other.flags n a).written ≡ (room_row profile other row.flags n b).written
  unfolding room_row turns
  as_many zero a b e = e
  as_many (suc n) a b e = λ j. as_many n a b e j + as_many_at n j

-- where no room is lent nothing is written
none_set : (i : ℕ) (xs : List ℕ) → sets [] i xs ≡ []
none_set i [] = refl
none_set i (x ∷ xs) = none_set (suc i) xs

none_laid : (l : List ℕ) (i : ℕ) (xs : List ℕ) → l ≡ [] → sets l i xs ≡ []
none_laid l i xs e = ap (λ (l : List ℕ). sets l i xs) e ∙ none_set i xs

module _ (profile : ℤ) (row : AnswerRow) (others : List Bool) where
  pub no_dibits : (n : ℕ) (room : Room) → room.dibits ≡ [] → (room_row profile row others n room).dibits ≡ []
  unfolding room_row turns
  no_dibits zero room e = e
  no_dibits (suc n) room e =
      let r = room_row profile row others n room in
      none_laid r.dibits r.written (answer_dibits (labelled_of (rearranges profile) (paired_at row others n))) (no_dibits n room e)

  pub no_reliabilities : (n : ℕ) (room : Room) → room.reliabilities ≡ [] → (room_row profile row others n room).reliabilities ≡ []
  unfolding room_row turns
  no_reliabilities zero room e = e
  no_reliabilities (suc n) room e =
      let r = room_row profile row others n room in
      none_laid r.reliabilities (2 * r.written) (answer_pair (labelled_of (rearranges profile) (paired_at row others n))) (no_reliabilities n room e)
