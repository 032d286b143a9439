-- What the view shows: after any pushes the latest points in order, also once the ring has gone round, and past them what was there. The test of a place
-- passes exactly where its ranges hold, and a push keeps them. Assumes nothing.
use Rattle.std.specs.Prelude.{◌≡◌, ℕ, suc, ◌+◌, ◌-◌, ◌*◌, ◌/◌, ◌%◌, ◌<◌, ◌≤◌, min, Bool, true, false, cond, T, ◌⊎◌, List, [], ◌∷◌, ◌++◌, length, get_or, take, drop, ◌≢◌, nat_le, nat_lt, slice_index_or, slice_set, refl, Float, Option}
use Rattle.std.proofs.Math.Path.{ap}
use Rattle.std.proofs.Common.{sym, ◌∙◌, inl, inr, ⊎_elim, mod-lt, ltb→lt, lt→ltb, leb→le, le→leb, length-set, length-drop, take-append-drop, get_or-set_same, get_or-set_other}
use mathlib.Core.List.{foldl}
use native.Mathlib.Omega.{arith}
use Rattle.std.proofs.Math.Seq.{get_or-append-add, get_or-drop}
use Rattle.std.specs.Float.{nan, binary64}
use Rattle.std.specs.Float.Ieee.Bits.{is_true}
use Rattle.std.specs.Float.Ieee.Fits.{and_l, and_r, and_i}
use Rattle.laws.specs.Places.{upto, upto_at, upto_is, length_upto, le_or}
use Rattle.laws.specs.Ring.{Spun, Sound, spins, last, last_pushed, lt_or_ge}
use Rattle.numbers.specs.Root.{sqrt_of}
use Rattle.complex.specs.declared.Complex32.{Complex32}
use Rattle.signal.specs.declared.ViewPlace.{ViewPlace}
use Rattle.signal.specs.Signal.{View, fresh_place, admitted_of, Admitted, outside, point_at, paired_of, pushed_of, ring_of, last_of, parts_of, written_of, usable_of, mean_power, nothing, shown_as, shown_of, read_of}

-- ---- THE TEST AND THE FACTS
pub admitted_facts : (p : ViewPlace) → admitted_of p ≡ true → Admitted p
admitted_facts p e =
    let t : T (admitted_of p) = rw e tt in
    record {
      head = ltb→lt p.head 1024 (and_l (nat_lt p.head 1024) (nat_le p.count 1024) t);
      count = leb→le p.count 1024 (and_r (nat_lt p.head 1024) (nat_le p.count 1024) t);
    }

pub facts_admitted : (p : ViewPlace) → Admitted p → admitted_of p ≡ true
facts_admitted p a = is_true (admitted_of p) (and_i (nat_lt p.head 1024) (nat_le p.count 1024) (lt→ltb p.head 1024 a.head) (le→leb p.count 1024 a.count))

pub fresh_admitted : Admitted fresh_place
fresh_admitted = record { head = omega arith; count = omega arith }

-- ADMITTED IN, ADMITTED OUT, whatever the count was
pub pushed_admitted : (v : View) (s : Option Complex32) → Admitted (pushed_of v s).place
unfolding pushed_of
pushed_admitted v s = record { head = mod-lt (v.place.head + 1) (omega arith); count = omega arith }

-- a view whose planes and place are those of a ring of 1,024
pub record Held (v : View) : Type 0 where
  pub real : length v.real ≡ 1024
  pub imaginary : length v.imaginary ≡ 1024
  pub inside : v.place.head < 1024

-- ---- two numbers are the same, or not
pub same_or_other : (i j : ℕ) → (i ≡ j) ⊎ (i ≢ j)
same_or_other i j =
    ⊎_elim
    (λ l. inr (λ e. omega arith))
    (λ g. ⊎_elim (λ l. inr (λ e. omega arith)) (λ e. inl (sym e)) (le_or j i g))
    (lt_or_ge i j)

-- ---- pushes

pub pushed_held : (v : View) (s : Option Complex32) → Held v → Held (pushed_of v s)
unfolding pushed_of
pushed_held v s h = record {
  real = length-set v.real v.place.head (paired_of v.place.previous s).real ∙ h.real;
  imaginary = length-set v.imaginary v.place.head (paired_of v.place.previous s).imaginary ∙ h.imaginary;
  inside = mod-lt (v.place.head + 1) (omega arith);
}

-- a point stored in both planes is that point stored in the ring
module _ (re im : List Float) (head n : ℕ) (z : Complex32) (in_real : head < length re) (in_imaginary : head < length im) (in_ring : head < n) where
  abbrev before : List Complex32
  before = upto (point_at re im) n

  abbrev after : ℕ → Complex32
  after = point_at (slice_set re head z.real) (slice_set im head z.imaginary)

  after_same : after head ≡ z
  after_same = rw (get_or-set_same re head z.real nan in_real, get_or-set_same im head z.imaginary nan in_imaginary)

  after_other : (i : ℕ) → (i ≢ head) → after i ≡ point_at re im i
  after_other i e = rw (get_or-set_other re head i z.real nan e, get_or-set_other im head i z.imaginary nan e)

  set_at_after : (i : ℕ) → i < n → slice_index_or (slice_set before head z) i outside ≡ after i
  set_at_after i l =
      let inside : head < length before = rw (length_upto (point_at re im) n) in_ring in
      ⊎_elim
      (λ e. ap (λ (j : ℕ). get_or (slice_set before head z) j outside) e ∙ get_or-set_same before head z outside inside ∙ sym after_same ∙ ap after (sym e))
      (λ e. get_or-set_other before head i z outside e ∙ upto_at (point_at re im) n i outside l ∙ sym (after_other i e))
      (same_or_other i head)

  pub points_set : upto after n ≡ slice_set before head z
  points_set = sym (upto_is after n outside (slice_set before head z) (length-set before head z ∙ length_upto (point_at re im) n) set_at_after)

-- a push puts its point at the head
pub ring_pushed : (v : View) (s : Option Complex32) → Held v → ring_of (pushed_of v s) ≡ slice_set (ring_of v) v.place.head (paired_of v.place.previous s)
unfolding ring_of pushed_of
ring_pushed v s h =
    points_set v.real v.imaginary v.place.head 1024 (paired_of v.place.previous s) (omega (arith, h.real, h.inside)) (omega (arith, h.imaginary, h.inside)) h.inside

-- many pushes, in order, and the points that they give
abbrev pub pushes_of : View → List (Option Complex32) → View
pushes_of v ss = foldl pushed_of v ss

abbrev pub points_of : Option Complex32 → List (Option Complex32) → List Complex32
points_of previous [] = []
points_of previous (s ∷ ss) = paired_of previous s ∷ points_of s ss

pub length_points : (previous : Option Complex32) (ss : List (Option Complex32)) → length (points_of previous ss) ≡ length ss
length_points previous [] = refl
length_points previous (s ∷ ss) = ap suc (length_points s ss)

pub pushes_held : (v : View) (ss : List (Option Complex32)) → Held v → Held (pushes_of v ss)
pushes_held v [] h = h
pushes_held v (s ∷ ss) h = pushes_held (pushed_of v s) ss (pushed_held v s h)

-- the count stops at 1,024
pub count_pushes : (v : View) (ss : List (Option Complex32)) → v.place.count ≤ 1024 → (pushes_of v ss).place.count ≡ min (v.place.count + length ss) 1024
unfolding pushed_of
count_pushes v [] h = omega arith
count_pushes v (s ∷ ss) h = count_pushes (pushed_of v s) ss (omega arith) ∙ omega arith

-- the view as a ring of points and its head
abbrev pub spun_of : View → Spun outside 1024
spun_of v = record { ring = ring_of v; head = v.place.head }

pub spun_pushes : (v : View) (ss : List (Option Complex32)) → Held v → spun_of (pushes_of v ss) ≡ spins outside 1024 (spun_of v) (points_of v.place.previous ss)
unfolding pushed_of
spun_pushes v [] h = refl
spun_pushes v (s ∷ ss) h =
    spun_pushes (pushed_of v s) ss (pushed_held v s h)
    ∙ ap (λ (r : List Complex32). spins outside 1024 (record { ring = r; head = (v.place.head + 1) % 1024 }) (points_of s ss)) (ring_pushed v s h)

pub ring_sound : (v : View) → Held v → Sound outside 1024 (spun_of v)
unfolding ring_of
ring_sound v h = record { full = length_upto _ 1024; inside = h.inside }

-- THE THEOREM: whatever stood there before, the last n points are the last n of those pushed, oldest first
pub last_latest : (v : View) (ss : List (Option Complex32)) (n : ℕ) → Held v → n ≤ length ss → n ≤ 1024
    → last_of (pushes_of v ss) n ≡ drop (length ss - n) (points_of v.place.previous ss)
unfolding last_of
last_latest v ss n h le room =
    let zs = points_of v.place.previous ss in
    let m = length ss - n in
    let len : length (drop m zs) ≡ n = length-drop m zs ∙ rw (length_points v.place.previous ss) (omega arith) in
    let all : spins outside 1024 (spun_of v) (take m zs ++ drop m zs) ≡ spun_of (pushes_of v ss)
    = ap (spins outside 1024 (spun_of v)) (take-append-drop m zs) ∙ sym (spun_pushes v ss h) in
    ap (λ (k : ℕ). last outside 1024 (spun_of (pushes_of v ss)) k) (sym len)
    ∙ ap (λ (r : Spun outside 1024). last outside 1024 r (length (drop m zs))) (sym all)
    ∙ last_pushed outside 1024 (spun_of v) (take m zs) (drop m zs) (ring_sound v h) (rw len room)

-- so a read after any pushes shows the latest of them, as many as are held and have room
pub read_latest : (v : View) (ss : List (Option Complex32)) (l : List Float) (n : ℕ) → Held v → v.place.count ≤ 1024
    → n ≡ min (min (v.place.count + length ss) 1024) (length l / 2) → n ≤ length ss
    → read_of (pushes_of v ss) l ≡ shown_of (drop (length ss - n) (points_of v.place.previous ss)) l
read_latest v ss l n h most e le =
    rw (count_pushes v ss most, ← e, last_latest v ss n h le (omega arith))

-- ---- what a read leaves alone

pub length_parts : (a : Float) (zs : List Complex32) → length (parts_of a zs) ≡ length zs * 2
unfolding parts_of
length_parts a [] = refl
length_parts a (z ∷ zs) = let e = length_parts a zs in omega (arith, e)

module _ (a : Float) (zs : List Complex32) (l : List Float) (d : Float) (i : ℕ) where
  past_written : length zs * 2 ≤ i → slice_index_or (written_of a zs l).output i d ≡ slice_index_or l i d
  unfolding written_of
  past_written h =
      let k = i - length zs * 2 in
      let e : i ≡ length (parts_of a zs) + k = rw (length_parts a zs) (omega arith) in
      let e2 : length zs * 2 + k ≡ i = omega arith in
      ap (λ (j : ℕ). get_or (parts_of a zs ++ drop (length zs * 2) l) j d) e
      ∙ get_or-append-add (parts_of a zs) (drop (length zs * 2) l) k d
      ∙ get_or-drop (length zs * 2) l k d
      ∙ ap (λ (j : ℕ). get_or l j d) e2

  past_shown : (b : Bool) → (cond b (shown_as (length zs) (written_of a zs l)) (nothing l)).reading.count * 2 ≤ i
      → slice_index_or (cond b (shown_as (length zs) (written_of a zs l)) (nothing l)).output i d ≡ slice_index_or l i d
  past_shown true h = past_written h
  past_shown false h = refl

-- every float past the points that a read counts is as it was
pub past_kept : (v : View) (l : List Float) (d : Float) (i : ℕ) → (read_of v l).reading.count * 2 ≤ i → slice_index_or (read_of v l).output i d ≡ slice_index_or l i d
unfolding shown_of
past_kept v l d i h =
    let zs = last_of v (min v.place.count (length l / 2)) in
    past_shown (sqrt_of binary64 (mean_power zs)) zs l d i (usable_of (length zs) (mean_power zs)) h
