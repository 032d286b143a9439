-- Loops that lay complex numbers into a room, one after the other, and what stands in a lane of it. Assumes nothing.
use Rattle.std.specs.Prelude.{◌≡◌, ltb, set, Float}
use Rattle.std.proofs.Math.Path.{ap}
use Rattle.std.proofs.Common.{sym, ◌∙◌, length-set, lt-ltb, le-ltb}
use Rattle.std.proofs.Math.Logic.{⊎_elim}
use Prim.Native.Nat.{ℕ, zero, suc, ◌+◌, ◌-◌, ◌*◌, ◌/◌, ◌%◌, ◌≤◌, ◌<◌}
use native.Mathlib.Omega.{arith}
use Rattle.std.proofs.Math.Bool.{cond}
use mathlib.Core.List.{List}
use Rattle.std.proofs.Math.ListN.{length, get_or}
use Rattle.std.proofs.Math.Seq.{get_or-set_same, get_or-set_other}
use Rattle.std.specs.Float.Ieee.{nan}
use Rattle.laws.specs.Ring.{lt_or_ge}
use Rattle.laws.specs.Turns.{turns, turns_start, turns_step}
use Rattle.laws.specs.Places.{upto, upto_at, upto_is, length_upto, turns_length, turns_at, skip2}
use Rattle.complex.specs.declared.Complex32.{Complex32}
use Rattle.complex.specs.Complex.{zero_pair}
use Rattle.least_squares.specs.Lanes.{pair_at, put_pair, pairs_of, in_lanes, lane_of, lanes_of}

-- ---- a list of pairs, by its places
module _ (half : ℕ) (f : ℕ → Complex32) where
  pub pairs_length : length (pairs_of half f) ≡ half + half
  unfolding pairs_of
  pairs_length = length_upto _ (half + half)

  pub pairs_at : (k : ℕ) → k < half → pair_at half (pairs_of half f) k ≡ f k
  unfolding pairs_of
  pairs_at k h =
      let low : get_or (upto (λ n. cond (ltb n half) (f n).real (f (n - half)).imaginary) (half + half)) k nan ≡ (f k).real =
      upto_at (λ n. cond (ltb n half) (f n).real (f (n - half)).imaginary) (half + half) k nan (omega arith) ∙ rw (lt-ltb k half h) in
      let e : k + half - half ≡ k = omega arith in
      let high : get_or (upto (λ n. cond (ltb n half) (f n).real (f (n - half)).imaginary) (half + half)) (k + half) nan ≡ (f k).imaginary =
      upto_at (λ n. cond (ltb n half) (f n).real (f (n - half)).imaginary) (half + half) (k + half) nan (omega arith) ∙ rw (le-ltb (k + half) half (omega arith), e) in
      λ i. record { real = low i; imaginary = high i }

  -- ---- a loop that lays f 0, f 1, .. in turn
  abbrev pair_turn : ℕ → List Float → List Float
  pair_turn k m = set (set m k (f k).real) (k + half) (f k).imaginary

  unfoldable pub pairs_to : ℕ → List Float → List Float
  pairs_to n l = turns pair_turn n l

  turn_keeps : (k : ℕ) (m : List Float) → length (pair_turn k m) ≡ length m
  turn_keeps k m = length-set (set m k (f k).real) (k + half) (f k).imaginary ∙ length-set m k (f k).real

  pub pairs_start : (l : List Float) → l ≡ pairs_to 0 l
  unfolding pairs_to
  pairs_start l = turns_start _ _

  pub pairs_step : (k : ℕ) (l m : List Float) (z : Complex32) → z ≡ f k → m ≡ pairs_to k l → set (set m k z.real) (k + half) z.imaginary ≡ pairs_to (k + 1) l
  unfolding pairs_to
  pairs_step k l m z e h = rw e (turns_step pair_turn k l m h)

  pub laid_length : (k : ℕ) (l m : List Float) → m ≡ pairs_to k l → length m ≡ length l
  unfolding pairs_to
  laid_length k l m h = ap length h ∙ turns_length pair_turn k l turn_keeps

  -- of which a loop inside it lays n from a on
  unfoldable pub pairs_from : ℕ → ℕ → List Float → List Float
  pairs_from a n l = turns (λ k m. pair_turn (a + k) m) n l

  pub from_start : (a : ℕ) (l : List Float) → l ≡ pairs_from a 0 l
  unfolding pairs_from
  from_start a l = turns_start _ _

  pub from_step : (a k : ℕ) (l m : List Float) (z : Complex32) → z ≡ f (a + k) → m ≡ pairs_from a k l → set (set m (a + k) z.real) (a + k + half) z.imaginary ≡ pairs_from a (k + 1) l
  unfolding pairs_from
  from_step a k l m z e h = rw e (turns_step (λ k m. pair_turn (a + k) m) k l m h)

  pub from_length : (a k : ℕ) (l m : List Float) → m ≡ pairs_from a k l → length m ≡ length l
  unfolding pairs_from
  from_length a k l m h = ap length h ∙ turns_length (λ k m. pair_turn (a + k) m) k l (λ k m. turn_keeps (a + k) m)

  joined : (a n b : ℕ) (l : List Float) → b ≡ n + a → pairs_from a n (pairs_to a l) ≡ pairs_to b l
  unfolding pairs_from pairs_to turns
  joined a zero b l e = let q : b ≡ a = omega arith in rw q
  joined a (suc n) b l e = let q : b ≡ suc (a + n) = omega arith in rw q (ap (pair_turn (a + n)) (joined a n (a + n) l (omega arith)))

  pub from_end : (a k b : ℕ) (l m v : List Float) → v ≡ pairs_from a k m → m ≡ pairs_to a l → b ≡ k + a → v ≡ pairs_to b l
  from_end a k b l m v h g e = h ∙ ap (pairs_from a k) g ∙ joined a k b l e

  pub pairs_end : (k : ℕ) (l m : List Float) → m ≡ pairs_to k l → k ≡ half → length l ≡ half + half → m ≡ pairs_of half f
  unfolding pairs_to pairs_of
  pairs_end k l m h e s =
      h ∙ ap (λ (j : ℕ). turns pair_turn j l) e
      ∙ upto_is (λ n. cond (ltb n half) (f n).real (f (n - half)).imaginary) (half + half) nan (turns pair_turn half l) (turns_length pair_turn half l turn_keeps ∙ s) at
    where
      at : (n : ℕ) → n < half + half → get_or (turns pair_turn half l) n nan ≡ cond (ltb n half) (f n).real (f (n - half)).imaginary
      at n b =
          ⊎_elim
          (λ i. turns_at pair_turn n half l n nan (f n).real i
          (λ m o. get_or-set_other (set m n (f n).real) (n + half) n (f n).imaginary nan (λ q. omega arith) ∙ get_or-set_same m n (f n).real nan (rw (o, s) b))
          turn_keeps
          (λ k m p q. skip2 m k (k + half) (f k).real (f k).imaginary n nan (λ r. omega arith) (λ r. omega arith))
          ∙ rw (lt-ltb n half i))
          (λ g. let p : n - half + half ≡ n = omega arith in
          turns_at pair_turn (n - half) half l n nan (f (n - half)).imaginary (omega arith)
          (λ m o. rw p (get_or-set_same (set m (n - half) (f (n - half)).real) n (f (n - half)).imaginary nan (rw (length-set m (n - half) (f (n - half)).real, o, s) b)))
          turn_keeps
          (λ k m u q. skip2 m k (k + half) (f k).real (f k).imaginary n nan (λ r. omega arith) (λ r. omega arith))
          ∙ rw (le-ltb n half g))
          (lt_or_ge n half)

-- ---- a list from its pairs
pub pairs_is : (half : ℕ) (f : ℕ → Complex32) (l : List Float) → length l ≡ half + half → ((k : ℕ) → k < half → pair_at half l k ≡ f k) → l ≡ pairs_of half f
unfolding pairs_of
pairs_is half f l s h = upto_is (λ n. cond (ltb n half) (f n).real (f (n - half)).imaginary) (half + half) nan l s at
  where
    at : (n : ℕ) → n < half + half → get_or l n nan ≡ cond (ltb n half) (f n).real (f (n - half)).imaginary
    at n b =
        ⊎_elim
        (λ i. ap (λ (z : Complex32). z.real) (h n i) ∙ rw (lt-ltb n half i))
        (λ g. let p : n - half + half ≡ n = omega arith in
        ap (λ (k : ℕ). get_or l k nan) (sym p) ∙ ap (λ (z : Complex32). z.imaginary) (h (n - half) (omega arith)) ∙ rw (le-ltb n half g))
        (lt_or_ge n half)

-- ---- one pair put
module _ (half : ℕ) (m : List Float) (k : ℕ) (z : Complex32) where
  pub put_length : length (put_pair half m k z) ≡ length m
  put_length = length-set (set m k z.real) (k + half) z.imaginary ∙ length-set m k z.real

  pub put_same : k < half → length m ≡ half + half → pair_at half (put_pair half m k z) k ≡ z
  put_same h s =
      let a : get_or (put_pair half m k z) k nan ≡ z.real = get_or-set_other (set m k z.real) (k + half) k z.imaginary nan (λ q. omega arith) ∙ get_or-set_same m k z.real nan (rw s (omega arith)) in
      let b : get_or (put_pair half m k z) (k + half) nan ≡ z.imaginary = get_or-set_same (set m k z.real) (k + half) z.imaginary nan (rw (length-set m k z.real, s) (omega arith)) in
      λ i. record { real = a i; imaginary = b i }

  pub put_other : (j : ℕ) → k < half → j < half → (j ≡ k → ⊥) → pair_at half (put_pair half m k z) j ≡ pair_at half m j
  put_other j h b n =
      let x : get_or (put_pair half m k z) j nan ≡ get_or m j nan = skip2 m k (k + half) z.real z.imaginary j nan n (λ q. omega arith) in
      let y : get_or (put_pair half m k z) (j + half) nan ≡ get_or m (j + half) nan = skip2 m k (k + half) z.real z.imaginary (j + half) nan (λ q. omega arith) (λ q. n (omega arith)) in
      λ i. record { real = x i; imaginary = y i }

-- ---- a loop whose turn t k writes the place k
module _ (half : ℕ) (t : ℕ → ℕ) (f : ℕ → Complex32) where
  unfoldable pub swept_to : ℕ → List Float → List Float
  swept_to n l = pairs_of half (λ k. cond (ltb (t k) n) (f k) (pair_at half l k))

  pub swept_length : (n : ℕ) (l m : List Float) → m ≡ swept_to n l → length m ≡ half + half
  unfolding swept_to
  swept_length n l m e = ap length e ∙ pairs_length half _

  pub swept_done : (n : ℕ) (l m : List Float) (k : ℕ) → m ≡ swept_to n l → k < half → t k < n → pair_at half m k ≡ f k
  unfolding swept_to
  swept_done n l m k e h b = ap (λ (z : List Float). pair_at half z k) e ∙ pairs_at half (λ k. cond (ltb (t k) n) (f k) (pair_at half l k)) k h ∙ rw (lt-ltb (t k) n b)

  pub swept_left : (n : ℕ) (l m : List Float) (k : ℕ) → m ≡ swept_to n l → k < half → n ≤ t k → pair_at half m k ≡ pair_at half l k
  unfolding swept_to
  swept_left n l m k e h b = ap (λ (z : List Float). pair_at half z k) e ∙ pairs_at half (λ k. cond (ltb (t k) n) (f k) (pair_at half l k)) k h ∙ rw (le-ltb (t k) n b)

  pub swept_start : (l : List Float) → length l ≡ half + half → l ≡ swept_to 0 l
  unfolding swept_to
  swept_start l s = pairs_is half (λ k. cond (ltb (t k) 0) (f k) (pair_at half l k)) l s (λ k h. rw (le-ltb (t k) 0 (omega arith)))

  pub swept_turn : (n : ℕ) (l m v : List Float) → m ≡ swept_to n l → length v ≡ half + half
      → ((k : ℕ) → k < half → t k ≡ n → pair_at half v k ≡ f k)
      → ((k : ℕ) → k < half → (t k ≡ n → ⊥) → pair_at half v k ≡ pair_at half m k) → v ≡ swept_to (n + 1) l
  swept_turn n l m v e s w o = unfold swept_to in pairs_is half (λ k. cond (ltb (t k) (n + 1)) (f k) (pair_at half l k)) v s at
    where
      at : (k : ℕ) → k < half → pair_at half v k ≡ cond (ltb (t k) (n + 1)) (f k) (pair_at half l k)
      at k h =
          ⊎_elim
          (λ b. o k h (λ q. omega arith) ∙ swept_done n l m k e h b ∙ rw (lt-ltb (t k) (n + 1) (omega arith)))
          (λ g. ⊎_elim
          (λ b. w k h (omega arith) ∙ rw (lt-ltb (t k) (n + 1) b))
          (λ p. o k h (λ q. omega arith) ∙ swept_left n l m k e h (omega arith) ∙ rw (le-ltb (t k) (n + 1) p))
          (lt_or_ge (t k) (n + 1)))
          (lt_or_ge (t k) n)

  pub swept_end : (n : ℕ) (l m : List Float) → m ≡ swept_to n l → ((k : ℕ) → k < half → t k < n) → m ≡ pairs_of half f
  swept_end n l m e h = pairs_is half f m (swept_length n l m e) (λ k b. swept_done n l m k e b (h k b))

-- ---- lanes
module _ (half n : ℕ) (room : List Float) (lane : ℕ) where
  pub lane_at : (k : ℕ) → k < n → get_or (lane_of half n room lane) k zero_pair ≡ pair_at half room (16 * k + lane)
  unfolding lane_of
  lane_at k h = upto_at (λ k. pair_at half room (16 * k + lane)) n k zero_pair h

-- the place of the number i of the lane l
pub in_lane : (f : ℕ → List Complex32) (i l : ℕ) → l < 16 → in_lanes f (16 * i + l) ≡ get_or (f l) i zero_pair
in_lane f i l h =
    let m : (16 * i + l) % 16 ≡ l = omega arith in
    let d : (16 * i + l) / 16 ≡ i = omega arith in
    rw (m, d)

-- what a lane of a room holds
pub lane_is : (half n : ℕ) (f : ℕ → List Complex32) (room : List Float) (l : ℕ) → room ≡ lanes_of half f → half ≡ 16 * n → l < 16 → length (f l) ≡ n → lane_of half n room l ≡ f l
unfolding lane_of lanes_of
lane_is half n f room l e s h len =
    sym (upto_is (λ k. pair_at half room (16 * k + l)) n zero_pair (f l) len (λ k b.
    let at : pair_at half room (16 * k + l) ≡ in_lanes f (16 * k + l) = rw e (pairs_at half (in_lanes f) (16 * k + l) (omega arith)) in
    sym (at ∙ in_lane f k l h)))

pub lanes_end : (half k : ℕ) (f : ℕ → List Complex32) (l m : List Float) → m ≡ pairs_to half (in_lanes f) k l → k ≡ half → length l ≡ half + half → m ≡ lanes_of half f
unfolding lanes_of
lanes_end half k f l m h e s = pairs_end half (in_lanes f) k l m h e s

pub lanes_length : (half : ℕ) (f : ℕ → List Complex32) (m : List Float) → m ≡ lanes_of half f → length m ≡ half + half
unfolding lanes_of
lanes_length half f m e = ap length e ∙ pairs_length half (in_lanes f)

-- rooms whose lanes hold the same
pub lanes_same : (half : ℕ) (f g : ℕ → List Complex32) → ((l : ℕ) → l < 16 → f l ≡ g l) → lanes_of half f ≡ lanes_of half g
unfolding lanes_of
lanes_same half f g h =
    pairs_is half (in_lanes g) (pairs_of half (in_lanes f)) (pairs_length half (in_lanes f))
    (λ k b. pairs_at half (in_lanes f) k b ∙ ap (λ (z : List Complex32). get_or z (k / 16) zero_pair) (h (k % 16) (omega arith)))
