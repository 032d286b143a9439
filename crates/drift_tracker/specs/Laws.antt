-- What the proofs of the tracker's functions apply, over plain variables. Assumes nothing.
use Rattle.std.specs.Prelude.{◌≡◌, ◌⊎◌, Bool, true, false, eqb, set, Float}
use Rattle.std.proofs.Math.Path.{refl, ap}
use Rattle.std.proofs.Common.{sym, ◌∙◌, inl, inr, eq-eqb, ne_eqb}
use Rattle.std.proofs.Math.Logic.{⊎_elim}
use Prim.Native.Nat.{ℕ, ◌+◌, ◌*◌, ◌/◌, ◌%◌, ◌≤◌, ◌<◌}
use native.Mathlib.Omega.{arith}
use Rattle.std.proofs.Math.Bool.{cond}
use mathlib.Core.List.{List}
use Rattle.std.proofs.Math.ListN.{length, get_or, length-set}
use Rattle.std.proofs.Math.Seq.{get_or-set_same, get_or-set_other}
use Rattle.std.specs.Float.Ieee.{nan, binary32, add}
use Rattle.laws.specs.Ring.{lt_or_ge}
use Rattle.laws.specs.Turns.{turns, turns_start, turns_step}
use Rattle.laws.specs.Places.{upto, upto_at, upto_is, upto_same, length_upto}
use Rattle.channels.specs.Stripes.{striped}
use Rattle.complex.specs.declared.Complex32.{Complex32}
use Rattle.complex.specs.Complex.{zero_pair, difference_of}
use Rattle.channels.specs.Channels.{symbol_of, Parents}
use Rattle.complex.specs.Planes.{Planes, point_at}
use Rattle.least_squares.specs.Lanes.{pair_at, put_pair, pairs_of, in_lanes, lanes_of, inverse_in, row_in, four_in, pair_in, real_in, state_at, inverse_of, inverses_of, in_group}
use Rattle.lane_sums.specs.LaneLaws.{pairs_to, pairs_end, pairs_is, pairs_at, pairs_length, lane_is, in_lane, lane_at, put_length, put_same, put_other, swept_to, swept_length, swept_left, swept_start, swept_turn, swept_end}
use Rattle.least_squares.specs.LeastSquares.{number_of, table_of, right_added, foretold_of, crossed_of, gain_of, weight_of, gain_for, is_usable, moved_tap, moved_of, settled_of, renewed_of, Model, learnt_of}
use Rattle.settling.specs.Settling.{inverse_after}
use Rattle.drift_tracker.specs.Drift.{Memory, taps_at, drift_at, model_at, parent_of, symbols_of, drifts_of, advanced_of, model_after, laid_out, followed_of}
use Rattle.drift_tracker.specs.Layout.{joined_of, split_of, in_fours, moved_from, learnt_with, learnt_in, heir_of, learnt_from}

-- ---- each tap goes on by its drift
module _ (d : List Float) (at : ℕ → ℕ) where
  abbrev onward_turn : ℕ → List Float → List Float
  onward_turn k m = set m k (add binary32 (get_or m k nan) (get_or d (at k) nan))

  unfoldable pub onward : ℕ → List Float → List Float
  onward n l = turns onward_turn n l

  pub onward_start : (l : List Float) → l ≡ onward 0 l
  unfolding onward
  onward_start l = turns_start _ _

  pub onward_step : (k : ℕ) (l m : List Float) → m ≡ onward k l → onward_turn k m ≡ onward (k + 1) l
  unfolding onward
  onward_step k l m h = turns_step onward_turn k l m h

  pub onward_end : (k : ℕ) (l m : List Float) → m ≡ onward k l → k ≤ 256 → 256 ≤ k → length l ≡ 256 → m ≡ upto (λ k. add binary32 (get_or l k nan) (get_or d (at k) nan)) 256
  unfolding onward
  onward_end k l m h a b s =
      striped nan onward_turn 256 256 (λ j. j) (λ j x. add binary32 x (get_or d (at j) nan))
      (λ k m. length-set m k _) (λ j h. h)
      (λ j m h e. get_or-set_same m j _ nan (rw e h))
      (λ j k m h b o. get_or-set_other m k j _ nan (λ q. o (sym q)))
      k l m h a b s

pub advanced_is : (d : List Float) (k : ℕ) (real imaginary x y : List Float) → x ≡ onward d (λ k. k) k real → y ≡ onward d (λ k. k + 256) k imaginary → k ≤ 256 → 256 ≤ k
    → length real ≡ 256 → length imaginary ≡ 256 → ◌≡◌ {A = Planes} (record { real = x; imaginary = y }) (advanced_of (record { real = real; imaginary = imaginary }) d)
unfolding advanced_of
advanced_is d k real imaginary x y p q a b s t =
    let real_is = onward_end d (λ k. k) k real x p a b s in
    let imaginary_is = onward_end d (λ k. k + 256) k imaginary y q a b t in
    λ i. record { real = real_is i; imaginary = imaginary_is i }

pub joined_is : (c : Planes) (k : ℕ) (l m : List Float) → m ≡ pairs_to 256 (point_at c) k l → k ≡ 256 → length l ≡ 512 → m ≡ joined_of c
unfolding joined_of
joined_is c k l m h e s = pairs_end 256 (point_at c) k l m h e s

-- ---- taken from the parents
pub inherit_is : (all : List Float) (parents : List ℕ) (k p : ℕ) (z : Complex32) → k < 256 → p ≡ parent_of parents (k % 64) → z ≡ pair_at 256 all (64 * (k / 64) + p)
    → z ≡ number_of (drift_at all (parent_of parents (k % 64))) (k / 64)
unfolding drift_at
inherit_is all parents k p z h q e =
    e ∙ ap (λ (p : ℕ). pair_at 256 all (64 * (k / 64) + p)) q
    ∙ sym (upto_at (λ t. pair_at 256 all (64 * t + parent_of parents (k % 64))) 4 (k / 64) zero_pair (omega arith))

pub drifts_end : (f : ℕ → List Complex32) (k : ℕ) (l m : List Float) → m ≡ pairs_to 256 (λ k. number_of (f (k % 64)) (k / 64)) k l → k ≡ 256 → length l ≡ 512 → m ≡ drifts_of f
unfolding drifts_of
drifts_end f k l m h e s = pairs_end 256 (λ k. number_of (f (k % 64)) (k / 64)) k l m h e s

-- what stands there of a state
drifts_at : (f : ℕ → List Complex32) (all : List Float) (s : ℕ) → all ≡ drifts_of f → s < 64 → length (f s) ≡ 4 → drift_at all s ≡ f s
unfolding drifts_of drift_at
drifts_at f all s e h len =
    sym (upto_is (λ t. pair_at 256 all (64 * t + s)) 4 zero_pair (f s) len (λ t b.
    let r : (64 * t + s) % 64 ≡ s = omega arith in
    let d : (64 * t + s) / 64 ≡ t = omega arith in
    sym (ap (λ (z : List Float). pair_at 256 z (64 * t + s)) e ∙ pairs_at 256 (λ k. number_of (f (k % 64)) (k / 64)) (64 * t + s) (omega arith) ∙ (λ i. number_of (f (r i)) (d i)))))

drift_length : (all : List Float) (s : ℕ) → length (drift_at all s) ≡ 4
unfolding drift_at
drift_length all s = length_upto _ 4

-- ---- the symbols
pub newest_is : (s p t : ℕ) (z : Complex32) → t ≡ 0 → z ≡ symbol_of (s % 4) → z ≡ number_of (symbols_of s p) t
newest_is s p t z h e = rw h e

pub last_is : (s p t : ℕ) (z : Complex32) → t ≡ 1 → z ≡ symbol_of (p % 4) → z ≡ number_of (symbols_of s p) t
last_is s p t z h e = rw h e

pub earlier_is : (s p t : ℕ) (z : Complex32) → t ≡ 2 → z ≡ symbol_of (p / 4 % 4) → z ≡ number_of (symbols_of s p) t
earlier_is s p t z h e = rw h e

pub first_is : (s p t : ℕ) (z : Complex32) → t ≡ 3 → z ≡ symbol_of (p / 16) → z ≡ number_of (symbols_of s p) t
first_is s p t z h e = rw h e

pub regress_is : (parents : List ℕ) (g t l p : ℕ) (z : Complex32) → l < 16 → p ≡ parent_of parents (16 * g + l) → z ≡ number_of (symbols_of (16 * g + l) p) t
    → z ≡ in_lanes (λ l. symbols_of (16 * g + l) (parent_of parents (16 * g + l))) (16 * t + l)
regress_is parents g t l p z b q e =
    e ∙ ap (λ (p : ℕ). number_of (symbols_of (16 * g + l) p) t) q ∙ sym (in_lane (λ l. symbols_of (16 * g + l) (parent_of parents (16 * g + l))) t l b)

same_or_other : (a b : ℕ) → (a ≡ b) ⊎ (a ≡ b → ⊥)
same_or_other a b =
    ⊎_elim
    (λ l. inr (λ e. omega arith))
    (λ g. ⊎_elim (λ l. inl (omega arith)) (λ o. inr (λ e. omega arith)) (lt_or_ge a (b + 1)))
    (lt_or_ge a b)

-- ---- moved in place
abbrev put_turn : ℕ → ℕ
put_turn k = 16 * (k / 64) + k % 64 % 16

put_back : (n t l : ℕ) → put_turn n ≡ 16 * t + l → l < 16 → (n / 64 ≡ t) × (n % 64 % 16 ≡ l)
put_back n t l e h = (omega arith, omega arith)

put_place : (n g t l : ℕ) → n / 64 ≡ t → n % 64 % 16 ≡ l → n % 64 / 16 ≡ g → n ≡ 64 * t + 16 * g + l
put_place n g t l a b c = let r : n % 64 ≡ 16 * g + l = omega arith in omega arith

module _ (t g l : ℕ) (h : g < 4) (b : l < 16) where
  abbrev place : ℕ
  place = 64 * t + 16 * g + l

  place_row : place / 64 ≡ t
  place_row = omega arith

  place_rest : place % 64 ≡ 16 * g + l
  place_rest = omega arith

  place_group : place % 64 / 16 ≡ g
  place_group = let r = place_rest in rw r (omega arith)

  place_lane : place % 64 % 16 ≡ l
  place_lane = let r = place_rest in rw r (omega arith)

  place_turn : put_turn place ≡ 16 * t + l
  place_turn = rw (place_row, place_lane)

module _ (f : ℕ → List Complex32) (g : ℕ) (all : List Float) where
  abbrev put_number : ℕ → Complex32
  put_number k = cond (eqb (k % 64 / 16) g) (number_of (f (k % 64)) (k / 64)) (pair_at 256 all k)

  unfoldable pub put_to : ℕ → List Float
  put_to n = swept_to 256 put_turn put_number n all

  pub put_start : length all ≡ 512 → all ≡ put_to 0
  unfolding put_to
  put_start s = swept_start 256 put_turn put_number all s

  pub put_none : (n : ℕ) (m : List Float) → m ≡ put_to n → m ≡ put_to (n + 0)
  put_none n m e = let q : n ≡ n + 0 = omega arith in e ∙ ap put_to q

  -- the place of a turn is as it was
  put_kept : (t l : ℕ) (m : List Float) → t < 4 → g < 4 → l < 16 → m ≡ put_to (16 * t + l) → pair_at 256 m (64 * t + 16 * g + l) ≡ pair_at 256 all (64 * t + 16 * g + l)
  unfolding put_to
  put_kept t l m ht hg hl h =
      let q = place_turn t g l hg hl in
      swept_left 256 put_turn put_number (16 * t + l) all m (64 * t + 16 * g + l) h (omega arith) (omega (arith, q))

  put_step : (t l : ℕ) (m : List Float) (z : Complex32) → t < 4 → g < 4 → l < 16 → z ≡ number_of (f (16 * g + l)) t → m ≡ put_to (16 * t + l)
      → put_pair 256 m (64 * t + 16 * g + l) z ≡ put_to (16 * t + (l + 1))
  unfolding put_to
  put_step t l m z ht hg hl e h =
      let more : 16 * t + l + 1 ≡ 16 * t + (l + 1) = omega arith in
      swept_turn 256 put_turn put_number (16 * t + l) all m (put_pair 256 m (64 * t + 16 * g + l) z) h
      (put_length 256 m (64 * t + 16 * g + l) z ∙ swept_length 256 put_turn put_number (16 * t + l) all m h)
      written
      (λ k b o. put_other 256 m (64 * t + 16 * g + l) z k (omega arith) b (λ q. o (ap put_turn q ∙ place_turn t g l hg hl)))
      ∙ ap (λ (n : ℕ). swept_to 256 put_turn put_number n all) more
    where
      written : (k : ℕ) → k < 256 → put_turn k ≡ 16 * t + l → pair_at 256 (put_pair 256 m (64 * t + 16 * g + l) z) k ≡ put_number k
      written k b q =
          let r = put_back k t l q hl in
          let d : k / 64 ≡ t = r.0 in
          let n : k % 64 % 16 ≡ l = r.1 in
          ⊎_elim
          (λ same. let p = put_place k g t l d n same in
          let s : k % 64 ≡ 16 * g + l = ap (λ (x : ℕ). x % 64) p ∙ place_rest t g l hg hl in
          ap (pair_at 256 (put_pair 256 m (64 * t + 16 * g + l) z)) p
          ∙ put_same 256 m (64 * t + 16 * g + l) z (omega arith) (swept_length 256 put_turn put_number (16 * t + l) all m h)
          ∙ e
          ∙ (λ i. number_of (f (sym s i)) (sym d i))
          ∙ rw (eq-eqb (k % 64 / 16) g same))
          (λ other. put_other 256 m (64 * t + 16 * g + l) z k (omega arith) b (λ p. other (ap (λ (x : ℕ). x % 64 / 16) p ∙ place_group t g l hg hl))
          ∙ swept_left 256 put_turn put_number (16 * t + l) all m k h b (omega arith)
          ∙ rw (ne_eqb (k % 64 / 16) g other))
          (same_or_other (k % 64 / 16) g)

  pub put_row : (t l : ℕ) (m : List Float) → m ≡ put_to (16 * t + l) → l ≡ 16 → m ≡ put_to (16 * (t + 1))
  put_row t l m e h = let q : 16 * t + l ≡ 16 * (t + 1) = omega arith in e ∙ ap put_to q

  pub put_end : (n : ℕ) (m : List Float) → m ≡ put_to n → n ≡ 64 → m ≡ in_fours g f all
  unfolding put_to in_fours
  put_end n m h e = swept_end 256 put_turn put_number n all m h (λ k b. omega arith)

-- one number of the lane l
module _ (all gain : List Float) (from : ℕ) (error d : List Float) (g t l : ℕ) (ht : t < 4) (hf : from ≤ 4) (hg : g < 4) (hl : l < 16) where
  abbrev moves : ℕ → List Complex32
  moves = moved_from all gain from error d

  moved_number : number_of (moves (16 * g + l)) t
      ≡ moved_tap (pair_at 256 all (64 * t + 16 * g + l)) (pair_at 128 gain (16 * (t + from) + l)) (pair_at 16 error l) (is_usable (get_or d l nan))
  unfolding moved_from moved_of drift_at pair_in real_in
  moved_number =
      let q : (16 * g + l) % 16 ≡ l = omega arith in
      let r : 64 * t + (16 * g + l) ≡ 64 * t + 16 * g + l = omega arith in
      upto_at (λ t. moved_tap (number_of (drift_at all (16 * g + l)) t) (number_of (row_in gain ((16 * g + l) % 16)) (t + from)) (pair_at 16 error ((16 * g + l) % 16)) (is_usable (get_or d ((16 * g + l) % 16) nan))) 4 t zero_pair ht
      ∙ (λ i. moved_tap
      (upto_at (λ t. pair_at 256 all (64 * t + (16 * g + l))) 4 t zero_pair ht i)
      (number_of (row_in gain (q i)) (t + from)) (pair_at 16 error (q i)) (is_usable (get_or d (q i) nan)))
      ∙ (λ i. moved_tap (pair_at 256 all (r i)) (lane_at 128 8 gain l (t + from) (omega arith) i) (pair_at 16 error l) (is_usable (get_or d l nan)))

  pub pull_step : (m : List Float) (tap by miss z : Complex32) (usable : Bool) → tap ≡ pair_at 256 m (64 * t + 16 * g + l) → by ≡ pair_at 128 gain (16 * (t + from) + l)
      → miss ≡ pair_at 16 error l → usable ≡ is_usable (get_or d l nan) → z ≡ moved_tap tap by miss usable → m ≡ put_to moves g all (16 * t + l)
      → set (set m (64 * t + 16 * g + l) z.real) (64 * t + 16 * g + l + 256) z.imaginary ≡ put_to moves g all (16 * t + (l + 1))
  pull_step m tap by miss z usable a b c u e h =
      put_step moves g all t l m z ht hg hl
      (e ∙ (λ i. moved_tap ((a ∙ put_kept moves g all t l m ht hg hl h) i) (b i) (c i) (u i)) ∙ sym moved_number)
      h

-- ---- lengths
foretold_length : (p : List Complex32) → length (foretold_of p) ≡ 64
unfolding foretold_of right_added table_of
foretold_length p = length_upto _ 64

gain_length : (p u : List Complex32) → length (gain_for p u) ≡ 8
unfolding gain_for gain_of
gain_length p u = length_upto _ 8

crossed_length : (p u : List Complex32) → length (crossed_of p u) ≡ 8
unfolding crossed_of
crossed_length p u = length_upto _ 8

-- ---- a group of sixteen states
pub fours_same : (g : ℕ) (f h : ℕ → List Complex32) (l : List Float) → ((n : ℕ) → n < 16 → f (16 * g + n) ≡ h (16 * g + n)) → in_fours g f l ≡ in_fours g h l
unfolding in_fours
fours_same g f h l same =
    pairs_is 256 (λ k. cond (eqb (k % 64 / 16) g) (number_of (h (k % 64)) (k / 64)) (pair_at 256 l k)) (pairs_of 256 (λ k. cond (eqb (k % 64 / 16) g) (number_of (f (k % 64)) (k / 64)) (pair_at 256 l k)))
    (pairs_length 256 _)
    (λ k b. pairs_at 256 (λ k. cond (eqb (k % 64 / 16) g) (number_of (f (k % 64)) (k / 64)) (pair_at 256 l k)) k b
    ∙ ⊎_elim
    (λ e. let q : 16 * g + k % 64 % 16 ≡ k % 64 = omega arith in
    let p : f (k % 64) ≡ h (k % 64) = ap f (sym q) ∙ same (k % 64 % 16) (omega arith) ∙ ap h q in rw p)
    (λ o. rw (ne_eqb (k % 64 / 16) g o))
    (same_or_other (k % 64 / 16) g))

state_group : (n : ℕ) → state_at n / 16 ≡ n / 1024
state_group n = omega arith

pub group_same : (g : ℕ) (f h : ℕ → List Complex32) (l : List Float) → ((n : ℕ) → n < 16 → f (16 * g + n) ≡ h (16 * g + n)) → in_group g f l ≡ in_group g h l
unfolding in_group
group_same g f h l same =
    pairs_is 4096 (λ n. cond (eqb (n / 1024) g) (get_or (h (state_at n)) (n / 4 % 64) zero_pair) (pair_at 4096 l n)) (pairs_of 4096 (λ n. cond (eqb (n / 1024) g) (get_or (f (state_at n)) (n / 4 % 64) zero_pair) (pair_at 4096 l n)))
    (pairs_length 4096 _)
    (λ k b. pairs_at 4096 (λ n. cond (eqb (n / 1024) g) (get_or (f (state_at n)) (n / 4 % 64) zero_pair) (pair_at 4096 l n)) k b
    ∙ ⊎_elim
    (λ e. let q : 16 * g + state_at k % 16 ≡ state_at k = in_state (state_at k) g (state_group k ∙ e) in
    let p : f (state_at k) ≡ h (state_at k) = ap f (sym q) ∙ same (state_at k % 16) (omega arith) ∙ ap h q in rw p)
    (λ o. rw (ne_eqb (k / 1024) g o))
    (same_or_other (k / 1024) g))
  where
    in_state : (s g : ℕ) → s / 16 ≡ g → 16 * g + s % 16 ≡ s
    in_state s g h = omega arith

-- ---- what the lanes of a group learn
module _ (parents : List ℕ) (predictions : Planes) (input : Complex32) (g : ℕ) (w h d u error gain row weight : List Float)
    (is_u : u ≡ lanes_of 64 (λ l. symbols_of (16 * g + l) (parent_of parents (16 * g + l))))
    (is_error : error ≡ pairs_of 16 (λ l. difference_of input (point_at predictions (16 * g + l))))
    (is_gain : gain ≡ lanes_of 128 (λ l. gain_for (inverse_in w l) (four_in u l)))
    (is_row : row ≡ lanes_of 128 (λ l. crossed_of (inverse_in w l) (four_in u l)))
    (is_weight : weight ≡ upto (λ l. weight_of (inverse_in w l) (four_in u l)) 16) where
  abbrev us : ℕ → List Complex32
  us l = symbols_of (16 * g + l) (parent_of parents (16 * g + l))

  symbols_lane : (l : ℕ) → l < 16 → four_in u l ≡ us l
  symbols_lane l b = lane_is 64 4 us u l is_u refl b refl

  gain_lane : (l : ℕ) → l < 16 → row_in gain l ≡ gain_for (inverse_in w l) (us l)
  gain_lane l b =
      lane_is 128 8 (λ l. gain_for (inverse_in w l) (four_in u l)) gain l is_gain refl b (gain_length (inverse_in w l) (four_in u l))
      ∙ ap (gain_for (inverse_in w l)) (symbols_lane l b)

  row_lane : (l : ℕ) → l < 16 → row_in row l ≡ crossed_of (inverse_in w l) (us l)
  row_lane l b =
      lane_is 128 8 (λ l. crossed_of (inverse_in w l) (four_in u l)) row l is_row refl b (crossed_length (inverse_in w l) (four_in u l))
      ∙ ap (crossed_of (inverse_in w l)) (symbols_lane l b)

  weight_lane : (l : ℕ) → l < 16 → get_or weight l nan ≡ weight_of (inverse_in w l) (us l)
  weight_lane l b =
      ap (λ (z : List Float). get_or z l nan) is_weight ∙ upto_at (λ l. weight_of (inverse_in w l) (four_in u l)) 16 l nan b
      ∙ ap (weight_of (inverse_in w l)) (symbols_lane l b)

  error_lane : (l : ℕ) → l < 16 → pair_at 16 error l ≡ difference_of input (point_at predictions (16 * g + l))
  error_lane l b = ap (λ (z : List Float). pair_at 16 z l) is_error ∙ pairs_at 16 (λ l. difference_of input (point_at predictions (16 * g + l))) l b

  learnt_lane : (l : ℕ) → l < 16 → learnt_in w h d parents predictions input (16 * g + l)
      ≡ learnt_with (drift_at h (16 * g + l)) (drift_at d (16 * g + l)) (inverse_in w l) (us l) (difference_of input (point_at predictions (16 * g + l)))
  unfolding learnt_in
  learnt_lane l b =
      let q : (16 * g + l) % 16 ≡ l = omega arith in
      λ i. learnt_with (drift_at h (16 * g + l)) (drift_at d (16 * g + l)) (inverse_in w (q i)) (us l) (difference_of input (point_at predictions (16 * g + l)))

  moved_lane : (old : List Float) (from l : ℕ) → l < 16 → moved_from old gain from error weight (16 * g + l)
      ≡ moved_of (drift_at old (16 * g + l)) (gain_for (inverse_in w l) (us l)) from (difference_of input (point_at predictions (16 * g + l))) (is_usable (weight_of (inverse_in w l) (us l)))
  unfolding moved_from pair_in real_in
  moved_lane old from l b =
      let q : (16 * g + l) % 16 ≡ l = omega arith in
      (λ i. moved_of (drift_at old (16 * g + l)) (row_in gain (q i)) from (pair_at 16 error (q i)) (is_usable (get_or weight (q i) nan)))
      ∙ (λ i. moved_of (drift_at old (16 * g + l)) (gain_lane l b i) from (error_lane l b i) (is_usable (weight_lane l b i)))

  pub taps_learnt : (new : List Float) → new ≡ in_fours g (moved_from h gain 0 error weight) h → new ≡ in_fours g (λ s. (learnt_in w h d parents predictions input s).taps) h
  taps_learnt new n = n ∙ fours_same g (moved_from h gain 0 error weight) (λ s. (learnt_in w h d parents predictions input s).taps) h
      (λ l b. moved_lane h 0 l b ∙ sym (ap (λ (m : Model). m.taps) (learnt_lane l b)))

  pub drift_learnt : (new : List Float) → new ≡ in_fours g (moved_from d gain 4 error weight) d → new ≡ in_fours g (λ s. (learnt_in w h d parents predictions input s).drift) d
  drift_learnt new n = n ∙ fours_same g (moved_from d gain 4 error weight) (λ s. (learnt_in w h d parents predictions input s).drift) d
      (λ l b. moved_lane d 4 l b ∙ sym (ap (λ (m : Model). m.drift) (learnt_lane l b)))

  pub inverse_learnt : (all new : List Float) → new ≡ in_group g (inverse_after w gain row weight) all → new ≡ in_group g (λ s. (learnt_in w h d parents predictions input s).inverse) all
  inverse_learnt all new n = n ∙ group_same g (inverse_after w gain row weight) (λ s. (learnt_in w h d parents predictions input s).inverse) all at
    where
      at : (l : ℕ) → l < 16 → inverse_after w gain row weight (16 * g + l) ≡ (learnt_in w h d parents predictions input (16 * g + l)).inverse
      at l b =
          let q : (16 * g + l) % 16 ≡ l = omega arith in
          ap (λ (l : ℕ). renewed_of (get_or weight l nan) (settled_of (inverse_in w l) (row_in gain l) (row_in row l))) q
          ∙ (λ i. renewed_of (weight_lane l b i) (settled_of (inverse_in w l) (gain_lane l b i) (row_lane l b i)))
          ∙ sym (ap (λ (m : Model). m.inverse) (learnt_lane l b))

-- ---- group after group
module _ (f : ℕ → List Complex32) where
  unfoldable pub fours_to : ℕ → List Float → List Float
  fours_to g l = swept_to 256 (λ k. k % 64 / 16) (λ k. number_of (f (k % 64)) (k / 64)) g l

  pub fours_start : (l : List Float) → length l ≡ 512 → l ≡ fours_to 0 l
  unfolding fours_to
  fours_start l s = swept_start 256 (λ k. k % 64 / 16) (λ k. number_of (f (k % 64)) (k / 64)) l s

  pub fours_length : (g : ℕ) (l m : List Float) → m ≡ fours_to g l → length m ≡ 512
  unfolding fours_to
  fours_length g l m e = swept_length 256 (λ k. k % 64 / 16) (λ k. number_of (f (k % 64)) (k / 64)) g l m e

  pub fours_turn : (g : ℕ) (l m v : List Float) → v ≡ in_fours g f m → m ≡ fours_to g l → v ≡ fours_to (g + 1) l
  unfolding fours_to in_fours
  fours_turn g l m v e h =
      swept_turn 256 (λ k. k % 64 / 16) (λ k. number_of (f (k % 64)) (k / 64)) g l m v h
      (ap length e ∙ pairs_length 256 (λ k. cond (eqb (k % 64 / 16) g) (number_of (f (k % 64)) (k / 64)) (pair_at 256 m k)))
      (λ k b q. at k b ∙ rw (eq-eqb (k % 64 / 16) g q))
      (λ k b o. at k b ∙ rw (ne_eqb (k % 64 / 16) g o))
    where
      at : (k : ℕ) → k < 256 → pair_at 256 v k ≡ cond (eqb (k % 64 / 16) g) (number_of (f (k % 64)) (k / 64)) (pair_at 256 m k)
      at k b = ap (λ (z : List Float). pair_at 256 z k) e ∙ pairs_at 256 (λ k. cond (eqb (k % 64 / 16) g) (number_of (f (k % 64)) (k / 64)) (pair_at 256 m k)) k b

  -- the numbers of the groups to come are as they were
  fours_left : (g : ℕ) (l m : List Float) (n : ℕ) → m ≡ fours_to g l → g < 4 → n < 16 → drift_at m (16 * g + n) ≡ drift_at l (16 * g + n)
  unfolding fours_to drift_at
  fours_left g l m n e h b = upto_same (λ t. pair_at 256 m (64 * t + (16 * g + n))) (λ t. pair_at 256 l (64 * t + (16 * g + n))) 4 (λ t c.
      let r : (64 * t + (16 * g + n)) % 64 ≡ 16 * g + n = omega arith in
      let q : (64 * t + (16 * g + n)) % 64 / 16 ≡ g = rw r (omega arith) in
      swept_left 256 (λ k. k % 64 / 16) (λ k. number_of (f (k % 64)) (k / 64)) g l m (64 * t + (16 * g + n)) e (omega arith) (omega (arith, q)))

  pub fours_end : (g : ℕ) (l m : List Float) → m ≡ fours_to g l → g ≡ 4 → m ≡ drifts_of f
  unfolding fours_to drifts_of
  fours_end g l m e h = swept_end 256 (λ k. k % 64 / 16) (λ k. number_of (f (k % 64)) (k / 64)) g l m e (λ k b. omega arith)

  unfoldable pub inverses_to : ℕ → List Float → List Float
  inverses_to g l = swept_to 4096 (λ n. n / 1024) (λ n. get_or (f (state_at n)) (n / 4 % 64) zero_pair) g l

  pub inverses_start : (l : List Float) → length l ≡ 8192 → l ≡ inverses_to 0 l
  unfolding inverses_to
  inverses_start l s = swept_start 4096 (λ n. n / 1024) (λ n. get_or (f (state_at n)) (n / 4 % 64) zero_pair) l s

  pub inverses_length : (g : ℕ) (l m : List Float) → m ≡ inverses_to g l → length m ≡ 8192
  unfolding inverses_to
  inverses_length g l m e = swept_length 4096 (λ n. n / 1024) (λ n. get_or (f (state_at n)) (n / 4 % 64) zero_pair) g l m e

  pub inverses_turn : (g : ℕ) (l m v : List Float) → v ≡ in_group g f m → m ≡ inverses_to g l → v ≡ inverses_to (g + 1) l
  unfolding inverses_to in_group
  inverses_turn g l m v e h =
      swept_turn 4096 (λ n. n / 1024) (λ n. get_or (f (state_at n)) (n / 4 % 64) zero_pair) g l m v h
      (ap length e ∙ pairs_length 4096 (λ n. cond (eqb (n / 1024) g) (get_or (f (state_at n)) (n / 4 % 64) zero_pair) (pair_at 4096 m n)))
      (λ k b q. at k b ∙ rw (eq-eqb (k / 1024) g q))
      (λ k b o. at k b ∙ rw (ne_eqb (k / 1024) g o))
    where
      at : (k : ℕ) → k < 4096 → pair_at 4096 v k ≡ cond (eqb (k / 1024) g) (get_or (f (state_at k)) (k / 4 % 64) zero_pair) (pair_at 4096 m k)
      at k b = ap (λ (z : List Float). pair_at 4096 z k) e ∙ pairs_at 4096 (λ n. cond (eqb (n / 1024) g) (get_or (f (state_at n)) (n / 4 % 64) zero_pair) (pair_at 4096 m n)) k b

  pub inverses_end : (g : ℕ) (l m : List Float) → m ≡ inverses_to g l → g ≡ 4 → m ≡ inverses_of f
  unfolding inverses_to inverses_of
  inverses_end g l m e h = swept_end 4096 (λ n. n / 1024) (λ n. get_or (f (state_at n)) (n / 4 % 64) zero_pair) g l m e (λ k b. omega arith)

-- ---- each group goes on from its parents
module _ (taps drift inverse : List Float) (parents : List ℕ) (g : ℕ) (hg : g < 4) (predictions : Planes) (input : Complex32) where
  abbrev learnt : ℕ → Model
  learnt = learnt_from taps drift inverse parents predictions input

  module _ (w h d : List Float)
      (is_w : w ≡ lanes_of 1024 (λ l. foretold_of (inverse_of inverse (get_or parents (16 * g + l) 0))))
      (is_h : h ≡ fours_to (λ s. (learnt s).taps) g taps)
      (is_d : d ≡ fours_to (λ s. (learnt s).drift) g drift) where
    from_lane : (l : ℕ) → l < 16 → learnt_in w h d parents predictions input (16 * g + l) ≡ learnt (16 * g + l)
    unfolding learnt_in learnt_from learnt_of
    from_lane l b =
        let q : (16 * g + l) % 16 ≡ l = omega arith in
        let p : inverse_in w l ≡ foretold_of (inverse_of inverse (parent_of parents (16 * g + l))) =
        unfold parent_of in lane_is 1024 64 (λ l. foretold_of (inverse_of inverse (get_or parents (16 * g + l) 0))) w l is_w refl b (foretold_length _) in
        let t = fours_left (λ s. (learnt s).taps) g taps h l is_h hg b in
        let r = fours_left (λ s. (learnt s).drift) g drift d l is_d hg b in
        (λ i. learnt_with (drift_at h (16 * g + l)) (drift_at d (16 * g + l)) (inverse_in w (q i)) (symbols_of (16 * g + l) (parent_of parents (16 * g + l))) (difference_of input (point_at predictions (16 * g + l))))
        ∙ (λ i. learnt_with (t i) (r i) (p i) (symbols_of (16 * g + l) (parent_of parents (16 * g + l))) (difference_of input (point_at predictions (16 * g + l))))

    pub taps_turn : (v : List Float) → v ≡ in_fours g (λ s. (learnt_in w h d parents predictions input s).taps) h → v ≡ fours_to (λ s. (learnt s).taps) (g + 1) taps
    taps_turn v e = fours_turn (λ s. (learnt s).taps) g taps h v
        (e ∙ fours_same g (λ s. (learnt_in w h d parents predictions input s).taps) (λ s. (learnt s).taps) h (λ n b. ap (λ (x : Model). x.taps) (from_lane n b))) is_h

    pub drift_turn : (v : List Float) → v ≡ in_fours g (λ s. (learnt_in w h d parents predictions input s).drift) d → v ≡ fours_to (λ s. (learnt s).drift) (g + 1) drift
    drift_turn v e = fours_turn (λ s. (learnt s).drift) g drift d v
        (e ∙ fours_same g (λ s. (learnt_in w h d parents predictions input s).drift) (λ s. (learnt s).drift) d (λ n b. ap (λ (x : Model). x.drift) (from_lane n b))) is_d

    pub inverse_turn : (l m v : List Float) → v ≡ in_group g (λ s. (learnt_in w h d parents predictions input s).inverse) m → m ≡ inverses_to (λ s. (learnt s).inverse) g l → v ≡ inverses_to (λ s. (learnt s).inverse) (g + 1) l
    inverse_turn l m v e k = inverses_turn (λ s. (learnt s).inverse) g l m v
        (e ∙ group_same g (λ s. (learnt_in w h d parents predictions input s).inverse) (λ s. (learnt s).inverse) m (λ n b. ap (λ (x : Model). x.inverse) (from_lane n b))) k

pub inverse_kept : (inverse : List Float) (parents : List ℕ) (g : ℕ) (l m v : List Float) → v ≡ in_group g (λ s. inverse_of inverse (get_or parents s 0)) m
    → m ≡ inverses_to (λ s. inverse_of inverse (parent_of parents s)) g l → v ≡ inverses_to (λ s. inverse_of inverse (parent_of parents s)) (g + 1) l
unfolding parent_of
inverse_kept inverse parents g l m v e k = inverses_turn (λ s. inverse_of inverse (get_or parents s 0)) g l m v e k

-- ---- the planes before and after
joined_taps : (c : Planes) (all : List Float) (s : ℕ) → all ≡ joined_of c → s < 64 → drift_at all s ≡ taps_at c s
unfolding drift_at taps_at joined_of
joined_taps c all s e h =
    upto_same (λ t. pair_at 256 all (64 * t + s)) (λ t. point_at c (64 * t + s)) 4
    (λ t b. ap (λ (z : List Float). pair_at 256 z (64 * t + s)) e ∙ pairs_at 256 (point_at c) (64 * t + s) (omega arith))

split_channels : (f : ℕ → List Complex32) (all : List Float) → all ≡ drifts_of f
    → split_of all ≡ record { real = upto (λ k. (number_of (f (k % 64)) (k / 64)).real) 256; imaginary = upto (λ k. (number_of (f (k % 64)) (k / 64)).imaginary) 256 }
unfolding drifts_of
split_channels f all e =
    let at : (k : ℕ) → k < 256 → pair_at 256 all k ≡ number_of (f (k % 64)) (k / 64) =
    λ k b. ap (λ (z : List Float). pair_at 256 z k) e ∙ pairs_at 256 (λ k. number_of (f (k % 64)) (k / 64)) k b in
    let real_is = upto_same (λ k. get_or all k nan) (λ k. (number_of (f (k % 64)) (k / 64)).real) 256 (λ k b. ap (λ (z : Complex32). z.real) (at k b)) in
    let imaginary_is = upto_same (λ k. get_or all (k + 256) nan) (λ k. (number_of (f (k % 64)) (k / 64)).imaginary) 256 (λ k b. ap (λ (z : Complex32). z.imaginary) (at k b)) in
    λ i. record { real = real_is i; imaginary = imaginary_is i }

-- every state's number is its model's
laid_same : (f h : ℕ → Model) → ((s : ℕ) → s < 64 → f s ≡ h s) → laid_out f ≡ laid_out h
unfolding laid_out drifts_of inverses_of
laid_same f h same =
    let a = upto_same (λ k. (number_of (f (k % 64)).taps (k / 64)).real) (λ k. (number_of (h (k % 64)).taps (k / 64)).real) 256 (λ k b. ap (λ (m : Model). (number_of m.taps (k / 64)).real) (same (k % 64) (omega arith))) in
    let b = upto_same (λ k. (number_of (f (k % 64)).taps (k / 64)).imaginary) (λ k. (number_of (h (k % 64)).taps (k / 64)).imaginary) 256 (λ k b. ap (λ (m : Model). (number_of m.taps (k / 64)).imaginary) (same (k % 64) (omega arith))) in
    let c = pairs_same 256 (λ k. number_of (f (k % 64)).drift (k / 64)) (λ k. number_of (h (k % 64)).drift (k / 64)) (λ k b. ap (λ (m : Model). number_of m.drift (k / 64)) (same (k % 64) (omega arith))) in
    let d = pairs_same 4096 (λ n. get_or (f (state_at n)).inverse (n / 4 % 64) zero_pair) (λ n. get_or (h (state_at n)).inverse (n / 4 % 64) zero_pair) (λ n b. ap (λ (m : Model). get_or m.inverse (n / 4 % 64) zero_pair) (same (state_at n) (omega arith))) in
    λ i. record { channels = record { real = a i; imaginary = b i }; drift = c i; inverse = d i }
  where
    pairs_same : (half : ℕ) (f h : ℕ → Complex32) → ((k : ℕ) → k < half → f k ≡ h k) → pairs_of half f ≡ pairs_of half h
    pairs_same half f h same = pairs_is half h (pairs_of half f) (pairs_length half f) (λ k b. pairs_at half f k b ∙ same k b)

module _ (c : Planes) (drift inverse joined taps new : List Float) (parents : List ℕ) (below : Parents parents) (is_joined : joined ≡ joined_of c)
    (is_taps : taps ≡ drifts_of (λ s. drift_at joined (parent_of parents s)))
    (is_new : new ≡ drifts_of (λ s. drift_at drift (parent_of parents s))) where
  abbrev memory : Memory
  memory = record { channels = c; drift = drift; inverse = inverse }

  parent_taps : (s : ℕ) → s < 64 → drift_at joined (parent_of parents s) ≡ taps_at c (parent_of parents s)
  parent_taps s h = joined_taps c joined (parent_of parents s) is_joined (unfold parent_of in below.below s h)

  heir_is : (s : ℕ) → s < 64 → heir_of taps new inverse parents s ≡ model_at memory (parent_of parents s)
  heir_is s h =
      let p = drifts_at (λ s. drift_at joined (parent_of parents s)) taps s is_taps h (drift_length joined (parent_of parents s)) ∙ parent_taps s h in
      let q = drifts_at (λ s. drift_at drift (parent_of parents s)) new s is_new h (drift_length drift (parent_of parents s)) in
      λ i. record { taps = p i; drift = q i; inverse = inverse_of inverse (parent_of parents s) }

  module _ (predictions : Planes) (input : Complex32) (reliable : Bool) (planes : Planes) (all after next : List Float) where
    laid : (f : ℕ → Model) → all ≡ drifts_of (λ s. (f s).taps) → planes ≡ split_of all → after ≡ drifts_of (λ s. (f s).drift) → next ≡ inverses_of (λ s. (f s).inverse)
        → ◌≡◌ {A = Memory} (record { channels = planes; drift = after; inverse = next }) (laid_out f)
    unfolding laid_out
    laid f a p n x = let q = p ∙ split_channels (λ s. (f s).taps) all a in λ i. record { channels = q i; drift = n i; inverse = x i }

    pub followed_yes : reliable ≡ true
        → all ≡ drifts_of (λ s. (learnt_from taps new inverse parents predictions input s).taps) → planes ≡ split_of all
        → after ≡ drifts_of (λ s. (learnt_from taps new inverse parents predictions input s).drift)
        → next ≡ inverses_of (λ s. (learnt_from taps new inverse parents predictions input s).inverse)
        → ◌≡◌ {A = Memory} (record { channels = planes; drift = after; inverse = next }) (followed_of memory parents predictions input reliable)
    unfolding followed_of
    followed_yes t is_all is_planes is_after is_next =
        laid (learnt_from taps new inverse parents predictions input) is_all is_planes is_after is_next
        ∙ laid_same (learnt_from taps new inverse parents predictions input) (model_after memory parents predictions input reliable) at
      where
        at : (s : ℕ) → s < 64 → learnt_from taps new inverse parents predictions input s ≡ model_after memory parents predictions input reliable s
        at s h = unfold learnt_from in unfold model_after in rw t (ap (λ (m : Model). learnt_of m (symbols_of s (parent_of parents s)) (difference_of input (point_at predictions s))) (heir_is s h))

    pub followed_no : reliable ≡ false → planes ≡ split_of taps → next ≡ inverses_of (λ s. inverse_of inverse (parent_of parents s))
        → all ≡ taps → after ≡ new → ◌≡◌ {A = Memory} (record { channels = planes; drift = after; inverse = next }) (followed_of memory parents predictions input reliable)
    unfolding followed_of
    followed_no t is_planes is_next is_all is_after =
        laid kept (is_all ∙ is_taps) (is_planes ∙ ap split_of (sym is_all)) (is_after ∙ is_new) is_next
        ∙ laid_same kept (model_after memory parents predictions input reliable) at
      where
        kept : ℕ → Model
        kept s = record { taps = drift_at joined (parent_of parents s); drift = drift_at drift (parent_of parents s); inverse = inverse_of inverse (parent_of parents s) }

        at : (s : ℕ) → s < 64 → kept s ≡ model_after memory parents predictions input reliable s
        at s h =
            let p = parent_taps s h in
            unfold model_after in rw t (λ i. record { taps = p i; drift = drift_at drift (parent_of parents s); inverse = inverse_of inverse (parent_of parents s) })

pub drifts_length : (f : ℕ → List Complex32) (l : List Float) → l ≡ drifts_of f → length l ≡ 512
unfolding drifts_of
drifts_length f l e = ap length e ∙ pairs_length 256 _
