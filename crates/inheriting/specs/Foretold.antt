-- The room of the parents' inverses one symbol on: what the proofs of its filling apply, over plain variables. Assumes nothing.
use Rattle.std.specs.Prelude.{◌≡◌, Bool, true, List, ltb, length, get_or, Float}
use Rattle.std.proofs.Math.Path.{refl, ap, sym}
use Rattle.std.proofs.Common.{◌∙◌, lt-ltb, le-ltb}
use Prim.Native.Nat.{ℕ, zero, suc, ◌+◌, ◌*◌, ◌/◌, ◌%◌, ◌≤◌, ◌<◌}
use native.Mathlib.Omega.{arith}
use Rattle.std.proofs.Math.Bool.{cond}
use Rattle.laws.specs.Turns.{turns, turns_start, turns_step, turns_end}
use Rattle.laws.specs.Places.{upto_at}
use Rattle.complex.specs.declared.Complex32.{Complex32}
use Rattle.complex.specs.Complex.{zero_pair, sum_of}
use Rattle.least_squares.specs.Lanes.{pair_at, in_lanes, lanes_of, inverse_of}
use Rattle.least_squares.specs.LeastSquares.{entry_of, table_of, lower_added, right_added, foretold_of}
use Rattle.lane_sums.specs.LaneLaws.{in_lane, swept_to, swept_start, swept_end}
use Rattle.inheriting.specs.Inheriting.{place_of, alike_of, put_four, here_of, right_of, below_of, across_of, quarters_put, number_at, lane_at, foretell_turn, foretold_put}
use Rattle.inheriting.specs.Laws.{alike_laid, four_next, inverse_at}

-- ---- the four quarters of an inverse one symbol on
table_at : (f : ℕ → ℕ → Complex32) (i j : ℕ) → i < 8 → j < 8 → entry_of (table_of f) i j ≡ f i j
unfolding table_of
table_at f i j h k =
    let d : (8 * i + j) / 8 ≡ i = omega arith in
    let m : (8 * i + j) % 8 ≡ j = omega arith in
    upto_at (λ e. f (e / 8) (e % 8)) 64 (8 * i + j) zero_pair (omega arith) ∙ (λ z. f (d z) (m z))

module _ (p : List Complex32) (i j : ℕ) where
  lower_above : i < 4 → j < 8 → entry_of (lower_added p) i j ≡ sum_of (entry_of p i j) (entry_of p (i + 4) j)
  unfolding lower_added
  lower_above h k = table_at (λ i j. cond (ltb i 4) (sum_of (entry_of p i j) (entry_of p (i + 4) j)) (entry_of p i j)) i j (omega arith) k ∙ rw (lt-ltb i 4 h)

  lower_below : 4 ≤ i → i < 8 → j < 8 → entry_of (lower_added p) i j ≡ entry_of p i j
  unfolding lower_added
  lower_below g h k = table_at (λ i j. cond (ltb i 4) (sum_of (entry_of p i j) (entry_of p (i + 4) j)) (entry_of p i j)) i j h k ∙ rw (le-ltb i 4 g)

  right_left : i < 8 → j < 4 → entry_of (right_added p) i j ≡ sum_of (entry_of p i j) (entry_of p i (j + 4))
  unfolding right_added
  right_left h k = table_at (λ i j. cond (ltb j 4) (sum_of (entry_of p i j) (entry_of p i (j + 4))) (entry_of p i j)) i j h (omega arith) ∙ rw (lt-ltb j 4 k)

  right_right : i < 8 → 4 ≤ j → j < 8 → entry_of (right_added p) i j ≡ entry_of p i j
  unfolding right_added
  right_right h g k = table_at (λ i j. cond (ltb j 4) (sum_of (entry_of p i j) (entry_of p i (j + 4))) (entry_of p i j)) i j h k ∙ rw (le-ltb j 4 g)

-- from the place of a number of the upper left one
module _ (old : List Float) (s i j at : ℕ) (h : i < 4) (k : j < 4) (e : at ≡ place_of s + (32 * i + 4 * j)) where
  abbrev inverse : List Complex32
  inverse = inverse_of old s

  number_here : entry_of inverse i j ≡ pair_at 4096 old at
  number_here = inverse_at old s (8 * i + j) at (omega arith) (omega arith)

  number_right : entry_of inverse i (j + 4) ≡ pair_at 4096 old (at + 16)
  number_right = inverse_at old s (8 * i + (j + 4)) (at + 16) (omega arith) (omega arith)

  number_below : entry_of inverse (i + 4) j ≡ pair_at 4096 old (at + 128)
  number_below = inverse_at old s (8 * (i + 4) + j) (at + 128) (omega arith) (omega arith)

  number_across : entry_of inverse (i + 4) (j + 4) ≡ pair_at 4096 old (at + 144)
  number_across = inverse_at old s (8 * (i + 4) + (j + 4)) (at + 144) (omega arith) (omega arith)

  here_is : here_of old at ≡ entry_of (foretold_of inverse) i j
  unfolding foretold_of
  here_is = sym (
      right_left (lower_added inverse) i j (omega arith) k
      ∙ (λ z. sum_of (lower_above inverse i j h (omega arith) z) (lower_above inverse i (j + 4) h (omega arith) z))
      ∙ (λ z. sum_of (sum_of (number_here z) (number_below z)) (sum_of (number_right z) (number_across z))))

  right_is : right_of old at ≡ entry_of (foretold_of inverse) i (j + 4)
  unfolding foretold_of
  right_is = sym (
      right_right (lower_added inverse) i (j + 4) (omega arith) (omega arith) (omega arith)
      ∙ lower_above inverse i (j + 4) h (omega arith)
      ∙ (λ z. sum_of (number_right z) (number_across z)))

  below_is : below_of old at ≡ entry_of (foretold_of inverse) (i + 4) j
  unfolding foretold_of
  below_is = sym (
      right_left (lower_added inverse) (i + 4) j (omega arith) k
      ∙ (λ z. sum_of (lower_below inverse (i + 4) j (omega arith) (omega arith) (omega arith) z) (lower_below inverse (i + 4) (j + 4) (omega arith) (omega arith) (omega arith) z))
      ∙ (λ z. sum_of (number_below z) (number_across z)))

  across_is : across_of old at ≡ entry_of (foretold_of inverse) (i + 4) (j + 4)
  unfolding foretold_of
  across_is = sym (
      right_right (lower_added inverse) (i + 4) (j + 4) (omega arith) (omega arith) (omega arith)
      ∙ lower_below inverse (i + 4) (j + 4) (omega arith) (omega arith) (omega arith)
      ∙ number_across)

-- ---- the turn in which a place of the room is written

-- of the number in row i and column j: its place in a quarter, and then the quarter
abbrev pub quarter_turn : ℕ → ℕ → ℕ
quarter_turn i j = 16 * (i % 4) + 4 * (j % 4) + (2 * (i / 4) + j / 4)

abbrev pub take_turn : ℕ → ℕ
take_turn k = 64 * (k % 16 / 4) + quarter_turn (k / 16 / 8) (k / 16 % 8)

quarter_below : (i j : ℕ) → i < 8 → j < 8 → quarter_turn i j < 64
quarter_below i j h k = omega arith

digits_same : (a b c d a' b' c' d' : ℕ) → b < 4 → c < 2 → d < 2 → b' < 4 → c' < 2 → d' < 2
    → 16 * a + 4 * b + (2 * c + d) ≡ 16 * a' + 4 * b' + (2 * c' + d') → (a ≡ a') × (b ≡ b') × (c ≡ c') × (d ≡ d')
digits_same a b c d a' b' c' d' h1 h2 h3 h4 h5 h6 e = (omega arith, omega arith, omega arith, omega arith)

number_same : (i j : ℕ) → i / 4 ≡ j / 4 → i % 4 ≡ j % 4 → i ≡ j
number_same i j p q = omega arith

quarter_same : (i j x y : ℕ) → i < 8 → j < 8 → x < 8 → y < 8 → quarter_turn i j ≡ quarter_turn x y → (i ≡ x) × (j ≡ y)
quarter_same i j x y h1 h2 h3 h4 e =
    let d = digits_same (i % 4) (j % 4) (i / 4) (j / 4) (x % 4) (y % 4) (x / 4) (y / 4) (omega arith) (omega arith) (omega arith) (omega arith) (omega arith) (omega arith) e in
    (number_same i x d.2 d.0, number_same j y d.3 d.1)

-- a number of the upper left quarter, and those of the other quarters after it
module _ (i j : ℕ) (h : i < 4) (k : j < 4) where
  row_same : i % 4 ≡ i
  row_same = omega arith

  row_down : (i + 4) % 4 ≡ i
  row_down = omega arith

  row_first : i / 4 ≡ 0
  row_first = omega arith

  row_second : (i + 4) / 4 ≡ 1
  row_second = omega arith

  column_same : j % 4 ≡ j
  column_same = omega arith

  column_on : (j + 4) % 4 ≡ j
  column_on = omega arith

  column_first : j / 4 ≡ 0
  column_first = omega arith

  column_second : (j + 4) / 4 ≡ 1
  column_second = omega arith

  turn_here : quarter_turn i j ≡ 16 * i + 4 * j
  turn_here = rw (row_same, column_same, row_first, column_first) (omega arith)

  turn_right : quarter_turn i (j + 4) ≡ 16 * i + 4 * j + 1
  turn_right = rw (row_same, column_on, row_first, column_second) (omega arith)

  turn_under : quarter_turn (i + 4) j ≡ 16 * i + 4 * j + 2
  turn_under = rw (row_down, column_same, row_second, column_first) (omega arith)

  turn_across : quarter_turn (i + 4) (j + 4) ≡ 16 * i + 4 * j + 3
  turn_across = rw (row_down, column_on, row_second, column_second) (omega arith)

add_two : (n : ℕ) → n + 1 + 1 ≡ n + 2
add_two n = omega arith

add_three : (n : ℕ) → n + 1 + 1 + 1 ≡ n + 3
add_three n = omega arith

turn_number : (n m x y q : ℕ) → n ≡ 64 * m + x → q ≡ x + y → n + y ≡ 64 * m + q
turn_number n m x y q e h = omega arith

turn_split : (x y m e : ℕ) → y < 64 → e < 64 → 64 * x + y ≡ 64 * m + e → (x ≡ m) × (y ≡ e)
turn_split x y m e h b q = (omega arith, omega arith)

row_of : (y i j : ℕ) → y / 8 ≡ i → y % 8 ≡ j → y ≡ 8 * i + j
row_of y i j p q = omega arith

lane_low : (r m : ℕ) → r / 4 ≡ m → (4 * m ≤ r) × (r < 4 * m + 4)
lane_low r m q = (omega arith, omega arith)

in_range : (k at m i j : ℕ) → at ≡ 4 * m + (128 * i + 16 * j) → k / 16 ≡ 8 * i + j → 4 * m ≤ k % 16 → k % 16 < 4 * m + 4 → (at ≤ k) × (k < at + 4)
in_range k at m i j e n low high = (omega arith, omega arith)

turn_below : (x y m : ℕ) → x < 4 → y < 64 → 4 ≤ m → 64 * x + y < 64 * m
turn_below x y m h b c = omega arith

module _ (k at m i j : ℕ) (b : m < 4) (h : i < 8) (c : j < 8) (e : at ≡ 4 * m + (128 * i + 16 * j)) where
  take_turn_lem : at ≤ k → k < at + 4 → take_turn k ≡ 64 * m + quarter_turn i j
  take_turn_lem low high =
      let d : k / 16 ≡ 8 * i + j = omega arith in
      let r : 4 * m ≤ k % 16 = omega arith in
      let s : k % 16 < 4 * m + 4 = omega arith in
      let q : k % 16 / 4 ≡ m = omega (arith, r, s) in
      let x : (8 * i + j) / 8 ≡ i = omega (arith, c) in
      let y : (8 * i + j) % 8 ≡ j = omega (arith, c) in
      rw (q, d, x, y)

  take_back : k < 1024 → take_turn k ≡ 64 * m + quarter_turn i j → (at ≤ k) × (k < at + 4)
  take_back s t =
      let x : k / 16 / 8 < 8 = omega arith in
      let y : k / 16 % 8 < 8 = omega arith in
      let d = turn_split (k % 16 / 4) (quarter_turn (k / 16 / 8) (k / 16 % 8)) m (quarter_turn i j) (quarter_below (k / 16 / 8) (k / 16 % 8) x y) (quarter_below i j h c) t in
      let q = quarter_same (k / 16 / 8) (k / 16 % 8) i j x y h c d.1 in
      let r = lane_low (k % 16) m d.0 in
      in_range k at m i j e (row_of (k / 16) i j q.0 q.1) r.0 r.1

-- ---- the loop over the numbers of four inverses
module _ (old : List Float) (a b c d to : ℕ) where
  pub foretold_start : (l : List Float) → l ≡ foretold_put old a b c d to 0 l
  unfolding foretold_put
  foretold_start l = turns_start _ _

  pub foretold_step : (n : ℕ) (l m v : List Float) → v ≡ foretell_turn old a b c d to n m → m ≡ foretold_put old a b c d to n l → v ≡ foretold_put old a b c d to (n + 1) l
  unfolding foretold_put
  foretold_step n l m v e h = e ∙ turns_step (foretell_turn old a b c d to) n l m h

  pub foretold_end : (n : ℕ) (l m : List Float) → m ≡ foretold_put old a b c d to n l → n ≤ 16 → 16 ≤ n → m ≡ foretold_put old a b c d to 16 l
  unfolding foretold_put
  foretold_end n l m h p q = turns_end (foretell_turn old a b c d to) n 16 l m h p q

  pub foretold_alike : (l v : List Float) (r : Bool) → r ≡ alike_of a b c d → r ≡ true → v ≡ foretold_put old a a a a to 16 l → v ≡ foretold_put old a b c d to 16 l
  foretold_alike l v r e h q = alike_laid (λ a b c d. foretold_put old a b c d to 16 l) a b c d v r e h q

-- what the four stores of a turn make, from what they were given
pub quarters_is : (old : List Float) (a b c d at : ℕ) (m m1 m2 m3 m4 : List Float) (ha hb hc hd ra rb rc rd ba bb bc bd xa xb xc xd : Complex32)
    → ha ≡ here_of old a → hb ≡ here_of old b → hc ≡ here_of old c → hd ≡ here_of old d
    → ra ≡ right_of old a → rb ≡ right_of old b → rc ≡ right_of old c → rd ≡ right_of old d
    → ba ≡ below_of old a → bb ≡ below_of old b → bc ≡ below_of old c → bd ≡ below_of old d
    → xa ≡ across_of old a → xb ≡ across_of old b → xc ≡ across_of old c → xd ≡ across_of old d
    → m1 ≡ put_four 1024 m at ha hb hc hd → m2 ≡ put_four 1024 m1 (at + 64) ra rb rc rd
    → m3 ≡ put_four 1024 m2 (at + 512) ba bb bc bd → m4 ≡ put_four 1024 m3 (at + 576) xa xb xc xd
    → m4 ≡ quarters_put old a b c d at m
unfolding quarters_put
quarters_is old a b c d at m m1 m2 m3 m4 ha hb hc hd ra rb rc rd ba bb bc bd xa xb xc xd h1 h2 h3 h4 r1 r2 r3 r4 b1 b2 b3 b4 x1 x2 x3 x4 e1 e2 e3 e4 =
    let p1 = e1 ∙ (λ i. put_four 1024 m at (h1 i) (h2 i) (h3 i) (h4 i)) in
    let p2 = e2 ∙ (λ i. put_four 1024 (p1 i) (at + 64) (r1 i) (r2 i) (r3 i) (r4 i)) in
    let p3 = e3 ∙ (λ i. put_four 1024 (p2 i) (at + 512) (b1 i) (b2 i) (b3 i) (b4 i)) in
    e4 ∙ (λ i. put_four 1024 (p3 i) (at + 576) (x1 i) (x2 i) (x3 i) (x4 i))

-- ---- the room
module _ (old : List Float) (parents : List ℕ) (g : ℕ) where
  abbrev taken : ℕ → List Complex32
  taken l = foretold_of (inverse_of old (get_or parents (16 * g + l) 0))

  abbrev sweep : ℕ → List Float → List Float
  sweep n l = swept_to 1024 take_turn (in_lanes taken) n l

  -- after n turns
  unfoldable pub taken_to : ℕ → List Float → List Float
  taken_to n l = sweep n l

  -- the number in row i and column j of the lane 4 m + n
  taken_at : (m n i j k s : ℕ) (z : Complex32) → 4 * m + n < 16 → s ≡ 16 * g + 4 * m + n → k ≡ 4 * m + (128 * i + 16 * j) + n
      → z ≡ entry_of (foretold_of (inverse_of old (get_or parents s 0))) i j → z ≡ in_lanes taken k
  taken_at m n i j k s z h es ek e =
      let q : k ≡ 16 * (8 * i + j) + (4 * m + n) = omega arith in
      let r : s ≡ 16 * g + (4 * m + n) = omega arith in
      e
      ∙ ap (λ (x : ℕ). entry_of (foretold_of (inverse_of old (get_or parents x 0))) i j) r
      ∙ sym (ap (in_lanes taken) q ∙ in_lane taken (8 * i + j) (4 * m + n) h)

  -- four states' number in row i and column j
  four_taken : (m i j at n : ℕ) (given r : List Float) (x y z w : Complex32) → m < 4 → i < 8 → j < 8
      → at ≡ 4 * m + (128 * i + 16 * j) → n ≡ 64 * m + quarter_turn i j → r ≡ sweep n given
      → x ≡ entry_of (foretold_of (inverse_of old (get_or parents (16 * g + 4 * m) 0))) i j
      → y ≡ entry_of (foretold_of (inverse_of old (get_or parents (16 * g + 4 * m + 1) 0))) i j
      → z ≡ entry_of (foretold_of (inverse_of old (get_or parents (16 * g + 4 * m + 2) 0))) i j
      → w ≡ entry_of (foretold_of (inverse_of old (get_or parents (16 * g + 4 * m + 3) 0))) i j
      → put_four 1024 r at x y z w ≡ sweep (n + 1) given
  four_taken m i j at n given r x y z w b h c e t q fx fy fz fw =
      four_next 1024 take_turn (in_lanes taken) n given r at x y z w q (omega arith)
      (taken_at m 0 i j at (16 * g + 4 * m) x (omega arith) (omega arith) (omega arith) fx)
      (taken_at m 1 i j (at + 1) (16 * g + 4 * m + 1) y (omega arith) refl (omega arith) fy)
      (taken_at m 2 i j (at + 2) (16 * g + 4 * m + 2) z (omega arith) refl (omega arith) fz)
      (taken_at m 3 i j (at + 3) (16 * g + 4 * m + 3) w (omega arith) refl (omega arith) fw)
      (λ k s u. take_back k at m i j b h c e s (u ∙ t))
      (λ k low high. take_turn_lem k at m i j b h c e low high ∙ sym t)

  module _ (m a b c d : ℕ) (h : m < 4)
      (ea : a ≡ place_of (get_or parents (16 * g + 4 * m) 0))
      (eb : b ≡ place_of (get_or parents (16 * g + 4 * m + 1) 0))
      (ec : c ≡ place_of (get_or parents (16 * g + 4 * m + 2) 0))
      (ed : d ≡ place_of (get_or parents (16 * g + 4 * m + 3) 0))
      (given : List Float) where
    -- the number in row i and column j of the upper left quarter, and those of the other quarters
    quarters_taken : (i j at k n : ℕ) (r : List Float) → i < 4 → j < 4 → at ≡ 4 * m + (128 * i + 16 * j) → k ≡ 32 * i + 4 * j → n ≡ 64 * m + (16 * i + 4 * j)
        → r ≡ sweep n given → quarters_put old (a + k) (b + k) (c + k) (d + k) at r ≡ sweep (n + 4) given
    unfolding quarters_put
    quarters_taken i j at k n r hi hj eat ek en q =
        let pa : a + k ≡ place_of (get_or parents (16 * g + 4 * m) 0) + (32 * i + 4 * j) = λ z. ea z + ek z in
        let pb : b + k ≡ place_of (get_or parents (16 * g + 4 * m + 1) 0) + (32 * i + 4 * j) = λ z. eb z + ek z in
        let pc : c + k ≡ place_of (get_or parents (16 * g + 4 * m + 2) 0) + (32 * i + 4 * j) = λ z. ec z + ek z in
        let pd : d + k ≡ place_of (get_or parents (16 * g + 4 * m + 3) 0) + (32 * i + 4 * j) = λ z. ed z + ek z in
        let one = four_taken m i j at n given r (here_of old (a + k)) (here_of old (b + k)) (here_of old (c + k)) (here_of old (d + k)) h (omega arith) (omega arith) eat (en ∙ ap (λ (x : ℕ). 64 * m + x) (sym (turn_here i j hi hj))) q
        (here_is old _ i j (a + k) hi hj pa) (here_is old _ i j (b + k) hi hj pb) (here_is old _ i j (c + k) hi hj pc) (here_is old _ i j (d + k) hi hj pd) in
        let two = four_taken m i (j + 4) (at + 64) (n + 1) given _ (right_of old (a + k)) (right_of old (b + k)) (right_of old (c + k)) (right_of old (d + k)) h (omega arith) (omega arith) (omega arith) (turn_number n m (16 * i + 4 * j) 1 _ en (turn_right i j hi hj)) one
        (right_is old _ i j (a + k) hi hj pa) (right_is old _ i j (b + k) hi hj pb) (right_is old _ i j (c + k) hi hj pc) (right_is old _ i j (d + k) hi hj pd) in
        let three = four_taken m (i + 4) j (at + 512) (n + 1 + 1) given _ (below_of old (a + k)) (below_of old (b + k)) (below_of old (c + k)) (below_of old (d + k)) h (omega arith) (omega arith) (omega arith) (add_two n ∙ turn_number n m (16 * i + 4 * j) 2 _ en (turn_under i j hi hj)) two
        (below_is old _ i j (a + k) hi hj pa) (below_is old _ i j (b + k) hi hj pb) (below_is old _ i j (c + k) hi hj pc) (below_is old _ i j (d + k) hi hj pd) in
        let four = four_taken m (i + 4) (j + 4) (at + 576) (n + 1 + 1 + 1) given _ (across_of old (a + k)) (across_of old (b + k)) (across_of old (c + k)) (across_of old (d + k)) h (omega arith) (omega arith) (omega arith) (add_three n ∙ turn_number n m (16 * i + 4 * j) 3 _ en (turn_across i j hi hj)) three
        (across_is old _ i j (a + k) hi hj pa) (across_is old _ i j (b + k) hi hj pb) (across_is old _ i j (c + k) hi hj pc) (across_is old _ i j (d + k) hi hj pd) in
        let more : n + 1 + 1 + 1 + 1 ≡ n + 4 = omega arith in
        four ∙ ap (λ (x : ℕ). sweep x given) more

    take_some : (n : ℕ) (r : List Float) → n ≤ 16 → r ≡ sweep (64 * m) given → foretold_put old a b c d (4 * m) n r ≡ sweep (64 * m + 4 * n) given
    unfolding foretold_put turns
    take_some zero r u q = let s : 64 * m ≡ 64 * m + 4 * zero = omega arith in q ∙ ap (λ (x : ℕ). sweep x given) s
    take_some (suc n) r u q =
        let s : 64 * m + 4 * n + 4 ≡ 64 * m + 4 * suc n = omega arith in
        quarters_taken (n / 4) (n % 4) (4 * m + lane_at n) (number_at n) (64 * m + 4 * n) (foretold_put old a b c d (4 * m) n r) (omega arith) (omega arith) refl refl (omega arith)
        (take_some n r (omega arith) q)
        ∙ ap (λ (x : ℕ). sweep x given) s

    pub take_step : (r v : List Float) → v ≡ foretold_put old a b c d (4 * m) 16 r → r ≡ taken_to (64 * m) given → v ≡ taken_to (64 * (m + 1)) given
    unfolding taken_to
    take_step r v e q = let s : 64 * m + 4 * 16 ≡ 64 * (m + 1) = omega arith in e ∙ take_some 16 r (omega arith) q ∙ ap (λ (x : ℕ). sweep x given) s

  pub take_start : (l : List Float) → length l ≡ 2048 → l ≡ taken_to 0 l
  unfolding taken_to
  take_start l s = swept_start 1024 take_turn (in_lanes taken) l s

  pub take_end : (m : ℕ) (l v : List Float) → v ≡ taken_to (64 * m) l → m ≤ 4 → 4 ≤ m → v ≡ lanes_of 1024 taken
  unfolding taken_to lanes_of
  take_end m l v e p q = swept_end 1024 take_turn (in_lanes taken) (64 * m) l v e (λ k b.
      turn_below (k % 16 / 4) (quarter_turn (k / 16 / 8) (k / 16 % 8)) m (omega arith) (quarter_below (k / 16 / 8) (k / 16 % 8) (omega arith) (omega arith)) q)
