-- Four lanes of a number and of the one across the diagonal, as they are stored: one turn of a quad. Assumes nothing.
use Rattle.std.specs.Prelude.{◌≡◌, ◌⊎◌, ℕ, ◌+◌, ◌-◌, ◌*◌, ◌/◌, ◌%◌, ◌≤◌, ◌<◌, List, length, Float}
use Rattle.std.proofs.Common.{ap, sym, ◌∙◌, inl, inr, ⊎_elim, arith}
use Rattle.std.specs.Float.Ieee.{neg}
use Rattle.laws.specs.Ring.{lt_or_ge}
use Rattle.complex.specs.declared.Complex32.{Complex32}
use Rattle.least_squares.specs.Lanes.{pair_at}
use Rattle.least_squares.specs.LeastSquares.{conjugate_of}
use Rattle.least_squares.specs.Layout.{settled_at}
use Rattle.settling.specs.Layout.{four_of, turned, swept, pair_turn, quad_at, settled_number}
use Rattle.settling.specs.Sweeps.{place_of, turned_is, swept_length, swept_in, swept_out, swept_turn, swept_skip}
use Rattle.settling.specs.Stores.{pairs_four_length, pairs_four_out, pairs_four_in}
use Rattle.settling.specs.Numbers.{number_of_place, lane_of_place, settled_above, settled_below}

-- ---- the turn of a place, and the places of a turn
pub turn_parts : (a b c q i j : ℕ) → a < 8 → b < 8 → i ≤ j → j < 8 → 8 * (a - (a - b)) + (a + (b - a)) + 128 * (c - q + (q - c)) ≡ 8 * i + j
    → (c ≡ q) × (((a ≡ i) × (b ≡ j)) ⊎ ((a ≡ j) × (b ≡ i)))
turn_parts a b c q i j ha hb o hj e =
    let s : c ≡ q = omega arith in (
      s,
      ⊎_elim
          (λ h. let m : a - (a - b) ≡ a = omega arith in
          let p : a + (b - a) ≡ b = omega arith in
          inl (omega arith, omega arith))
          (λ h. let m : a - (a - b) ≡ b = omega arith in
          let p : a + (b - a) ≡ a = omega arith in
          inr (omega arith, omega arith))
          (lt_or_ge a b),
    )

pub place_is : (n a b c : ℕ) → n / 32 % 8 ≡ a → n / 4 % 8 ≡ b → n / 256 ≡ c → (256 * c + 32 * a + 4 * b ≤ n) × (n < 256 * c + 32 * a + 4 * b + 4)
place_is n a b c p q r = (omega arith, omega arith)

pub turn_places : (q i j n : ℕ) → i ≤ j → j < 8 → pair_turn q n ≡ 8 * i + j
    → ((256 * q + 32 * i + 4 * j ≤ n) × (n < 256 * q + 32 * i + 4 * j + 4)) ⊎ ((256 * q + 32 * j + 4 * i ≤ n) × (n < 256 * q + 32 * j + 4 * i + 4))
turn_places q i j n o h e =
    let s = turn_parts (n / 32 % 8) (n / 4 % 8) (n / 256) q i j (omega arith) (omega arith) o h e in
    ⊎_elim
    (λ p. inl (place_is n i j q p.0 p.1 s.0))
    (λ p. inr (place_is n j i q p.0 p.1 s.0))
    s.1

pub place_turn : (q a b n : ℕ) → a < 8 → b < 8 → 256 * q + 32 * a + 4 * b ≤ n → n < 256 * q + 32 * a + 4 * b + 4 → pair_turn q n ≡ 8 * (a - (a - b)) + (a + (b - a))
place_turn q a b n ha hb low high =
    let c : n / 256 ≡ q = omega arith in
    let d : n / 32 % 8 ≡ a = omega arith in
    let e : n / 4 % 8 ≡ b = omega arith in
    let z : 128 * (q - q + (q - q)) ≡ 0 = omega arith in
    rw (c, d, e, z) (omega arith)

pub turn_here : (q i j n : ℕ) → i ≤ j → j < 8 → 256 * q + 32 * i + 4 * j ≤ n → n < 256 * q + 32 * i + 4 * j + 4 → pair_turn q n ≡ 8 * i + j
turn_here q i j n o h low high = let e : 8 * (i - (i - j)) + (i + (j - i)) ≡ 8 * i + j = omega (arith, o) in place_turn q i j n (omega (arith, o, h)) h low high ∙ e

pub turn_over : (q i j n : ℕ) → i ≤ j → j < 8 → 256 * q + 32 * j + 4 * i ≤ n → n < 256 * q + 32 * j + 4 * i + 4 → pair_turn q n ≡ 8 * i + j
turn_over q i j n o h low high = let e : 8 * (j - (j - i)) + (j + (i - j)) ≡ 8 * i + j = omega (arith, o) in place_turn q j i n h (omega (arith, o, h)) low high ∙ e

-- a place is off a run of four, where it is not in it
pub off : (n at : ℕ) → (at ≤ n → n < at + 4 → ⊥) → (n < at) ⊎ (at + 4 ≤ n)
off n at h = ⊎_elim (λ s. inl s) (λ s. ⊎_elim (λ z. absurd (h s z)) (λ z. inr z) (lt_or_ge n (at + 4))) (lt_or_ge n at)

-- a number by its parts
both : (x y : Float) (z : Complex32) → x ≡ z.real → y ≡ z.imaginary → record { real = x; imaginary = y } ≡ z
both x y z p q = λ i. record { real = p i; imaginary = q i }

module _ (w gain row l : List Float) (i j from base : ℕ) (hj : j < 8) (lanes : from ≡ 4 * (base / 256 % 4)) (whole : base % 256 ≡ 0) where
  above : (k n a b u v : ℕ) → k < 4 → i < j → n ≡ base + 32 * i + 4 * j + k → a ≡ 128 * i + 16 * j + from + k → b ≡ 128 * j + 16 * i + from + k → u ≡ 16 * i + from + k → v ≡ 16 * j + from + k
      → settled_number w gain row n ≡ settled_at w gain row a b u v
  above k n a b u v hk o e p q r s =
      let at : n ≡ 256 * (base / 256) + 4 * (8 * i + j) + k = omega arith in
      let few : 8 * i + j < 64 = omega arith in
      settled_above w gain row (from + k) i j a b u v n (omega arith) hj (omega arith) (omega arith) (omega arith) (omega arith)
      (lane_of_place (base / 256) (8 * i + j) k n at few hk ∙ ap (λ (z : ℕ). z + k) (sym lanes))
      (number_of_place (base / 256) (8 * i + j) k n at few hk) o

  below : (k n a b u v : ℕ) → k < 4 → i ≤ j → n ≡ base + 32 * j + 4 * i + k → a ≡ 128 * i + 16 * j + from + k → b ≡ 128 * j + 16 * i + from + k → u ≡ 16 * i + from + k → v ≡ 16 * j + from + k
      → settled_number w gain row n ≡ conjugate_of (settled_at w gain row a b u v)
  below k n a b u v hk o e p q r s =
      let at : n ≡ 256 * (base / 256) + 4 * (8 * j + i) + k = omega arith in
      let few : 8 * j + i < 64 = omega arith in
      settled_below w gain row (from + k) i j a b u v n (omega arith) hj (omega arith) (omega arith) (omega arith) (omega arith)
      (lane_of_place (base / 256) (8 * j + i) k n at few hk ∙ ap (λ (z : ℕ). z + k) (sym lanes))
      (number_of_place (base / 256) (8 * j + i) k n at few hk) o

  -- four lanes at (i, j) and across
  module _ (x0 x1 x2 x3 y0 y1 y2 y3 : Float) (a b u v here over : ℕ) (o : i < j) (room : base + 256 ≤ 4096) (len : length l ≡ 8192)
      (ea : a ≡ 128 * i + 16 * j + from) (eb : b ≡ 128 * j + 16 * i + from) (eu : u ≡ 16 * i + from) (ev : v ≡ 16 * j + from)
      (eh : here ≡ base + 32 * i + 4 * j) (eo : over ≡ base + 32 * j + 4 * i)
      (p0 : x0 ≡ (settled_at w gain row a b u v).real) (q0 : y0 ≡ (settled_at w gain row a b u v).imaginary)
      (p1 : x1 ≡ (settled_at w gain row (a + 1) (b + 1) (u + 1) (v + 1)).real) (q1 : y1 ≡ (settled_at w gain row (a + 1) (b + 1) (u + 1) (v + 1)).imaginary)
      (p2 : x2 ≡ (settled_at w gain row (a + 2) (b + 2) (u + 2) (v + 2)).real) (q2 : y2 ≡ (settled_at w gain row (a + 2) (b + 2) (u + 2) (v + 2)).imaginary)
      (p3 : x3 ≡ (settled_at w gain row (a + 3) (b + 3) (u + 3) (v + 3)).real) (q3 : y3 ≡ (settled_at w gain row (a + 3) (b + 3) (u + 3) (v + 3)).imaginary) where
    abbrev first : List Float
    first = four_of (four_of l here x0 x1 x2 x3) (here + 4096) y0 y1 y2 y3

    abbrev second : List Float
    second = four_of (four_of first over x0 x1 x2 x3) (over + 4096) (neg y0) (neg y1) (neg y2) (neg y3)

    first_length : length first ≡ 8192
    first_length = pairs_four_length l here x0 x1 x2 x3 y0 y1 y2 y3 (omega arith) len

    at_first : (n : ℕ) → here ≤ n → n < here + 4 → pair_at 4096 first n ≡ settled_number w gain row n
    at_first n low high =
        pairs_four_in l here x0 x1 x2 x3 y0 y1 y2 y3 (omega arith) len (settled_number w gain row) n
        (both _ _ (settled_at w gain row a b u v) p0 q0 ∙ sym (above 0 here a b u v (omega arith) o (omega arith) (omega arith) (omega arith) (omega arith) (omega arith)))
        (both _ _ (settled_at w gain row (a + 1) (b + 1) (u + 1) (v + 1)) p1 q1 ∙ sym (above 1 (here + 1) (a + 1) (b + 1) (u + 1) (v + 1) (omega arith) o (omega arith) (omega arith) (omega arith) (omega arith) (omega arith)))
        (both _ _ (settled_at w gain row (a + 2) (b + 2) (u + 2) (v + 2)) p2 q2 ∙ sym (above 2 (here + 2) (a + 2) (b + 2) (u + 2) (v + 2) (omega arith) o (omega arith) (omega arith) (omega arith) (omega arith) (omega arith)))
        (both _ _ (settled_at w gain row (a + 3) (b + 3) (u + 3) (v + 3)) p3 q3 ∙ sym (above 3 (here + 3) (a + 3) (b + 3) (u + 3) (v + 3) (omega arith) o (omega arith) (omega arith) (omega arith) (omega arith) (omega arith)))
        low high

    at_second : (n : ℕ) → over ≤ n → n < over + 4 → pair_at 4096 second n ≡ settled_number w gain row n
    at_second n low high =
        pairs_four_in first over x0 x1 x2 x3 (neg y0) (neg y1) (neg y2) (neg y3) (omega arith) first_length (settled_number w gain row) n
        (ap conjugate_of (both _ _ (settled_at w gain row a b u v) p0 q0) ∙ sym (below 0 over a b u v (omega arith) (omega arith) (omega arith) (omega arith) (omega arith) (omega arith) (omega arith)))
        (ap conjugate_of (both _ _ (settled_at w gain row (a + 1) (b + 1) (u + 1) (v + 1)) p1 q1) ∙ sym (below 1 (over + 1) (a + 1) (b + 1) (u + 1) (v + 1) (omega arith) (omega arith) (omega arith) (omega arith) (omega arith) (omega arith) (omega arith)))
        (ap conjugate_of (both _ _ (settled_at w gain row (a + 2) (b + 2) (u + 2) (v + 2)) p2 q2) ∙ sym (below 2 (over + 2) (a + 2) (b + 2) (u + 2) (v + 2) (omega arith) (omega arith) (omega arith) (omega arith) (omega arith) (omega arith) (omega arith)))
        (ap conjugate_of (both _ _ (settled_at w gain row (a + 3) (b + 3) (u + 3) (v + 3)) p3 q3) ∙ sym (below 3 (over + 3) (a + 3) (b + 3) (u + 3) (v + 3) (omega arith) (omega arith) (omega arith) (omega arith) (omega arith) (omega arith) (omega arith)))
        low high

    after : (n : ℕ) → n < 4096 → (n < over) ⊎ (over + 4 ≤ n) → pair_at 4096 second n ≡ pair_at 4096 first n
    after n b h = pairs_four_out first over x0 x1 x2 x3 (neg y0) (neg y1) (neg y2) (neg y3) (omega arith) first_length n b h

    quad : base ≡ 256 * (base / 256)
    quad = omega (arith, whole)

    in_first : (n : ℕ) → here ≤ n → n < here + 4 → pair_turn (base / 256) n ≡ 8 * i + j
    in_first n low high = turn_here (base / 256) i j n (omega (arith, o)) hj (omega (arith, low, eh, quad)) (omega (arith, high, eh, quad))

    in_second : (n : ℕ) → over ≤ n → n < over + 4 → pair_turn (base / 256) n ≡ 8 * i + j
    in_second n low high = turn_over (base / 256) i j n (omega (arith, o)) hj (omega (arith, low, eo, quad)) (omega (arith, high, eo, quad))

    in_turn : (n : ℕ) → n < 4096 → pair_turn (base / 256) n ≡ 8 * i + j → pair_at 4096 second n ≡ settled_number w gain row n
    in_turn n b h =
        ⊎_elim
        (λ p. let low : here ≤ n = omega (arith, p.0, eh, quad) in
        let high : n < here + 4 = omega (arith, p.1, eh, quad) in
        after n b (inl (omega (arith, high, eh, eo, o))) ∙ at_first n low high)
        (λ p. at_second n (omega (arith, p.0, eo, quad)) (omega (arith, p.1, eo, quad)))
        (turn_places (base / 256) i j n (omega (arith, o)) hj h)

    rooms : (here + 4 ≤ 4096) × (over + 4 ≤ 4096)
    rooms = (omega arith, omega arith)

    pair_is : second ≡ turned (pair_turn (base / 256)) (8 * i + j) (settled_number w gain row) l
    pair_is =
        turned_is (pair_turn (base / 256)) (8 * i + j) (settled_number w gain row) l second (pairs_four_length first over x0 x1 x2 x3 (neg y0) (neg y1) (neg y2) (neg y3) rooms.1 first_length)
        in_turn
        (λ n b h. after n b (off n over (λ low high. h (in_second n low high)))
        ∙ pairs_four_out l here x0 x1 x2 x3 y0 y1 y2 y3 rooms.0 len n b (off n here (λ low high. h (in_first n low high))))

    pub pair_stored : (m v : List Float) → m ≡ first → v ≡ four_of (four_of m over x0 x1 x2 x3) (over + 4096) (neg y0) (neg y1) (neg y2) (neg y3)
        → v ≡ turned (pair_turn (base / 256)) (8 * i + j) (settled_number w gain row) l
    pair_stored m v e q = q ∙ ap (λ (z : List Float). four_of (four_of z over x0 x1 x2 x3) (over + 4096) (neg y0) (neg y1) (neg y2) (neg y3)) e ∙ pair_is

-- four lanes at (i, i)
module _ (w gain row l : List Float) (i from base : ℕ) (h : i < 8) (lanes : from ≡ 4 * (base / 256 % 4)) (whole : base % 256 ≡ 0)
    (x0 x1 x2 x3 y0 y1 y2 y3 : Float) (a u here : ℕ) (room : base + 256 ≤ 4096) (len : length l ≡ 8192)
    (ea : a ≡ 144 * i + from) (eu : u ≡ 16 * i + from) (eh : here ≡ base + 36 * i)
    (p0 : x0 ≡ (settled_at w gain row a a u u).real) (q0 : y0 ≡ neg (settled_at w gain row a a u u).imaginary)
    (p1 : x1 ≡ (settled_at w gain row (a + 1) (a + 1) (u + 1) (u + 1)).real) (q1 : y1 ≡ neg (settled_at w gain row (a + 1) (a + 1) (u + 1) (u + 1)).imaginary)
    (p2 : x2 ≡ (settled_at w gain row (a + 2) (a + 2) (u + 2) (u + 2)).real) (q2 : y2 ≡ neg (settled_at w gain row (a + 2) (a + 2) (u + 2) (u + 2)).imaginary)
    (p3 : x3 ≡ (settled_at w gain row (a + 3) (a + 3) (u + 3) (u + 3)).real) (q3 : y3 ≡ neg (settled_at w gain row (a + 3) (a + 3) (u + 3) (u + 3)).imaginary) where
  on : (k n a u : ℕ) → k < 4 → n ≡ base + 36 * i + k → a ≡ 144 * i + from + k → u ≡ 16 * i + from + k → settled_number w gain row n ≡ conjugate_of (settled_at w gain row a a u u)
  on k n a u hk e p r = below w gain row l i i from base h lanes whole k n a a u u hk (omega arith) (omega arith) (omega arith) (omega arith) (omega arith) (omega arith)

  abbrev stored : List Float
  stored = four_of (four_of l here x0 x1 x2 x3) (here + 4096) y0 y1 y2 y3

  fits : here + 4 ≤ 4096
  fits = omega (arith, eh, room, h)

  same : base ≡ 256 * (base / 256)
  same = omega (arith, whole)

  at_here : (n : ℕ) → here ≤ n → n < here + 4 → pair_at 4096 stored n ≡ settled_number w gain row n
  at_here n low high =
      pairs_four_in l here x0 x1 x2 x3 y0 y1 y2 y3 fits len (settled_number w gain row) n
      (both _ _ (conjugate_of (settled_at w gain row a a u u)) p0 q0 ∙ sym (on 0 here a u (omega arith) (omega (arith, eh)) (omega (arith, ea)) (omega (arith, eu))))
      (both _ _ (conjugate_of (settled_at w gain row (a + 1) (a + 1) (u + 1) (u + 1))) p1 q1 ∙ sym (on 1 (here + 1) (a + 1) (u + 1) (omega arith) (omega (arith, eh)) (omega (arith, ea)) (omega (arith, eu))))
      (both _ _ (conjugate_of (settled_at w gain row (a + 2) (a + 2) (u + 2) (u + 2))) p2 q2 ∙ sym (on 2 (here + 2) (a + 2) (u + 2) (omega arith) (omega (arith, eh)) (omega (arith, ea)) (omega (arith, eu))))
      (both _ _ (conjugate_of (settled_at w gain row (a + 3) (a + 3) (u + 3) (u + 3))) p3 q3 ∙ sym (on 3 (here + 3) (a + 3) (u + 3) (omega arith) (omega (arith, eh)) (omega (arith, ea)) (omega (arith, eu))))
      low high

  in_here : (n : ℕ) → here ≤ n → n < here + 4 → pair_turn (base / 256) n ≡ 8 * i + i
  in_here n low high = turn_here (base / 256) i i n (omega arith) h (omega (arith, low, eh, same)) (omega (arith, high, eh, same))

  in_diagonal : (n : ℕ) → n < 4096 → pair_turn (base / 256) n ≡ 8 * i + i → pair_at 4096 stored n ≡ settled_number w gain row n
  in_diagonal n b e =
      ⊎_elim
      (λ p. at_here n (omega (arith, p.0, eh, same)) (omega (arith, p.1, eh, same)))
      (λ p. at_here n (omega (arith, p.0, eh, same)) (omega (arith, p.1, eh, same)))
      (turn_places (base / 256) i i n (omega arith) h e)

  diagonal_is : stored ≡ turned (pair_turn (base / 256)) (8 * i + i) (settled_number w gain row) l
  diagonal_is =
      turned_is (pair_turn (base / 256)) (8 * i + i) (settled_number w gain row) l stored (pairs_four_length l here x0 x1 x2 x3 y0 y1 y2 y3 fits len)
      in_diagonal
      (λ n b e. pairs_four_out l here x0 x1 x2 x3 y0 y1 y2 y3 fits len n b (off n here (λ low high. e (in_here n low high))))

  pub diagonal_stored : (v : List Float) → v ≡ stored → v ≡ turned (pair_turn (base / 256)) (8 * i + i) (settled_number w gain row) l
  diagonal_stored v e = e ∙ diagonal_is

-- ---- the turns of a quad, row after row

-- no turn lies between the end of a row and the next diagonal
gap : (low high z i : ℕ) → low ≤ high → high < 8 → i < 8 → 8 * low + high + 128 * z < 8 * (i + 1) + (i + 1) → 8 * low + high + 128 * z < 8 * i + 8
gap low high z i o h b e = omega arith

turn_gap : (a b z i : ℕ) → a < 8 → b < 8 → i < 8 → 8 * (a - (a - b)) + (a + (b - a)) + 128 * z < 8 * (i + 1) + (i + 1) → 8 * (a - (a - b)) + (a + (b - a)) + 128 * z < 8 * i + 8
turn_gap a b z i ha hb h e = gap (a - (a - b)) (a + (b - a)) z i (omega (arith)) (omega (arith, ha, hb)) h e

pub row_end : (q i j : ℕ) (f : ℕ → Complex32) (l v : List Float) → v ≡ swept (pair_turn q) (8 * i + j) f l → i < 8 → j ≤ 8 → 8 ≤ j → v ≡ swept (pair_turn q) (8 * (i + 1) + (i + 1)) f l
row_end q i j f l v e b h g =
    swept_skip (pair_turn q) (8 * i + j) (8 * (i + 1) + (i + 1)) f l v e (omega arith) (λ n c d.
    let j8 : j ≡ 8 = omega (arith, h, g) in
    rw j8 (turn_gap (n / 32 % 8) (n / 4 % 8) (n / 256 - q + (q - n / 256)) i (omega arith) (omega arith) b d))

in_quad : (a b c q : ℕ) → a < 8 → b < 8 → c ≡ q → 8 * (a - (a - b)) + (a + (b - a)) + 128 * (c - q + (q - c)) < 72
in_quad a b c q ha hb e =
    let z : c - q + (q - c) ≡ 0 = omega (arith, e) in
    rw z (⊎_elim (λ o. omega (arith, o)) (λ o. omega (arith, o)) (lt_or_ge a b))

off_quad : (x c q : ℕ) → (c ≡ q → ⊥) → 72 ≤ x + 128 * (c - q + (q - c))
off_quad x c q h = omega arith

pub quad_end : (q i : ℕ) (f : ℕ → Complex32) (l v : List Float) → v ≡ swept (pair_turn q) (8 * i + i) f l → i ≤ 8 → 8 ≤ i → v ≡ turned quad_at q f l
quad_end q i f l v e h g =
    let all : 8 * i + i ≡ 72 = omega (arith, h, g) in
    turned_is quad_at q f l v (ap length e ∙ swept_length (pair_turn q) (8 * i + i) f l)
    (λ n b s. place_of n e ∙ swept_in (pair_turn q) (8 * i + i) f l n b (rw all (in_quad (n / 32 % 8) (n / 4 % 8) (n / 256) q (omega arith) (omega arith) s)))
    (λ n b s. place_of n e ∙ swept_out (pair_turn q) (8 * i + i) f l n b (rw all (off_quad (8 * (n / 32 % 8 - (n / 32 % 8 - n / 4 % 8)) + (n / 32 % 8 + (n / 4 % 8 - n / 32 % 8))) (n / 256) q s)))

pub row_turn : (q i j : ℕ) (f : ℕ → Complex32) (l m v : List Float) → v ≡ turned (pair_turn q) (8 * i + j) f m → m ≡ swept (pair_turn q) (8 * i + j) f l → v ≡ swept (pair_turn q) (8 * i + (j + 1)) f l
row_turn q i j f l m v e h = swept_turn (pair_turn q) (8 * i + j) (8 * i + (j + 1)) f l m v e h (omega arith)
