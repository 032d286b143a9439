-- The sixteen states of a group: quad after quad, and then each inverse that has to begin anew. Assumes nothing.
use Rattle.std.specs.Prelude.{◌≡◌, ◌⊎◌, ℕ, ◌+◌, ◌-◌, ◌*◌, ◌/◌, ◌%◌, ◌≤◌, ◌<◌, Bool, true, false, ◌&&◌, ltb, eqb, length, get_or, set, Float}
use Rattle.std.proofs.Math.Path.{refl, ap, sym}
use Rattle.std.proofs.Common.{◌∙◌, inl, inr, arith, get_or-set_same, get_or-set_other, lt-ltb, le-ltb, eq-eqb, ne_eqb}
use Rattle.std.proofs.Math.Logic.{⊎_elim}
use Rattle.std.proofs.Math.Bool.{cond}
use mathlib.Core.List.{List}
use Rattle.std.proofs.Math.ListN.{length-set}
use Rattle.std.specs.Float.{nan}
use Rattle.std.specs.Float.Ieee.{binary32, of_bits, add}
use Rattle.laws.specs.Branches.{cond_yes, cond_no}
use Rattle.laws.specs.Ring.{lt_or_ge}
use Rattle.laws.specs.Places.{le_or, skip2}
use Rattle.complex.specs.declared.Complex32.{Complex32}
use Rattle.complex.specs.Complex.{zero_pair}
use Rattle.least_squares.specs.Lanes.{pair_at, state_at, inverse_in, row_in, in_group}
use Rattle.least_squares.specs.LeastSquares.{number_of, entry_of, tap_doubt, drift_doubt, prior_of, settled_of, trace_of, renewed_of, is_usable, is_bounded}
use Rattle.settling.specs.Settling.{inverse_after}
use Rattle.least_squares.specs.Layout.{prior_at}
use Rattle.settling.specs.Layout.{trace_at, swept, turned, quad_at, quad_turn, lane_turn, number_turn, settled_number, prior_number, mended_of, renewed_number}
use Rattle.settling.specs.Sweeps.{place_of, swept_in, swept_out, turned_in, turned_out, turned_is, turned_fits, swept_fits, swept_turn}
use Rattle.settling.specs.Numbers.{table_at}

-- ---- an inverse that begins anew

on_diagonal : (e : ℕ) → e < 64 → e / 8 ≡ e % 8 → e % 9 ≡ 0
on_diagonal e h q = omega arith

off_diagonal : (e : ℕ) → e < 64 → (e / 8 ≡ e % 8 → ⊥) → 0 < e % 9
off_diagonal e h q = omega arith

-- that the prior's table and the code's tests give one number
abbrev PriorAlike : ℕ → Type 0
PriorAlike e =
    cond (eqb (e / 8) (e % 8)) (record { real = cond (ltb (e / 8) 4) tap_doubt drift_doubt; imaginary = of_bits binary32 0 }) zero_pair
    ≡ record { real = cond (ltb 0 (e % 9)) (of_bits binary32 0) (cond (ltb e 36) tap_doubt drift_doubt); imaginary = of_bits binary32 0 }

alike_off : (e : ℕ) → e < 64 → (e / 8 ≡ e % 8 → ⊥) → PriorAlike e
alike_off e h q = rw (ne_eqb (e / 8) (e % 8) q, lt-ltb 0 (e % 9) (off_diagonal e h q))

alike_on : (e : ℕ) → e < 64 → e / 8 ≡ e % 8 → PriorAlike e
alike_on e h q =
    let nine : e % 9 ≡ 0 = on_diagonal e h q in
    ⊎_elim
    (λ a. let b : e < 36 = omega (arith, a, q) in rw (eq-eqb (e / 8) (e % 8) q, nine, lt-ltb (e / 8) 4 a, lt-ltb e 36 b))
    (λ a. let b : 36 ≤ e = omega (arith, a, q) in rw (eq-eqb (e / 8) (e % 8) q, nine, le-ltb (e / 8) 4 a, le-ltb e 36 b))
    (lt_or_ge (e / 8) 4)

pub prior_at_lem : (e : ℕ) → e < 64 → number_of prior_of e ≡ record { real = prior_at e; imaginary = of_bits binary32 0 }
unfolding prior_of prior_at
prior_at_lem e h =
    table_at (λ i j. cond (eqb i j) (record { real = cond (ltb i 4) tap_doubt drift_doubt; imaginary = of_bits binary32 0 }) zero_pair) (e / 8) (e % 8) e (omega arith) (omega arith) (omega arith)
    ∙ ⊎_elim
    (λ a. alike_off e h (λ q. omega (arith, a, q)))
    (λ a. ⊎_elim (λ b. alike_off e h (λ q. omega (arith, b, q))) (λ b. alike_on e h (sym b)) (le_or (e % 8) (e / 8) a))
    (lt_or_ge (e / 8) (e % 8))

-- a place by its quad, number and lane
parts_of : (n : ℕ) → n ≡ 256 * (n / 256) + 4 * (n / 4 % 64) + n % 4
parts_of n = omega arith

parts_are : (q e r n : ℕ) → n ≡ 256 * q + 4 * e + r → e < 64 → r < 4 → (n / 256 ≡ q) × (n % 4 ≡ r) × (n / 4 % 64 ≡ e)
parts_are q e r n h b c = (omega arith, omega arith, omega arith)

first_of : (base : ℕ) → base % 256 < 4 → base ≡ 256 * (base / 256) + base % 4
first_of base h = omega arith

state_parts : (a b c d : ℕ) → b < 4 → d < 4 → 4 * a + b ≡ 4 * c + d → (a ≡ c) × (b ≡ d)
state_parts a b c d h g e = (omega arith, omega arith)

joined : (n base a e b : ℕ) → n ≡ 256 * a + 4 * e + b → base ≡ 256 * a + b → n ≡ base + 4 * e
joined n base a e b h g = omega arith

-- the number e of the state whose first number stands at base
state_place : (base e n : ℕ) → base % 256 < 4 → n / 4 % 64 ≡ e → 4 * (n / 256) + n % 4 ≡ 4 * (base / 256) + base % 4 → n ≡ base + 4 * e
state_place base e n h p q =
    let s = state_parts (n / 256) (n % 4) (base / 256) (base % 4) (omega arith) (omega arith) q in
    let first : base ≡ 256 * (n / 256) + n % 4 = rw (s.0, s.1) (first_of base h) in
    let whole : n ≡ 256 * (n / 256) + 4 * e + n % 4 = parts_of n ∙ ap (λ (k : ℕ). 256 * (n / 256) + 4 * k + n % 4) p in
    joined n base (n / 256) e (n % 4) whole first

number_turn_lem : (x s t e : ℕ) → x < 64 → e < 64 → x + 64 * (s - t + (t - s)) ≡ e → (x ≡ e) × (s ≡ t)
number_turn_lem x s t e h b q = let same : s ≡ t = omega arith in (omega arith, same)

turn_number : (base e n : ℕ) → base % 256 < 4 → e < 64 → n ≡ base + 4 * e → number_turn (state_at base) n ≡ e
turn_number base e n h b q =
    let first = first_of base h in
    let at : n ≡ 256 * (base / 256) + 4 * e + base % 4 = omega (arith, q, first) in
    let s = parts_are (base / 256) e (base % 4) n at b (omega arith) in
    let z : e + 64 * (state_at base - state_at base + (state_at base - state_at base)) ≡ e = omega arith in
    rw (s.0, s.1, s.2) z

module _ (base e : ℕ) (m : List Float) (x : Float) (first : base % 256 < 4) (within : base < 4096) (h : e < 64) (len : length m ≡ 8192) (same : x ≡ prior_at e) where
  abbrev put : List Float
  put = set (set m (base + 4 * e) x) (base + 4 * e + 4096) (of_bits binary32 0)

  fits : base + 4 * e < 4096
  fits = omega (arith, first, within, h)

  put_here : pair_at 4096 put (base + 4 * e) ≡ record { real = x; imaginary = of_bits binary32 0 }
  put_here =
      let low : base + 4 * e < length m = omega (arith, fits, len) in
      let high : base + 4 * e + 4096 < length m = omega (arith, fits, len) in
      let real = get_or-set_other (set m (base + 4 * e) x) (base + 4 * e + 4096) (base + 4 * e) (of_bits binary32 0) nan (λ q. omega (arith, q)) ∙ get_or-set_same m (base + 4 * e) x nan low in
      let imaginary = get_or-set_same (set m (base + 4 * e) x) (base + 4 * e + 4096) (of_bits binary32 0) nan (rw (length-set m (base + 4 * e) x) high) in
      λ i. record { real = real i; imaginary = imaginary i }

  put_off : (n : ℕ) → n < 4096 → (n ≡ base + 4 * e → ⊥) → pair_at 4096 put n ≡ pair_at 4096 m n
  put_off n b no_place =
      let real = skip2 m (base + 4 * e) (base + 4 * e + 4096) x (of_bits binary32 0) n nan no_place (λ q. omega (arith, q, b)) in
      let imaginary = skip2 m (base + 4 * e) (base + 4 * e + 4096) x (of_bits binary32 0) (n + 4096) nan (λ q. omega (arith, q, fits)) (λ q. no_place (omega (arith, q))) in
      λ i. record { real = real i; imaginary = imaginary i }

  pub renew_turn : put ≡ turned (number_turn (state_at base)) e prior_number m
  unfolding prior_number
  renew_turn =
      turned_is (number_turn (state_at base)) e prior_number m put
      (length-set (set m (base + 4 * e) x) (base + 4 * e + 4096) (of_bits binary32 0) ∙ length-set m (base + 4 * e) x ∙ len)
      (λ n b q.
      let s = number_turn_lem (n / 4 % 64) (state_at n) (state_at base) e (omega arith) h q in
      let at : n ≡ base + 4 * e = state_place base e n first s.0 s.1 in
      let value : record { real = x; imaginary = of_bits binary32 0 } ≡ record { real = prior_at e; imaginary = of_bits binary32 0 } = ap (λ (z : Float). record { real = z; imaginary = of_bits binary32 0 }) same in
      ap (pair_at 4096 put) at ∙ put_here ∙ value ∙ sym (prior_at_lem e h) ∙ ap (number_of prior_of) (sym s.0))
      (λ n b q. put_off n b (λ at. q (turn_number base e n first h at)))

  pub renew_step : (l : List Float) → m ≡ swept (number_turn (state_at base)) e prior_number l → put ≡ swept (number_turn (state_at base)) (e + 1) prior_number l
  renew_step l g = swept_turn (number_turn (state_at base)) e (e + 1) prior_number l m put renew_turn g refl

in_state : (x s t : ℕ) → x < 64 → s ≡ t → x + 64 * (s - t + (t - s)) < 64
in_state x s t h e = omega arith

off_state : (x s t : ℕ) → (s ≡ t → ⊥) → 64 ≤ x + 64 * (s - t + (t - s))
off_state x s t h = omega arith

pub renew_end : (s e : ℕ) (f : ℕ → Complex32) (l v : List Float) → v ≡ swept (number_turn s) e f l → e ≤ 64 → 64 ≤ e → v ≡ turned state_at s f l
renew_end s e f l v h low high =
    let all : e ≡ 64 = omega (arith, low, high) in
    turned_is state_at s f l v (swept_fits (number_turn s) e f l v h)
    (λ n b q. place_of n h ∙ swept_in (number_turn s) e f l n b (rw all (in_state (n / 4 % 64) (state_at n) s (omega arith) q)))
    (λ n b q. place_of n h ∙ swept_out (number_turn s) e f l n b (rw all (off_state (n / 4 % 64) (state_at n) s q)))

-- ---- an inverse whose denominator or trace is of no use

module _ (d t : Float) (base : ℕ) (l : List Float) (u b : Bool) (eu : u ≡ is_usable d) (et : t ≡ trace_at l base) (eb : b ≡ is_bounded t) where
  tested : (u && b) ≡ (is_usable d && is_bounded (trace_at l base))
  tested = λ i. eu i && (eb ∙ ap is_bounded et) i

  pub mend_keeps : (u && b) ≡ true → l ≡ mended_of d base l
  unfolding mended_of
  mend_keeps h = cond_yes (is_usable d && is_bounded (trace_at l base)) l (turned state_at (state_at base) prior_number l) (sym tested ∙ h)

  pub mend_renews : (v : List Float) → (u && b) ≡ false → v ≡ turned state_at (state_at base) prior_number l → v ≡ mended_of d base l
  unfolding mended_of
  mend_renews v h e = cond_no (is_usable d && is_bounded (trace_at l base)) l (turned state_at (state_at base) prior_number l) v (sym tested ∙ h) e

either : (b : Bool) (x y v : List Float) → v ≡ cond b x y → ((b ≡ true) × (v ≡ x)) ⊎ ((b ≡ false) × (v ≡ y))
either true x y v e = inl (refl, e)
either false x y v e = inr (refl, e)

-- ---- the lanes of a group

quarter : (n : ℕ) → n / 1024 ≡ n / 256 / 4
quarter n = omega arith

sixteenth : (x y : ℕ) → y < 4 → (4 * x + y) / 16 ≡ x / 4
sixteenth x y h = omega arith

group_of : (n : ℕ) → state_at n / 16 ≡ n / 1024
group_of n = sixteenth (n / 256) (n % 4) (omega arith) ∙ sym (quarter n)

lane_parts : (s z g k : ℕ) → s / 16 ≡ z → k < 16 → s % 16 + 16 * (z - g + (g - z)) ≡ k → (s % 16 ≡ k) × (s ≡ 16 * g + k)
lane_parts s z g k e h q =
    let same : z ≡ g = omega (arith, h, q) in
    let lane : s % 16 ≡ k = omega (arith, same, q) in
    (lane, omega (arith, same, lane, e))

lane_back : (s z g k : ℕ) → s / 16 ≡ z → k < 16 → s ≡ 16 * g + k → s % 16 + 16 * (z - g + (g - z)) ≡ k
lane_back s z g k e h q =
    let same : z ≡ g = omega (arith, e, h, q) in
    let lane : s % 16 ≡ k = omega (arith, h, q) in
    let none : z - g + (g - z) ≡ 0 = omega (arith, same) in
    let sum : k + 16 * 0 ≡ k = omega arith in
    rw (lane, none) sum

lane_in : (g k n : ℕ) → k < 16 → lane_turn g n ≡ k → (state_at n % 16 ≡ k) × (state_at n ≡ 16 * g + k)
lane_in g k n h e = lane_parts (state_at n) (n / 1024) g k (group_of n) h e

lane_is : (g k n : ℕ) → k < 16 → state_at n ≡ 16 * g + k → lane_turn g n ≡ k
lane_is g k n h e = lane_back (state_at n) (n / 1024) g k (group_of n) h e

-- the number e of the lane k
lane_place : (g k e n : ℕ) → k < 16 → e < 64 → n ≡ 1024 * g + 256 * (k / 4) + k % 4 + 4 * e → (state_at n ≡ 16 * g + k) × (n / 4 % 64 ≡ e)
lane_place g k e n h b q =
    let at : n ≡ 256 * (4 * g + k / 4) + 4 * e + k % 4 = omega (arith, q) in
    let s = parts_are (4 * g + k / 4) e (k % 4) n at b (omega arith) in
    let whole : 4 * (4 * g + k / 4) + k % 4 ≡ 16 * g + k = omega arith in
    (rw (s.0, s.1) whole, s.2)

lane_room : (g k e n : ℕ) → g < 4 → k < 16 → e < 64 → n ≡ 1024 * g + 256 * (k / 4) + k % 4 + 4 * e → n < 4096
lane_room g k e n hg hk he q = let quad : k / 4 < 4 = omega (arith, hk) in let lane : k % 4 < 4 = omega arith in omega (arith, quad, lane, q)

module _ (w gain row den : List Float) (g k : ℕ) (m : List Float) (hg : g < 4) (hk : k < 16) (len : length m ≡ 8192)
    (untouched : (n : ℕ) → n < 4096 → lane_turn g n ≡ k → pair_at 4096 m n ≡ settled_number w gain row n) where
  abbrev base : ℕ
  base = 1024 * g + 256 * (k / 4) + k % 4

  abbrev settled : List Complex32
  settled = settled_of (inverse_in w k) (row_in gain k) (row_in row k)

  abbrev usable : Bool
  usable = is_usable (get_or den k nan) && is_bounded (trace_of settled)

  settled_number_lem : (n : ℕ) → state_at n % 16 ≡ k → settled_number w gain row n ≡ number_of settled (n / 4 % 64)
  unfolding settled_number
  settled_number_lem n e = rw e

  renewed_number_lem : (n : ℕ) → state_at n % 16 ≡ k → number_of (cond usable settled prior_of) (n / 4 % 64) ≡ renewed_number w gain row den n
  unfolding renewed_number renewed_of
  renewed_number_lem n e = rw e

  diagonal : (i at : ℕ) → i < 8 → at ≡ base + 4 * (8 * i + i) → get_or m at nan ≡ (entry_of settled i i).real
  diagonal i at h e =
      let few : 8 * i + i < 64 = omega (arith, h) in
      let s = lane_place g k (8 * i + i) at hk few e in
      let q = lane_is g k at hk s.0 in
      let room = lane_room g k (8 * i + i) at hg hk few e in
      ap (λ (z : Complex32). z.real) (untouched at room q ∙ settled_number_lem at (lane_in g k at hk q).0 ∙ ap (number_of settled) s.1)

  trace_is : trace_at m base ≡ trace_of settled
  unfolding trace_of
  trace_is =
      let d0 = diagonal 0 base (omega arith) (omega arith) in
      let d1 = diagonal 1 (base + 36) (omega arith) (omega arith) in
      let d2 = diagonal 2 (base + 72) (omega arith) (omega arith) in
      let d3 = diagonal 3 (base + 108) (omega arith) (omega arith) in
      let d4 = diagonal 4 (base + 144) (omega arith) (omega arith) in
      let d5 = diagonal 5 (base + 180) (omega arith) (omega arith) in
      let d6 = diagonal 6 (base + 216) (omega arith) (omega arith) in
      let d7 = diagonal 7 (base + 252) (omega arith) (omega arith) in
      λ t. add binary32 (add binary32 (add binary32 (add binary32 (add binary32 (add binary32 (add binary32 (d0 t) (d1 t)) (d2 t)) (d3 t)) (d4 t)) (d5 t)) (d6 t)) (d7 t)

  test_is : (is_usable (get_or den k nan) && is_bounded (trace_at m base)) ≡ usable
  test_is = ap (λ (t : Float). is_usable (get_or den k nan) && is_bounded t) trace_is

  base_state : state_at base ≡ 16 * g + k
  base_state = (lane_place g k 0 base hk (omega arith) (omega arith)).0

  kept : (v : List Float) → usable ≡ true → v ≡ m → v ≡ turned (lane_turn g) k (renewed_number w gain row den) m
  kept v is_so e =
      turned_is (lane_turn g) k (renewed_number w gain row den) m v (ap length e ∙ len)
      (λ n b q.
      let s = (lane_in g k n hk q).0 in
      let same : settled ≡ cond usable settled prior_of = cond_yes usable settled prior_of is_so in
      place_of n e ∙ untouched n b q ∙ settled_number_lem n s ∙ ap (λ (z : List Complex32). number_of z (n / 4 % 64)) same ∙ renewed_number_lem n s)
      (λ n b q. place_of n e)

  anew : (v : List Float) → usable ≡ false → v ≡ turned state_at (state_at base) prior_number m → v ≡ turned (lane_turn g) k (renewed_number w gain row den) m
  unfolding prior_number
  anew v not_so e =
      turned_is (lane_turn g) k (renewed_number w gain row den) m v (turned_fits state_at (state_at base) prior_number m v e)
      (λ n b q.
      let s = lane_in g k n hk q in
      let same : prior_of ≡ cond usable settled prior_of = cond_no usable settled prior_of prior_of not_so refl in
      place_of n e ∙ turned_in state_at (state_at base) prior_number m n b (s.1 ∙ sym base_state)
      ∙ ap (λ (z : List Complex32). number_of z (n / 4 % 64)) same ∙ renewed_number_lem n s.0)
      (λ n b q. place_of n e ∙ turned_out state_at (state_at base) prior_number m n b (λ s. q (lane_is g k n hk (s ∙ base_state))))

  pub mended_is : (v : List Float) → v ≡ mended_of (get_or den k nan) base m → v ≡ turned (lane_turn g) k (renewed_number w gain row den) m
  unfolding mended_of
  mended_is v e =
      ⊎_elim (λ s. kept v (sym test_is ∙ s.0) s.1) (λ s. anew v (sym test_is ∙ s.0) s.1)
      (either (is_usable (get_or den k nan) && is_bounded (trace_at m base)) m (turned state_at (state_at base) prior_number m) v e)

-- ---- the loops of a group

quad_parts : (x z g k : ℕ) → z ≡ x / 4 → k < 4 → x % 4 + 4 * (z - g + (g - z)) ≡ k → x ≡ 4 * g + k
quad_parts x z g k e h q = let same : z ≡ g = omega (arith, h, q) in let rest : x % 4 ≡ k = omega (arith, same, q) in omega (arith, same, rest, e)

quad_back : (x z g k : ℕ) → z ≡ x / 4 → k < 4 → x ≡ 4 * g + k → x % 4 + 4 * (z - g + (g - z)) ≡ k
quad_back x z g k e h q =
    let same : z ≡ g = omega (arith, e, h, q) in
    let rest : x % 4 ≡ k = omega (arith, h, q) in
    let none : z - g + (g - z) ≡ 0 = omega (arith, same) in
    let sum : k + 4 * 0 ≡ k = omega arith in
    rw (rest, none) sum

pub quad_step : (g k : ℕ) (f : ℕ → Complex32) (l m v : List Float) → v ≡ turned quad_at ((1024 * g + 256 * k) / 256) f m → m ≡ swept (quad_turn g) k f l → k < 4 → v ≡ swept (quad_turn g) (k + 1) f l
quad_step g k f l m v e h b =
    let q : (1024 * g + 256 * k) / 256 ≡ 4 * g + k = omega arith in
    let one : v ≡ turned (quad_turn g) k f m =
    turned_is (quad_turn g) k f m v (turned_fits quad_at ((1024 * g + 256 * k) / 256) f m v e)
    (λ n c s. place_of n e ∙ turned_in quad_at ((1024 * g + 256 * k) / 256) f m n c (quad_parts (n / 256) (n / 1024) g k (quarter n) b s ∙ sym q))
    (λ n c s. place_of n e ∙ turned_out quad_at ((1024 * g + 256 * k) / 256) f m n c (λ a. s (quad_back (n / 256) (n / 1024) g k (quarter n) b (a ∙ q)))) in
    swept_turn (quad_turn g) k (k + 1) f l m v one h refl

in_group_lem : (x z g : ℕ) → x < 4 → z ≡ g → x + 4 * (z - g + (g - z)) < 4
in_group_lem x z g h e = omega arith

off_group : (x z g : ℕ) → (z ≡ g → ⊥) → 4 ≤ x + 4 * (z - g + (g - z))
off_group x z g h = omega arith

in_lanes : (x z g : ℕ) → x < 16 → z ≡ g → x + 16 * (z - g + (g - z)) < 16
in_lanes x z g h e = omega arith

off_lanes : (x z g : ℕ) → (z ≡ g → ⊥) → 16 ≤ x + 16 * (z - g + (g - z))
off_lanes x z g h = omega arith

lane_group : (x z g k : ℕ) → k < 16 → x + 16 * (z - g + (g - z)) ≡ k → z ≡ g
lane_group x z g k h e = omega arith

module _ (w gain row den : List Float) (g k j : ℕ) (entered settled m : List Float) (quads : settled ≡ swept (quad_turn g) j (settled_number w gain row) entered)
    (lanes : m ≡ swept (lane_turn g) k (renewed_number w gain row den) settled) (all : 4 ≤ j) (most : j ≤ 4) where
  four : j ≡ 4
  four = omega (arith, all, most)

  pub mend_step : (v : List Float) → v ≡ mended_of (get_or den k nan) (1024 * g + 256 * (k / 4) + k % 4) m → g < 4 → k < 16 → v ≡ swept (lane_turn g) (k + 1) (renewed_number w gain row den) settled
  mend_step v e hg hk =
      let one = mended_is w gain row den g k m hg hk (swept_fits (lane_turn g) k (renewed_number w gain row den) settled m lanes)
      (λ n b q.
      let past : k ≤ lane_turn g n = omega (arith, q) in
      let mine : quad_turn g n < 4 = in_group_lem (n / 256 % 4) (n / 1024) g (omega arith) (lane_group (state_at n % 16) (n / 1024) g k hk q) in
      place_of n lanes ∙ swept_out (lane_turn g) k (renewed_number w gain row den) settled n b past
      ∙ place_of n quads ∙ swept_in (quad_turn g) j (settled_number w gain row) entered n b (rw four mine))
      v e in
      swept_turn (lane_turn g) k (k + 1) (renewed_number w gain row den) settled m v one lanes refl

  same_group : turned (λ n. n / 1024) g (renewed_number w gain row den) entered
      ≡ in_group g (inverse_after w gain row den) entered
  unfolding turned in_group renewed_number
  same_group = refl

  pub group_end : k ≤ 16 → 16 ≤ k → m ≡ in_group g (inverse_after w gain row den) entered
  group_end low high =
      let last : k ≡ 16 = omega (arith, low, high) in
      turned_is (λ n. n / 1024) g (renewed_number w gain row den) entered m (swept_fits (lane_turn g) k (renewed_number w gain row den) settled m lanes)
      (λ n b q.
      let mine : lane_turn g n < 16 = in_lanes (state_at n % 16) (n / 1024) g (omega arith) q in
      place_of n lanes ∙ swept_in (lane_turn g) k (renewed_number w gain row den) settled n b (rw last mine))
      (λ n b q.
      let lane : 16 ≤ lane_turn g n = off_lanes (state_at n % 16) (n / 1024) g q in
      let quad : 4 ≤ quad_turn g n = off_group (n / 256 % 4) (n / 1024) g q in
      place_of n lanes ∙ swept_out (lane_turn g) k (renewed_number w gain row den) settled n b (rw last lane)
      ∙ place_of n quads ∙ swept_out (quad_turn g) j (settled_number w gain row) entered n b (rw four quad))
      ∙ same_group
