-- The definition's pass is the Rust's: for every state that is ready and every value, the Rust's loop returns by its test after at most two outputs, and outputs, state and ring are those of
-- `resampled_of`. Assumes nothing.
use Rattle.std.specs.Prelude.{◌≡◌, ℕ, zero, suc, ◌+◌, ◌-◌, ◌*◌, ◌/◌, ◌%◌, ◌^◌, ◌<◌, ◌≤◌, Bool, true, false, cond, T, List, [], ◌∷◌, ◌++◌, length, get_or, take, drop, set, ℤ, pos, negsuc, ◌+ℤ◌, ◌-ℤ◌, neg_ℤ, ◌==◌, from_bits, int_lt, slice_index_or, slice_set, Float}
use Rattle.std.proofs.Math.Path.{refl, sym, ap}
use Rattle.std.proofs.Common.{◌∙◌, subst, mod-lt, mod-eq_of_lt, lt_of_le_of_lt, lit<, le→leb, length-drop, length-take-le}
use Rattle.std.proofs.Math.Logic.{⊎_elim}
use Rattle.std.proofs.Math.Nat.{add-mod_left}
use native.Mathlib.Omega.{arith}
use borrow.Author.Tests.{lt-ltb, le-ltb}
use Rattle.std.proofs.Math.IntN.{+ℤ_assoc, +ℤ_comm, neg_ℤ-+ℤ}
use Rattle.std.specs.Float.Ieee.{nan, binary32, of_int, to_signed, to_unsigned, up, down, round, add, sub, mul, fits, in_float}
use Rattle.std.specs.Float.{inf, fin, binary64}
use Rattle.std.specs.Float.Ieee.Back.{positive_back}
use Rattle.std.specs.Float.Ieee.Fits.{down_pos}
use Rattle.laws.specs.Turns.{turns, until, turns_foldl}
use Rattle.laws.specs.Places.{row_ends}
use Rattle.laws.specs.Ring.{start, lt_or_ge, round_start, round_step}
use Rattle.laws.specs.FloatOrder.{le→}
use Rattle.laws.specs.FloatSums.{In, in_finite}
use Rattle.laws.specs.Modulo.{modulo}
use Rattle.whole.specs.Whole.{whole_of, away, downward}
use Rattle.complex.specs.Complex.{zero_pair}
use Rattle.complex.specs.declared.Complex32.{Complex32}
use Rattle.resampler.specs.declared.pass.Resampler.{Resampler}
use Rattle.resampler.specs.declared.pass.Place.{Place}
use Rattle.resampler.specs.declared.pass.Delivery.{Delivery}
use Rattle.resampler.specs.Pass.{placed_of, waiting_of, window_of, arm_at, sum_turn, sum_of, filtered_of, start_of, emitted_of, is_done, pass_turn, delivered_of, pushed_of, Sampled, resampled_of, values_of}
use Rattle.resampler.specs.Outputs.{tick, position, phase, no_minus}
use Rattle.resampler.specs.Ticks.{minus_zero, placed_is, whole_cut, whole_most}
use Rattle.resampler.proofs.Window.{window_at}
use Rattle.resampler.specs.Latest.{due_now, window_start}
use Rattle.resampler.specs.Admitted.{f0, far, back, Admitted, Dimensioned}
use Rattle.resampler.specs.AdmittedLaws.{Passing, Going, going_start, going_turned, outcome, no_third, due_few, admitted_passing, pushed_dimensioned}
use Rattle.resampler.specs.RustPass.{Spot, spot_from, spot_of, offset_of, Summing, tapped, summed_of, Loop, is_beyond, returns, loop_turn, loop_of, Processed, processed_of}

-- ---- signed positions: nothing that the Rust casts to i64 is negative
abbrev floored : Float → Float
floored x = whole_of downward binary64 x

whole_signed : (n : ℕ) → n ≤ 2 ^ 53 → to_signed 63 (round binary64 false n 1) ≡ pos (to_unsigned 64 (round binary64 false n 1))
unfolding of_int in_float
whole_signed n h = (positive_back binary64 63 n (le→leb n (2 ^ 53) h) (lt_of_le_of_lt h (lit< tt))).1 ∙ ap pos (sym (whole_cut n h))

floor_signed : (x : Float) → In f0 far x → T (fits binary64 x) → to_signed 63 (floored x) ≡ pos (to_unsigned 64 (floored x))
unfolding whole_of
floor_signed nan i F = absurd (in_finite f0 far nan tt tt i)
floor_signed (inf s) i F = absurd (in_finite f0 far (inf s) tt tt i)
floor_signed (fin false m e) i F =
    let h = le→ (fin false m e) far tt tt i.upper in
    whole_signed (m * up e / down e) (whole_most (m * up e) (down e) (down_pos e) (omega arith))
floor_signed (fin true m e) i F =
    let z = minus_zero m e F (no_minus (fin true m e) tt i.lower) in
    subst (λ (x : Float). to_signed 63 (floored x) ≡ pos (to_unsigned 64 (floored x))) (sym z) (unfold whole_of round to_signed to_unsigned in refl)

-- a place of ours as the Rust has it
abbrev spotted : Place → Spot
spotted p = record { position = pos p.position; phase = p.phase }

spot_is : (x : Float) → In f0 far x → T (fits binary64 x) → spot_of x ≡ spotted (placed_of x)
unfolding spot_of placed_of
spot_is x i F =
    let n = to_unsigned 64 (floored x) in
    let k = to_unsigned 64 (whole_of away binary64 (mul binary64 (sub binary64 x (of_int binary64 (pos n))) (from_bits binary64 0x4040_0000_0000_0000))) in
    ap (spot_from x) (floor_signed x i F) ∙ carried n k (k == 32)
  where
    carried : (n k : ℕ) (b : Bool) → cond {A = Spot} b (record { position = pos (n + 1); phase = 0 }) (record { position = pos n; phase = k }) ≡ spotted (cond b (record { position = n + 1; phase = 0 }) (record { position = n; phase = k }))
    carried n k true = refl
    carried n k false = refl

phase_in : (x : Float) → In f0 far x → T (fits binary64 x) → (placed_of x).phase < 32
unfolding phase
phase_in x i F = subst (λ (p : Place). p.phase < 32) (sym (placed_is x i F)) (mod-lt (tick x) (lit< tt))

-- ---- differences of whole numbers
minus_smaller : (a b : ℕ) → b ≤ a → pos a -ℤ pos b ≡ pos (a - b)
minus_smaller a zero h = ap pos (let e : a + 0 ≡ a - 0 = omega arith in e)
minus_smaller a (suc b) h = rw (le-ltb a (suc b) h)

minus_larger : (a b : ℕ) → a < b → pos a -ℤ pos b ≡ negsuc (b - suc a)
minus_larger a zero h = absurd (omega arith)
minus_larger a (suc b) h = rw (lt-ltb a (suc b) h)

-- a remainder of a difference of up to one round
round_back : (size a b : ℕ) → 0 < size → b ≤ a + size → modulo size (pos a -ℤ pos b) ≡ (a + size - b) % size
unfolding modulo
round_back size a b z h =
    ⊎_elim
    (λ l.
    let s : b - suc a < size = omega arith in
    ap (modulo size) (minus_larger a b l) ∙ ap (λ (k : ℕ). size - suc k) (mod-eq_of_lt s) ∙ (let e : size - suc (b - suc a) ≡ a + size - b = omega arith in e) ∙ sym (mod-eq_of_lt (let g : a + size - b < size = omega arith in g)))
    (λ l.
    ap (modulo size) (minus_smaller a b l) ∙ sym (add-mod_left size (a - b)) ∙ ap (λ (k : ℕ). k % size) (let e : size + (a - b) ≡ a + size - b = omega arith in e))
    (lt_or_ge a b)

-- first + c, with c at least half
first_end : (n h c : ℕ) → h ≤ c → pos n -ℤ pos h +ℤ pos c ≡ pos (n + (c - h))
first_end n h c l = +ℤ_assoc (pos n) (neg_ℤ (pos h)) (pos c) ∙ ap (λ (z : ℤ). pos n +ℤ z) (+ℤ_comm (neg_ℤ (pos h)) (pos c) ∙ minus_smaller c h l)

-- write + first - index
offset_sum : (w n h i : ℕ) → pos w +ℤ (pos n -ℤ pos h) -ℤ pos i ≡ pos (w + n) -ℤ pos (h + i)
offset_sum w n h i =
    ap (λ (z : ℤ). z -ℤ pos i) (sym (+ℤ_assoc (pos w) (pos n) (neg_ℤ (pos h))))
    ∙ +ℤ_assoc (pos (w + n)) (neg_ℤ (pos h)) (neg_ℤ (pos i))
    ∙ ap (λ (z : ℤ). pos (w + n) +ℤ z) (sym (neg_ℤ-+ℤ (pos h) (pos i)))

-- ---- one output
module _ (q : Resampler) (d : Dimensioned q) (table real imaginary : List Float) (room : 32 * q.arm ≤ length table) where
  taps_length : (k : ℕ) → k < 32 → length (arm_at q.arm table k) ≡ q.arm
  taps_length k l =
      let e = row_ends k 32 q.arm (length table) l room in
      let f = length-drop (k * q.arm) table in
      length-take-le q.arm (drop (k * q.arm) table) (omega arith)

  -- the Rust's test is ours
  beyond_is : (p : Place) → p.phase < 32 → is_beyond q table (spotted p) ≡ waiting_of q p
  beyond_is p l =
      ap (λ (n : ℕ). int_lt (pos q.index) (pos p.position -ℤ pos q.half +ℤ pos n)) (taps_length p.phase l)
      ∙ ap (int_lt (pos q.index)) (first_end p.position q.half q.arm d.half_in)

  -- where its window starts, for an output that the value that came in makes due
  offset_is : (p : Place) → p.position + back q ≡ q.index → offset_of q (spotted p) ≡ start nan (q.arm + 16) q.write q.arm
  offset_is p e =
      let size = q.arm + 16 in
      let h = d.half_in in
      ap (modulo size) (offset_sum q.write p.position q.half q.index)
      ∙ round_back size (q.write + p.position) (q.half + q.index) (omega arith) (omega arith)
      ∙ ap (λ (k : ℕ). k % size) (let g : q.write + p.position + size - (q.half + q.index) ≡ q.write + size - (q.index + q.half - p.position) = omega arith in g)
      ∙ window_start q p.position h e

  abbrev from : ℕ
  from = start nan (q.arm + 16) q.write q.arm

  -- the sum after n taps, and the offset
  along : (taps : List Float) (n : ℕ) → n ≤ q.arm
      → turns (λ k s. tapped (q.arm + 16) real imaginary s (slice_index_or taps k nan)) n (record { offset = from; sum = zero_pair })
      ≡ record { offset = (from + n) % (q.arm + 16); sum = turns (sum_turn taps (window_of q real) (window_of q imaginary)) n zero_pair }
  unfolding turns
  along taps zero h = ap (λ (k : ℕ). record { offset = k; sum = zero_pair }) (round_start from (q.arm + 16) (mod-lt (q.write + (q.arm + 16) - q.arm) (omega arith)))
  along taps (suc n) h =
      let size = q.arm + 16 in
      let s = turns (sum_turn taps (window_of q real) (window_of q imaginary)) n zero_pair in
      let at : (plane : List Float) → slice_index_or plane ((from + n) % size) nan ≡ get_or (window_of q plane) n nan = λ plane. sym (window_at q.arm q.write d.write_in table real imaginary 0 plane n ((from + n) % size) (omega arith) refl) in
      let e : ((from + n) % size + 1) % size ≡ (from + suc n) % size = round_step from n size ∙ ap (λ (k : ℕ). (from + k) % size) (let g : n + 1 ≡ suc n = omega arith in g) in
      ap (λ (t : Summing). tapped size real imaginary t (slice_index_or taps n nan)) (along taps n (omega arith))
      ∙ (λ i. record {
        offset = e i;
        sum = record {
          real = add binary32 s.real (mul binary32 (at real i) (slice_index_or taps n nan));
          imaginary = add binary32 s.imaginary (mul binary32 (at imaginary i) (slice_index_or taps n nan));
        };
      })

  summed_is : (p : Place) → p.phase < 32 → p.position + back q ≡ q.index → summed_of q table real imaginary (spotted p) ≡ filtered_of q table real imaginary p.phase
  unfolding summed_of sum_of
  summed_is p l e =
      let taps = arm_at q.arm table p.phase in
      let f = tapped (q.arm + 16) real imaginary in
      ap (λ (t : Summing). t.sum)
      (sym (turns_foldl f nan taps (record { offset = offset_of q (spotted p); sum = zero_pair }))
      ∙ (λ i. turns (λ k s. f s (slice_index_or taps k nan)) (taps_length p.phase l i) (record { offset = offset_is p e i; sum = zero_pair }))
      ∙ along taps q.arm (omega arith))

-- ---- the loop: what our delivery holds is what went to the sink
abbrev told : Delivery → Loop
told d = record { next = d.next; sink = take d.count (d.first ∷ d.second ∷ []) }

told_more : (c : ℕ) (a b v : Complex32) (x s : Float) → c < 2
    → told (emitted_of (record { count = c; first = a; second = b; next = x }) s v) ≡ record { next = add binary64 x s; sink = take c (a ∷ b ∷ []) ++ (v ∷ []) }
unfolding emitted_of
told_more zero a b v x s l = refl
told_more (suc zero) a b v x s l = refl
told_more (suc (suc c)) a b v x s l = absurd (omega arith)

module _ (q : Resampler) (d : Dimensioned q) (p : Passing q) (table real imaginary : List Float) (room : 32 * q.arm ≤ length table) where
  spot_going : (n : ℕ) (y : Float) → Going q n y → spot_of y ≡ spotted (placed_of y)
  spot_going n y g = spot_is y g.sound.range g.sound.stored

  returns_is : (e : Delivery) → Going q e.count e.next → returns q table (told e) ≡ is_done q e
  returns_is e g =
      ap (is_beyond q table) (spot_going e.count e.next g)
      ∙ beyond_is q d table real imaginary room (placed_of e.next) (phase_in e.next g.sound.range g.sound.stored)

  -- one turn of each
  turn_is : (e : Delivery) → Going q e.count e.next → (placed_of e.next).position + back q ≤ q.index → loop_turn q table real imaginary (told e) ≡ told (pass_turn q table real imaginary e)
  turn_is e g due =
      let l = placed_of e.next in
      let at : l.position ≡ position e.next = ap (λ (z : Place). z.position) (placed_is e.next g.sound.range g.sound.stored) in
      let due' : position e.next + back q ≤ q.index = subst (λ (n : ℕ). n + back q ≤ q.index) at due in
      let now : l.position + back q ≡ q.index = ap (λ (n : ℕ). n + back q) at ∙ due_now q p e.count e.next g due' in
      let v : summed_of q table real imaginary (spot_of e.next) ≡ filtered_of q table real imaginary l.phase =
      ap (summed_of q table real imaginary) (spot_going e.count e.next g) ∙ summed_is q d table real imaginary room l (phase_in e.next g.sound.range g.sound.stored) now in
      (λ i. record { next = add binary64 e.next q.step; sink = (told e).sink ++ (v i ∷ []) })
      ∙ sym (told_more e.count e.first e.second (filtered_of q table real imaginary l.phase) e.next q.step (due_few q p e.count e.next g due'))

  -- and as many turns as there may be
  loop_is : (n : ℕ) (e : Delivery) → Going q e.count e.next
      → until (returns q table) (loop_turn q table real imaginary) n (told e) ≡ told (until (is_done q) (pass_turn q table real imaginary) n e)
  unfolding until
  loop_is zero e g = refl
  loop_is (suc n) e g =
      let more = loop_turn q table real imaginary in
      let ours = pass_turn q table real imaginary in
      ⊎_elim
      (λ l.
      let u = lt-ltb q.index ((placed_of e.next).position + back q) l in
      ap (λ (b : Bool). cond b (told e) (until (returns q table) more n (more (told e)))) (returns_is e g ∙ u)
      ∙ ap (λ (b : Bool). told (cond b e (until (is_done q) ours n (ours e)))) (sym u))
      (λ l.
      let u = le-ltb q.index ((placed_of e.next).position + back q) l in
      ap (λ (b : Bool). cond b (told e) (until (returns q table) more n (more (told e)))) (returns_is e g ∙ u)
      ∙ ap (until (returns q table) more n) (turn_is e g l)
      ∙ loop_is n (ours e) (going_turned q p table real imaginary e g l)
      ∙ ap (λ (b : Bool). told (cond b e (until (is_done q) ours n (ours e)))) (sym u))
      (lt_or_ge q.index ((placed_of e.next).position + back q))

  loop_ends : (n : ℕ) → 3 ≤ n → loop_of n q table real imaginary ≡ told (delivered_of q table real imaginary)
  unfolding loop_of
  loop_ends n h =
      loop_is n (start_of q.next) (going_start q p)
      ∙ ap (λ (k : ℕ). told (until (is_done q) (pass_turn q table real imaginary) k (start_of q.next))) (let e : n ≡ 2 + (n - 2) = omega arith in e)
      ∙ ap told (no_third q p table real imaginary (n - 2))

  loop_returns : (n : ℕ) → 3 ≤ n → returns q table (loop_of n q table real imaginary) ≡ true
  loop_returns n h =
      let o = outcome q p table real imaginary in
      let e = delivered_of q table real imaginary in
      ap (returns q table) (loop_ends n h) ∙ returns_is e o.going ∙ lt-ltb q.index ((placed_of e.next).position + back q) o.idle

-- ---- THE LAW

-- an answer of ours as the Rust tells it: the state, both planes of the ring, and the outputs in order
abbrev pub told_of : Sampled → Processed
told_of s = record { resampler = s.passed.resampler; real = s.real; imaginary = s.imaginary; sink = values_of s.passed }

-- a value into a state that is ready, whose next output is a value of an f64 and into which fewer than 2 ^ 52 values came, with a table of 32 arms: the Rust's loop, let run for any n turns from 3 up
module _ (r : Resampler) (k : Admitted r) (F : T (fits binary64 r.next)) (below : r.index < 2 ^ 52) (v : Complex32) (table real imaginary : List Float)
    (room : 32 * r.arm ≤ length table) (n : ℕ) (enough : 3 ≤ n) where
  pub as_the_rust : processed_of n r v table real imaginary ≡ told_of (resampled_of r v table real imaginary)
  unfolding processed_of resampled_of
  as_the_rust =
      let q = pushed_of r in
      let xs = set real r.write v.real in
      let ys = set imaginary r.write v.imaginary in
      let e = loop_ends q (pushed_dimensioned r k) (admitted_passing r k F below) table xs ys room n enough in
      λ i. record { resampler = record { arm = q.arm; half = q.half; step = q.step; index = q.index; next = (e i).next; write = q.write }; real = xs; imaginary = ys; sink = (e i).sink }

  -- and the Rust's loop has returned by its test, however long it is let run
  pub returns_by_its_test : returns (pushed_of r) table (loop_of n (pushed_of r) table (slice_set real r.write v.real) (slice_set imaginary r.write v.imaginary)) ≡ true
  returns_by_its_test = loop_returns (pushed_of r) (pushed_dimensioned r k) (admitted_passing r k F below) table (slice_set real r.write v.real) (slice_set imaginary r.write v.imaginary) room n enough
