-- The resampler's test passes exactly where its ranges hold. From an admitted resampler a value makes at most two outputs, no third one is due and nothing is pending after it, the next output lies
-- within 0 to 600 past the values that came in, and the resampler is admitted again. Assumes nothing.
use Rattle.std.specs.Prelude.{◌≡◌, ℕ, zero, suc, ◌+◌, ◌-◌, ◌*◌, ◌/◌, ◌^◌, ◌<◌, ◌≤◌, Bool, true, false, cond, ◌&&◌, T, List, pos, ◌==◌, nat_le, nat_lt, slice_set, Float}
use Rattle.std.proofs.Math.Path.{refl, ap, subst}
use Rattle.std.proofs.Common.{sym, ◌∙◌, true≢false, le_trans, mul-one, mul_right_comm, mul-le-mul_right, le_of_mul-le-mul_right, zero-add, mod-lt, eqb→eq, leb→le, ltb→lt, lt-ltb, le-ltb, ltb-true, ltb-false, le-leb, eq-eqb}
use Rattle.std.proofs.Math.Logic.{⊎_elim}
use Rattle.std.proofs.lemmas.Bool.{false≢true}
use native.Mathlib.Omega.{arith}
use Rattle.std.specs.Float.{nan, inf, fin}
use Rattle.std.specs.Float.Ieee.{binary64, of_int, add, le, fits, round, up, down, of_bits}
use Rattle.std.specs.Float.Ieee.Bits.{is_true}
use Rattle.std.specs.Float.Ieee.Exact.{HasValue}
use Rattle.std.specs.Float.Ieee.Fits.{and_l, and_r}
use Rattle.std.specs.Float.Ieee.Back.{round_whole}
use Rattle.std.specs.Float.Ieee.Scale.{finite}
use Rattle.std.specs.Float.Ieee.Positive.{den, den_pos}
use Rattle.laws.specs.Turns.{until, until_stop, until_next}
use Rattle.laws.specs.Places.{le_or}
use Rattle.laws.specs.Ring.{lt_or_ge}
use Rattle.complex.specs.Complex.{zero_pair}
use Rattle.complex.specs.declared.Complex32.{Complex32}
use Rattle.laws.specs.FloatOrder.{plus, minus, le→, →le}
use Rattle.laws.specs.FloatSums.{In, in_finite}
use Rattle.laws.specs.FloatFractions.{AtMost}
use Rattle.resampler.specs.declared.pass.Resampler.{Resampler}
use Rattle.resampler.specs.declared.pass.Place.{Place}
use Rattle.resampler.specs.declared.pass.Delivery.{Delivery}
use Rattle.resampler.specs.Pass.{placed_of, waiting_of, filtered_of, start_of, emitted_of, is_done, pass_turn, delivered_of, pushed_of, passed_of, Sampled, resampled_of, sizes_ok, ranges_ok, admitted_of}
use Rattle.resampler.specs.Outputs.{position, Sound, two_on, at_most_two, sound_next, within_600, no_minus}
use Rattle.resampler.specs.Ticks.{placed_is}
use Rattle.resampler.specs.Admitted.{f0, half, twenty, far, back, Admitted, Dimensioned, PassKeeps}

-- ---- x is at most the whole number n
int_value : (n : ℕ) → n ≤ 2 ^ 53 → HasValue (of_int binary64 (pos n)) false n 1
unfolding of_int
int_value n h = round_whole binary64 false n h

cancel_le : (P N D E M n : ℕ) → 0 < E → M * 1 ≡ n * E → P * E + 0 * D ≤ M * D + N * E → P * 1 ≤ n * D + N * 1
cancel_le P N D E M n h v l =
    let m : M * D ≡ n * D * E = ap (λ (k : ℕ). k * D) (sym (mul-one M) ∙ v) ∙ mul_right_comm n E D in
    let g : P * E ≤ (n * D + N) * E = omega arith in
    let k : P ≤ n * D + N = le_of_mul-le-mul_right g h in
    omega arith

cancel_ge : (P N D E M n : ℕ) → M * 1 ≡ n * E → P * 1 ≤ n * D + N * 1 → P * E + 0 * D ≤ M * D + N * E
cancel_ge P N D E M n v l =
    let m : M * D ≡ n * D * E = ap (λ (k : ℕ). k * D) (sym (mul-one M) ∙ v) ∙ mul_right_comm n E D in
    let g : P * E ≤ (n * D + N) * E = mul-le-mul_right E (let k : P ≤ n * D + N = omega arith in k) in
    omega arith

below_whole : (x y : Float) (n : ℕ) → T (finite x) → HasValue y false n 1 → T (le x y) → AtMost x n 1
below_whole x nan n F v l = absurd v
below_whole x (inf s) n F v l = absurd v
below_whole x (fin true m e) n F v l = absurd (true≢false v.0)
below_whole x (fin false m e) n F v l = cancel_le (plus x) (minus x) (den x) (down e) (m * up e) n (den_pos (fin false m e)) v.1 (le→ x (fin false m e) F tt l)

whole_above : (x y : Float) (n : ℕ) → T (finite x) → HasValue y false n 1 → AtMost x n 1 → T (le x y)
whole_above x nan n F v l = absurd v
whole_above x (inf s) n F v l = absurd v
whole_above x (fin true m e) n F v l = absurd (true≢false v.0)
whole_above x (fin false m e) n F v l = →le x (fin false m e) F tt (cancel_ge (plus x) (minus x) (den x) (down e) (m * up e) n v.1 l)

-- ---- whole numbers as floats
value_finite : (y : Float) (n : ℕ) → HasValue y false n 1 → T (finite y)
value_finite nan n v = absurd v
value_finite (inf s) n v = absurd v
value_finite (fin s m e) n v = tt

whole_most : (y : Float) (n k : ℕ) → HasValue y false n 1 → n ≤ k → AtMost y k 1
whole_most nan n k v l = absurd v
whole_most (inf s) n k v l = absurd v
whole_most (fin true m e) n k v l = absurd (true≢false v.0)
whole_most (fin false m e) n k v l = let h = mul-le-mul_right (down e) l in let w = v.1 in omega arith

pub whole_le : (n k : ℕ) → n ≤ k → k ≤ 2 ^ 53 → T (le (of_int binary64 (pos n)) (of_int binary64 (pos k)))
whole_le n k l h =
    let v = int_value n (le_trans l h) in
    whole_above (of_int binary64 (pos n)) (of_int binary64 (pos k)) k (value_finite (of_int binary64 (pos n)) n v) (int_value k h) (whole_most (of_int binary64 (pos n)) n k v l)

pub whole_from_zero : (n : ℕ) → n ≤ 2 ^ 53 → T (le f0 (of_int binary64 (pos n)))
unfolding of_int round
whole_from_zero n h = whole_le 0 n (omega arith) h

most_more : (x : Float) (a b : ℕ) → a ≤ b → AtMost x a 1 → AtMost x b 1
most_more x a b l h = let k : a * den x ≤ b * den x = mul-le-mul_right (den x) l in omega arith

-- ---- a loop that has come to its end is not changed by more turns
until_enough : {A : Type 0} (stop : A → Bool) (f : A → A) (n m : ℕ) (a : A) → stop (until stop f n a) ≡ true → until stop f (n + m) a ≡ until stop f n a
unfolding until
until_enough stop f zero m a h = ap (λ (k : ℕ). until stop f k a) (zero-add m) ∙ until_stop stop f m a h
until_enough stop f (suc n) m a h = ap (λ (k : ℕ). until stop f k a) (let e : suc n + m ≡ suc (n + m) = omega arith in e) ∙ go (stop a) (until_enough stop f n m (f a)) h
  where
    go : (b : Bool) → (stop (until stop f n (f a)) ≡ true → until stop f (n + m) (f a) ≡ until stop f n (f a)) → stop (cond b a (until stop f n (f a))) ≡ true → cond b a (until stop f (n + m) (f a)) ≡ cond b a (until stop f n (f a))
    go true k h = refl
    go false k h = k h

-- ---- a next output within 600 of the values that came in
module _ (index : ℕ) (few : index ≤ 2 ^ 52) (x : Float) (i : In f0 (of_int binary64 (pos (index + 600))) x) where
  limit : index + 600 ≤ 2 ^ 53
  limit = omega arith

  near_finite : T (finite x)
  near_finite = in_finite f0 (of_int binary64 (pos (index + 600))) x tt (value_finite (of_int binary64 (pos (index + 600))) (index + 600) (int_value (index + 600) limit)) i

  near_most : AtMost x (index + 600) 1
  near_most = below_whole x (of_int binary64 (pos (index + 600))) (index + 600) near_finite (int_value (index + 600) limit) i.upper

  pub near_far : In f0 far x
  near_far = record { lower = i.lower; upper = whole_above x far (2 ^ 53) near_finite (refl, refl) (most_more x (index + 600) (2 ^ 53) limit near_most) }

admitted_sound : (r : Resampler) → Admitted r → T (fits binary64 r.next) → Sound r.next r.step
admitted_sound r k F = record { range = near_far r.index k.index_in r.next k.next_in; stored = F; step = k.step_in }

-- ---- the pass, once a value is in

-- n steps on from x
unfoldable pub on : ℕ → Float → Float → Float
on zero x s = x
on (suc n) x s = add binary64 (on n x s) s

-- before the pass: the value that came in is the last that the next output can wait for
pub record Passing (q : Resampler) : Type 0 where
  pub far_back : 0 < back q
  pub total : q.index ≤ 2 ^ 52
  pub sound : Sound q.next q.step
  pub due_latest : q.index ≤ position q.next + back q
  pub ahead : AtMost q.next (q.index + 600) 1

-- after n outputs of it
pub record Going (q : Resampler) (n : ℕ) (y : Float) : Type 0 where
  pub few : n ≤ 2
  pub steps : y ≡ on n q.next q.step
  pub sound : Sound y q.step
  pub ahead : AtMost y (q.index + 600) 1

module _ (q : Resampler) (p : Passing q) where
  pub going_start : Going q 0 q.next
  unfolding on
  going_start = record { few = omega arith; steps = refl; sound = p.sound; ahead = p.ahead }

  third : q.index < position (two_on q.next q.step) + back q
  third =
      let w = p.sound in
      at_most_two q.next q.step w (back q) q.index (no_minus q.next (in_finite f0 far q.next tt tt w.range) w.range.lower) p.far_back p.total p.due_latest

  -- an output that is due is not the third
  pub due_few : (n : ℕ) (y : Float) → Going q n y → position y + back q ≤ q.index → n < 2
  unfolding on
  due_few n y g due =
      ⊎_elim (λ l. l)
      (λ e.
      let m : y ≡ two_on q.next q.step = g.steps ∙ ap (λ (z : ℕ). on z q.next q.step) e in
      let d : position (two_on q.next q.step) + back q ≤ q.index = subst (λ (z : Float). position z + back q ≤ q.index) m due in
      let t = third in
      absurd (omega arith))
      (le_or n 2 g.few)

  pub going_on : (n : ℕ) (y : Float) → Going q n y → n < 2 → position y + back q ≤ q.index → Going q (n + 1) (add binary64 y q.step)
  unfolding on
  going_on n y g l due = record {
    few = omega arith;
    steps = ap (λ (z : Float). add binary64 z q.step) g.steps ∙ ap (λ (z : ℕ). on z q.next q.step) (let e : suc n ≡ n + 1 = omega arith in e);
    sound = sound_next y q.step g.sound (back q) q.index p.total due;
    ahead = within_600 y q.step g.sound (back q) q.index p.total due;
  }

-- what a pass leaves
pub record Outcome (q : Resampler) (d : Delivery) : Type 0 where
  pub going : Going q d.count d.next
  -- no output is due any more
  pub idle : q.index < (placed_of d.next).position + back q

place_position : (q : Resampler) (n : ℕ) (y : Float) → Going q n y → (placed_of y).position ≡ position y
place_position q n y g = ap (λ (z : Place). z.position) (placed_is y g.sound.range g.sound.stored)

pub count_emitted : (d : Delivery) (s : Float) (v : Complex32) → (emitted_of d s v).count ≡ d.count + 1
unfolding emitted_of
count_emitted d s v = go (d.count == 0)
  where
    go : (b : Bool) → (cond {A = Delivery} b (record { count = d.count + 1; first = v; second = d.second; next = add binary64 d.next s }) (record { count = d.count + 1; first = d.first; second = v; next = add binary64 d.next s })).count ≡ d.count + 1
    go true = refl
    go false = refl

pub next_emitted : (d : Delivery) (s : Float) (v : Complex32) → (emitted_of d s v).next ≡ add binary64 d.next s
unfolding emitted_of
next_emitted d s v = go (d.count == 0)
  where
    go : (b : Bool) → (cond {A = Delivery} b (record { count = d.count + 1; first = v; second = d.second; next = add binary64 d.next s }) (record { count = d.count + 1; first = d.first; second = v; next = add binary64 d.next s })).next ≡ add binary64 d.next s
    go true = refl
    go false = refl

module _ (q : Resampler) (p : Passing q) (table real imaginary : List Float) where
  abbrev pub turned : Delivery → Delivery
  turned = pass_turn q table real imaginary

  pub going_turned : (d : Delivery) → Going q d.count d.next → (placed_of d.next).position + back q ≤ q.index → Going q (turned d).count (turned d).next
  going_turned d g due =
      let e : position d.next + back q ≤ q.index = subst (λ (n : ℕ). n + back q ≤ q.index) (place_position q d.count d.next g) due in
      let v = filtered_of q table real imaginary (placed_of d.next).phase in
      subst (λ (n : ℕ). Going q n (turned d).next) (sym (count_emitted d q.step v))
      (subst (λ (y : Float). Going q (d.count + 1) y) (sym (next_emitted d q.step v)) (going_on q p d.count d.next g (due_few q p d.count d.next g e) e))

  ends : (n : ℕ) (d : Delivery) → n + d.count ≡ 2 → Going q d.count d.next → Outcome q (until (is_done q) turned n d)
  unfolding until
  ends zero d e g =
      ⊎_elim
      (λ l. record { going = g; idle = l })
      (λ l. let k = due_few q p d.count d.next g (subst (λ (n : ℕ). n + back q ≤ q.index) (place_position q d.count d.next g) l) in absurd (omega arith))
      (lt_or_ge q.index ((placed_of d.next).position + back q))
  ends (suc n) d e g =
      ⊎_elim
      (λ l. subst (λ (b : Bool). Outcome q (cond b d (until (is_done q) turned n (turned d)))) (sym (lt-ltb q.index ((placed_of d.next).position + back q) l)) (record { going = g; idle = l }))
      (λ l.
      let c = count_emitted d q.step (filtered_of q table real imaginary (placed_of d.next).phase) in
      subst (λ (b : Bool). Outcome q (cond b d (until (is_done q) turned n (turned d)))) (sym (le-ltb q.index ((placed_of d.next).position + back q) l)) (ends n (turned d) (next_count (turned d).count d.count c e) (going_turned d g l)))
      (lt_or_ge q.index ((placed_of d.next).position + back q))
    where
      next_count : (a b : ℕ) → a ≡ b + 1 → suc n + b ≡ 2 → n + a ≡ 2
      next_count a b h k = omega arith

  pub outcome : Outcome q (delivered_of q table real imaginary)
  unfolding delivered_of
  outcome = ends 2 (start_of q.next) refl (going_start q p)

  -- however long the loop is let run, no third output comes
  pub no_third : (n : ℕ) → until (is_done q) (pass_turn q table real imaginary) (2 + n) (start_of q.next) ≡ delivered_of q table real imaginary
  unfolding delivered_of
  no_third n = until_enough (is_done q) (pass_turn q table real imaginary) 2 n (start_of q.next) (lt-ltb q.index ((placed_of (delivered_of q table real imaginary).next).position + back q) outcome.idle)

-- ---- a value into an admitted resampler
module _ (r : Resampler) (k : Admitted r) (F : T (fits binary64 r.next)) (room : r.index < 2 ^ 52) where
  half_less : r.half < r.arm
  half_less = let a = k.arm_low in let b = k.half_is in omega arith

  pub admitted_passing : Passing (pushed_of r)
  admitted_passing =
      let w = admitted_sound r k F in
      let e : (placed_of r.next).position ≡ position r.next = ap (λ (z : Place). z.position) (placed_is r.next w.range F) in
      let i = k.idle in
      record {
        far_back = let l = half_less in omega arith;
        total = omega arith;
        sound = w;
        due_latest = subst (λ (n : ℕ). r.index + 1 ≤ n + back r) e (omega arith);
        ahead = most_more r.next (r.index + 600) (r.index + 1 + 600) (omega arith) (near_most r.index k.index_in r.next k.next_in);
      }

  module _ (table real imaginary : List Float) where
    -- THE THEOREM: at most two outputs, and a resampler that is admitted again
    pub at_most_two_outputs : (delivered_of (pushed_of r) table real imaginary).count ≤ 2
    at_most_two_outputs = (outcome (pushed_of r) admitted_passing table real imaginary).going.few

    pub next_stored : T (fits binary64 (delivered_of (pushed_of r) table real imaginary).next)
    next_stored = (outcome (pushed_of r) admitted_passing table real imaginary).going.sound.stored

    pub admitted_again : Admitted (passed_of (pushed_of r) (delivered_of (pushed_of r) table real imaginary)).resampler
    admitted_again =
        let o = outcome (pushed_of r) admitted_passing table real imaginary in
        let y = (delivered_of (pushed_of r) table real imaginary).next in
        let g = o.going in
        record {
          arm_low = k.arm_low;
          arm_high = k.arm_high;
          half_is = k.half_is;
          write_in = mod-lt (r.write + 1) (omega arith);
          index_in = omega arith;
          step_in = k.step_in;
          next_in = record {
            lower = g.sound.range.lower;
            upper = whole_above y (of_int binary64 (pos (r.index + 1 + 600))) (r.index + 1 + 600) (in_finite f0 far y tt tt g.sound.range) (int_value (r.index + 1 + 600) (omega arith)) g.ahead;
          };
          idle = o.idle;
        }

-- ---- the code's loop, and where it stands: outputs are made, and what is left to do is what is left of the whole pass
pub record Stands (q : Resampler) (table real imaginary : List Float) (d : Delivery) : Type 0 where
  pub going : Going q d.count d.next
  pub left : until (is_done q) (pass_turn q table real imaginary) (2 - d.count) d ≡ delivered_of q table real imaginary

module _ (q : Resampler) (p : Passing q) (table real imaginary : List Float) where
  pub stands_first : (z : Complex32) → z ≡ zero_pair → Stands q table real imaginary (record { count = 0; first = z; second = z; next = q.next })
  unfolding delivered_of
  stands_first z e = record { going = going_start q p; left = rw e }

  module _ (d : Delivery) (s : Stands q table real imaginary d) (l : Place) (pe : l ≡ placed_of d.next) (due : waiting_of q l ≡ false) where
    due_place : (placed_of d.next).position + back q ≤ q.index
    due_place = ltb-false q.index ((placed_of d.next).position + back q) (ap (waiting_of q) (sym pe) ∙ due)

    pub stands_few : d.count < 2
    stands_few = due_few q p d.count d.next s.going (subst (λ (n : ℕ). n + back q ≤ q.index) (place_position q d.count d.next s.going) due_place)

    module _ (v : Complex32) (e : Delivery) (ve : v ≡ filtered_of q table real imaginary l.phase) (ee : e ≡ emitted_of d q.step v) where
      turn_is : e ≡ pass_turn q table real imaginary d
      turn_is = ee ∙ ap (emitted_of d q.step) (ve ∙ ap (λ (k : Place). filtered_of q table real imaginary k.phase) pe)

      pub one_output : e.count ≡ d.count + 1
      one_output = ap (λ (t : Delivery). t.count) ee ∙ count_emitted d q.step v

      pub stands_next : Stands q table real imaginary e
      stands_next =
          let f = stands_few in
          let c = one_output in
          record {
            going = subst (λ (t : Delivery). Going q t.count t.next) (sym turn_is) (going_turned q p table real imaginary d s.going due_place);
            left =
                ap (λ (n : ℕ). until (is_done q) (pass_turn q table real imaginary) n e) (let g : 2 - e.count ≡ 2 - d.count - 1 = omega arith in g)
                ∙ until_next (is_done q) (pass_turn q table real imaginary) (2 - d.count) d e (delivered_of q table real imaginary) turn_is (omega arith) (ap (waiting_of q) (sym pe) ∙ due) s.left;
          }

  pub stands_last : (d : Delivery) → Stands q table real imaginary d → (l : Place) → l ≡ placed_of d.next → waiting_of q l ≡ true → d ≡ delivered_of q table real imaginary
  stands_last d s l pe w = sym (until_stop (is_done q) (pass_turn q table real imaginary) (2 - d.count) d (ap (waiting_of q) (sym pe) ∙ w)) ∙ s.left

-- ---- a value in, from what the two calls promise
pub admitted_dimensioned : (r : Resampler) → Admitted r → Dimensioned r
admitted_dimensioned r k =
    let a = k.arm_low in
    let b = k.half_is in
    record { arm_some = omega arith; arm_high = k.arm_high; half_in = omega arith; write_in = k.write_in }

pub pushed_dimensioned : (r : Resampler) → Admitted r → Dimensioned (pushed_of r)
pushed_dimensioned r k =
    let d = admitted_dimensioned r k in
    record { arm_some = d.arm_some; arm_high = d.arm_high; half_in = d.half_in; write_in = mod-lt (r.write + 1) (omega arith) }

module _ (r : Resampler) (k : Admitted r) (F : T (fits binary64 r.next)) (room : r.index < 2 ^ 52) (q : Resampler) (qe : q ≡ pushed_of r) where
  pub delivered_asks : (n : ℕ) → 32 * r.arm ≤ n → Dimensioned q × (Passing q × (32 * q.arm ≤ n))
  delivered_asks n h =
      subst (λ (s : Resampler). Dimensioned s × (Passing s × (32 * s.arm ≤ n))) (sym qe) (pushed_dimensioned r k, (admitted_passing r k F room, h))

  module _ (v : Complex32) (table real imaginary xs ys : List Float) (xe : xs ≡ slice_set real r.write v.real) (ye : ys ≡ slice_set imaginary r.write v.imaginary)
      (d : Delivery) (de : d ≡ delivered_of q table xs ys) where
    pub resampled_is : ◌≡◌ {A = Sampled} (record { passed = passed_of q d; real = xs; imaginary = ys }) (resampled_of r v table real imaginary)
    unfolding resampled_of
    resampled_is =
        (λ i. record { passed = passed_of q (de i); real = xs; imaginary = ys })
        ∙ (λ i. record { passed = passed_of (qe i) (delivered_of (qe i) table (xe i) (ye i)); real = xe i; imaginary = ye i })

    pub resampled_kept : PassKeeps r (passed_of q d)
    resampled_kept =
        subst (λ (e : Delivery). PassKeeps r (passed_of q e)) (sym de)
        (subst (λ (s : Resampler). PassKeeps r (passed_of s (delivered_of s table xs ys))) (sym qe)
        (record { admitted = admitted_again r k F room table xs ys; few = at_most_two_outputs r k F room table xs ys; one_more = refl; same_arm = refl }))

-- ---- the test and its facts
sizes_say : (r : Resampler) → sizes_ok r ≡ true → (14 ≤ r.arm) × (r.arm ≤ 576) × (r.half ≡ r.arm / 2) × (r.write < r.arm + 16)
unfolding sizes_ok
sizes_say r h = go (nat_lt 576 r.arm) refl h
  where
    go : (b : Bool) → nat_lt 576 r.arm ≡ b → cond b false (nat_le 14 r.arm && r.half == r.arm / 2 && nat_lt r.write (r.arm + 16)) ≡ true
        → (14 ≤ r.arm) × (r.arm ≤ 576) × (r.half ≡ r.arm / 2) × (r.write < r.arm + 16)
    go true e h = absurd (false≢true h)
    go false e h =
        let t : T (nat_le 14 r.arm && r.half == r.arm / 2 && nat_lt r.write (r.arm + 16)) = subst T (sym h) tt in
        let u = and_l (nat_le 14 r.arm && r.half == r.arm / 2) (nat_lt r.write (r.arm + 16)) t in (
          leb→le 14 r.arm (and_l (nat_le 14 r.arm) (r.half == r.arm / 2) u),
          ltb-false 576 r.arm e,
          eqb→eq r.half (r.arm / 2) (and_r (nat_le 14 r.arm) (r.half == r.arm / 2) u),
          ltb→lt r.write (r.arm + 16) (and_r (nat_le 14 r.arm && r.half == r.arm / 2) (nat_lt r.write (r.arm + 16)) t),
        )

ranges_say : (r : Resampler) → ranges_ok r ≡ true → (r.index ≤ 2 ^ 52) × In half twenty r.step × In f0 (of_int binary64 (pos (r.index + 600))) r.next
unfolding ranges_ok of_bits
ranges_say r h = go (nat_lt (2 ^ 52) r.index) refl h
  where
    go : (b : Bool) → nat_lt (2 ^ 52) r.index ≡ b → cond b false (le half r.step && le r.step twenty && le f0 r.next && le r.next (of_int binary64 (pos (r.index + 600)))) ≡ true
        → (r.index ≤ 2 ^ 52) × In half twenty r.step × In f0 (of_int binary64 (pos (r.index + 600))) r.next
    go true e h = absurd (false≢true h)
    go false e h =
        let a = le half r.step in
        let b = le r.step twenty in
        let c = le f0 r.next in
        let d = le r.next (of_int binary64 (pos (r.index + 600))) in
        let t : T (a && b && c && d) = subst T (sym h) tt in
        let u = and_l (a && b && c) d t in
        let v = and_l (a && b) c u in
        (ltb-false (2 ^ 52) r.index e, record { lower = and_l a b v; upper = and_r a b v }, record { lower = and_r (a && b) c u; upper = and_r (a && b && c) d t })

both_true : (a b c : Bool) → cond a (cond b c false) false ≡ true → (a ≡ true) × (b ≡ true) × (c ≡ true)
both_true true true c h = (refl, refl, h)
both_true true false c h = absurd (false≢true h)
both_true false b c h = absurd (false≢true h)

pub admitted_facts : (r : Resampler) → admitted_of r ≡ true → Admitted r
unfolding admitted_of
admitted_facts r h =
    let t = both_true (sizes_ok r) (ranges_ok r) (waiting_of r (placed_of r.next)) h in
    let s = sizes_say r t.0 in
    let g = ranges_say r t.1 in
    record {
      arm_low = s.0;
      arm_high = s.1;
      half_is = s.2;
      write_in = s.3;
      index_in = g.0;
      step_in = g.1;
      next_in = g.2;
      idle = ltb-true r.index ((placed_of r.next).position + back r) t.2;
    }

pub facts_admitted : (r : Resampler) → Admitted r → admitted_of r ≡ true
unfolding admitted_of sizes_ok ranges_ok of_bits
facts_admitted r k =
    let a = is_true (le half r.step) k.step_in.lower in
    let b = is_true (le r.step twenty) k.step_in.upper in
    let c = is_true (le f0 r.next) k.next_in.lower in
    let d = is_true (le r.next (of_int binary64 (pos (r.index + 600)))) k.next_in.upper in
    rw (
      le-ltb 576 r.arm k.arm_high,
      le-leb 14 r.arm k.arm_low,
      eq-eqb r.half (r.arm / 2) k.half_is,
      lt-ltb r.write (r.arm + 16) k.write_in,
      le-ltb (2 ^ 52) r.index k.index_in,
      a,
      b,
      c,
      d,
      lt-ltb r.index ((placed_of r.next).position + back r) k.idle,
    )

-- ---- what the test's calls ask
pub sizes_dimensioned : (r : Resampler) (b : Bool) → b ≡ sizes_ok r → b ≡ true → Dimensioned r
sizes_dimensioned r b e t =
    let s = sizes_say r (sym e ∙ t) in
    let a = s.0 in
    let h = s.2 in
    record { arm_some = omega arith; arm_high = s.1; half_in = omega arith; write_in = s.3 }

pub ranges_far : (r : Resampler) (b : Bool) → b ≡ ranges_ok r → b ≡ true → In f0 far r.next
ranges_far r b e t = let g = ranges_say r (sym e ∙ t) in near_far r.index g.0 r.next g.2
