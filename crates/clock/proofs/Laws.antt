-- The place after a symbol in closed form, the clock's ways out, and the clock's theorems: the ring's assertion holds, the first place is never negative,
-- the count covers what is dropped, and what is admitted stays admitted. Assumes nothing.
use Rattle.std.specs.Prelude.{◌≡◌, ℕ, zero, suc, ◌+◌, ◌-◌, ◌*◌, ◌%◌, ◌<◌, ◌≤◌, Bool, true, false, cond, not, ◌||◌, ltb, List, Option, Some, None, ℤ, pos, ◌+ℤ◌, nat_lt, slice_set, unsigned_abs, refl, Float}
use Rattle.std.proofs.Common.{mod-lt, mod-eq_of_lt, arith, sym, ap₂, ◌∙◌, subst, inl, inr, ⊎_elim, true≢false, lt-ltb, le-ltb, ltb-false}
use Rattle.std.proofs.Math.Nat.{mod-add-mod}
use Rattle.std.proofs.Math.Path.{ap}
use Rattle.std.proofs.Math.IntN.{+ℤ_assoc}
use Rattle.std.specs.Float.{binary32}
use Rattle.std.specs.Float.Ieee.{of_bits, add, le}
use Rattle.numbers.specs.Constants.{zero32}
use Rattle.laws.specs.Turns.{turns, turns_end, until, until_stop, until_turn}
use Rattle.laws.specs.Branches.{cond_yes, cond_no}
use Rattle.laws.specs.Ring.{lt_or_ge}
use Rattle.laws.specs.FloatSums.{in_wider}
use Rattle.numbers.specs.Numbers.{clamp_of}
use Rattle.complex.specs.declared.Complex32.{Complex32}
use Rattle.filter.specs.Filter.{Windows, matched_of}
use Rattle.clock.specs.declared.ClockPlace.{ClockPlace}
use Rattle.clock.specs.declared.Due.{Due}
use Rattle.clock.specs.declared.Stepped.{Stepped}
use Rattle.clock.specs.Clock.{fresh_place, thirty_two, minus16, f48, turning_of, drop_one, dropped_of, negative, at_least0, first_of, waiting_of, timed_warm_of, taken_of, warmed_of, timed_of, windows_of, Ticked, ticked_of, ClockStep, with_windows, stepped_of, tenth, minus_tenth, Moving, move_turn, moved_of, updated_of}
use Rattle.clock.specs.Ranges.{PhaseFits, PhaseTurned, ErrorFits, Admitted, Taken, After}
use Rattle.clock.proofs.Ranged.{Same, Found, found}
use Rattle.clock.specs.Update.{moved_fits}

-- ---- `while position > 12`
abbrev placed : Float → Float → ℕ → ℕ → ℕ → ClockPlace
placed p r s n q = record { start = s; count = n; position = q; warm = true; phase = p; rate = r }

abbrev settled : ClockPlace → Bool
settled c = not (nat_lt 12 c.position)

drops : (p r : Float) (d fuel s n : ℕ) → d ≤ fuel → s < 256 → until settled drop_one fuel (placed p r s n (12 + d)) ≡ placed p r ((s + d) % 256) (n - d) 12
drops p r zero fuel s n h l =
    let e : (s + 0) % 256 ≡ s = ap (λ (z : ℕ). z % 256) zero_right ∙ mod-eq_of_lt l in
    until_stop settled drop_one fuel (placed p r s n 12) refl ∙ rw (e, none)
  where
    none : n - 0 ≡ n
    none = omega arith

    zero_right : s + 0 ≡ s
    zero_right = omega arith
drops p r (suc d) zero s n h l = absurd (omega arith)
drops p r (suc d) (suc f) s n h l =
    let t : ltb 12 (12 + suc d) ≡ true = lt-ltb 12 (12 + suc d) (omega arith) in
    let a : 12 + suc d - 1 ≡ 12 + d = omega arith in
    let b : suc f - 1 ≡ f = omega arith in
    let x : n - 1 - d ≡ n - suc d = omega arith in
    let y : s + 1 + d ≡ s + suc d = omega arith in
    sym (until_turn settled drop_one (suc f) (placed p r s n (12 + suc d)) (omega arith) (ap not t))
    ∙ ap₂ (λ (g q : ℕ). until settled drop_one g (placed p r ((s + 1) % 256) (n - 1) q)) b a
    ∙ drops p r d f ((s + 1) % 256) (n - 1) (omega arith) (mod-lt (s + 1) (omega arith))
    ∙ ap₂ (λ (u v : ℕ). placed p r u v 12) (mod-add-mod (s + 1) 256 d ∙ ap (λ (z : ℕ). z % 256) y) x

pub dropped_is : (p r : Float) (s n q d : ℕ) → s < 256 → d ≡ q - 12 → placed p r ((s + d) % 256) (n - d) (q - d) ≡ dropped_of (placed p r s n q)
unfolding dropped_of
dropped_is p r s n q d l e = ⊎_elim
    (λ (h : q < 12).
    let z : d ≡ 0 = omega arith in
    let t : ltb 12 q ≡ false = le-ltb 12 q (omega arith) in
    let a : s + 0 ≡ s = omega arith in
    let b : n - 0 ≡ n = omega arith in
    let c : q - 0 ≡ q = omega arith in
    rw (z, a, b, c, mod-eq_of_lt l) (sym (until_stop settled drop_one q (placed p r s n q) (ap not t))))
    (λ (h : 12 ≤ q).
    let a : q - d ≡ 12 = omega arith in
    let b : 12 + d ≡ q = omega arith in
    rw a (sym (drops p r d q s n (omega arith) l) ∙ ap (λ (z : ℕ). until settled drop_one q (placed p r s n z)) b))
    (lt_or_ge q 12)

-- ---- where the first window begins
first_is : (c : ClockPlace) (p : Float) (arm a : ℕ) → Same p arm a (turning_of c.phase) → 1 ≤ c.position → first_of c ≡ pos (c.position + a - 1)
unfolding first_of
first_is c p arm a s h =
    let e : c.position - 1 + 1 ≡ c.position = omega arith in
    let f : c.position - 1 + a ≡ c.position + a - 1 = omega arith in
    ap (λ (z : ℕ). pos z +ℤ (turning_of c.phase).shift) (sym e)
    ∙ +ℤ_assoc (pos (c.position - 1)) (pos 1) (turning_of c.phase).shift
    ∙ ap (λ (z : ℤ). pos (c.position - 1) +ℤ z) s.shifts
    ∙ ap pos f

-- ---- the two ways out of a warm clock: n is where the first window begins
abbrev symbol_with : ClockPlace → ℤ → Float → ℤ → Stepped
symbol_with c first phase arm = record {
  place = dropped_of (record { start = c.start; count = c.count; position = at_least0 (first +ℤ pos 4); warm = true; phase = phase; rate = c.rate });
  due = Some (record { arm = unsigned_abs arm; from = (c.start + unsigned_abs first) % 256 });
}

abbrev warm_with : ClockPlace → ℤ → Float → ℤ → Stepped
warm_with c first phase arm = cond (negative first || nat_lt c.count (unsigned_abs first + 33 + 2 * 20)) (waiting_of c) (symbol_with c first phase arm)

warm_with_lem : (c : ClockPlace) (f : ℤ) (p : Float) (a : ℤ) → first_of c ≡ f → (turning_of c.phase).phase ≡ p → (turning_of c.phase).arm ≡ a → timed_warm_of c ≡ warm_with c f p a
unfolding timed_warm_of
warm_with_lem c f p a e1 e2 e3 = ap (λ (z : ℤ). warm_with c z (turning_of c.phase).phase (turning_of c.phase).arm) e1 ∙ ap₂ (warm_with c f) e2 e3

module _ (c : ClockPlace) (p : Float) (arm a n : ℕ) (s : Same p arm a (turning_of c.phase)) (h : 1 ≤ c.position) (e : n ≡ c.position + a - 1) where
  warm_at : warm_with c (pos n) p (pos arm) ≡ timed_warm_of c
  warm_at = sym (warm_with_lem c (pos n) p (pos arm) (first_is c p arm a s h ∙ ap pos (sym e)) (sym s.phases) s.arms)

  pub warm_not : c.count < n + 73 → waiting_of c ≡ timed_warm_of c
  warm_not l =
      let k : ltb c.count (n + 33 + 2 * 20) ≡ true = lt-ltb c.count (n + 33 + 2 * 20) (omega arith) in
      cond_yes (nat_lt c.count (n + 33 + 2 * 20)) (waiting_of c) (symbol_with c (pos n) p (pos arm)) k ∙ warm_at

  pub warm_due : (z : ClockPlace) → n + 73 ≤ c.count → z ≡ dropped_of (placed p c.rate c.start c.count (n + 4))
      → ◌≡◌ {A = Stepped} (record { place = z; due = Some (record { arm = arm; from = (c.start + n) % 256 }) }) (timed_warm_of c)
  warm_due z l q =
      let k : ltb c.count (n + 33 + 2 * 20) ≡ false = le-ltb c.count (n + 33 + 2 * 20) (omega arith) in
      ap (λ (z : ClockPlace). record { place = z; due = Some (record { arm = arm; from = (c.start + n) % 256 }) }) q
      ∙ cond_no (nat_lt c.count (n + 33 + 2 * 20)) (waiting_of c) (symbol_with c (pos n) p (pos arm)) _ k refl
      ∙ warm_at

-- ---- the three ways out of a clock that has taken its sample
pub timed_hot : (c : ClockPlace) → c.warm ≡ true → timed_warm_of c ≡ timed_of c
unfolding timed_of
timed_hot c w = rw w

pub timed_cold : (c : ClockPlace) → c.warm ≡ false → c.count < 83 → waiting_of c ≡ timed_of c
unfolding timed_of
timed_cold c w l = let k : ltb c.count (6 + 33 + 4 + 2 * 20) ≡ true = lt-ltb c.count 83 l in rw (w, k)

pub timed_first : (c : ClockPlace) → c.warm ≡ false → 83 ≤ c.count → timed_warm_of (warmed_of c) ≡ timed_of c
unfolding timed_of
timed_first c w l = let k : ltb c.count (6 + 33 + 4 + 2 * 20) ≡ false = le-ltb c.count 83 l in rw (w, k)

-- ---- THE RING'S ASSERTION holds at every admitted place
pub assertion_holds : (c : ClockPlace) → Admitted c → c.count < 256
assertion_holds c f = go c.warm refl
  where
    go : (b : Bool) → c.warm ≡ b → c.count < 256
    go true w = let h = f.hot w in let x = h.1 in let y = h.2 in omega arith
    go false w = let y = (f.cold w).1 in omega arith

-- THE FIRST PLACE is never negative
pub first_natural : (c : ClockPlace) → Taken c → negative (first_of c) ≡ false
first_natural c t =
    let r = found c.phase t.phase in
    let x = t.least in
    ap negative (first_is c r.phase r.arm r.ahead r.same (omega arith))

-- THE COUNT covers what is dropped, wherever a symbol is due
pub dropped_covered : (c : ClockPlace) → Taken c → negative (first_of c) || nat_lt c.count (unsigned_abs (first_of c) + 33 + 2 * 20) ≡ false → at_least0 (first_of c +ℤ pos 4) - 12 ≤ c.count
dropped_covered c t h =
    let r = found c.phase t.phase in
    let x = t.least in
    let n = c.position + r.ahead - 1 in
    let e : first_of c ≡ pos n = first_is c r.phase r.arm r.ahead r.same (omega arith) in
    let k : ltb c.count (n + 33 + 2 * 20) ≡ false = subst (λ (z : ℤ). negative z || nat_lt c.count (unsigned_abs z + 33 + 2 * 20) ≡ false) e h in
    let l : n + 33 + 2 * 20 ≤ c.count = ltb-false c.count (n + 33 + 2 * 20) k in
    subst (λ (z : ℤ). at_least0 (z +ℤ pos 4) - 12 ≤ c.count) (sym e) (omega arith)

-- ---- what stays admitted
pub taken_hot : (c : ClockPlace) → Admitted c → c.warm ≡ true → Taken (taken_of c)
taken_hot c f w =
    let h = f.hot w in
    let z = h.2 in
    record { start = f.start; warm = w; least = h.0; most = h.1; count = omega arith; phase = f.phase; rate = f.rate }

pub taken_first : (c : ClockPlace) → Admitted c → c.warm ≡ false → Taken (warmed_of (taken_of c))
taken_first c f w =
    let h = (f.cold w).1 in
    record { start = f.start; warm = refl; least = omega arith; most = omega arith; count = omega arith; phase = f.phase; rate = f.rate }

turned_fits : (p : Float) → PhaseTurned p → PhaseFits p
unfolding le of_bits
turned_fits p (inl e) = inl e
turned_fits p (inr i) = inr (in_wider zero32 thirty_two minus16 f48 tt tt tt tt i)

kept_waiting : (c : ClockPlace) → Taken c → (n a : ℕ) → a ≤ 2 → n ≡ c.position + a - 1 → c.count < n + 73 → Admitted c
kept_waiting c t n a k e l =
    let x = t.least in
    let y = t.most in
    record { start = t.start; cold = λ z. absurd (true≢false (sym t.warm ∙ z)); hot = λ z. (x, y, omega arith); phase = t.phase; rate = t.rate }

kept_due : (c : ClockPlace) → Taken c → (p : Float) (n a d : ℕ) → a ≤ 2 → n ≡ c.position + a - 1 → d ≡ n + 4 - 12 → n + 73 ≤ c.count → PhaseTurned p
    → Admitted (placed p c.rate ((c.start + d) % 256) (c.count - d) (n + 4 - d))
kept_due c t p n a d k e f l w =
    let x = t.least in
    let y = t.most in
    let z = t.count in
    record { start = mod-lt (c.start + d) (omega arith); cold = λ z. absurd (true≢false z); hot = λ z. (omega arith, omega arith, omega arith); phase = turned_fits p w; rate = t.rate }

abbrev AfterAll : Stepped → Type 0
AfterAll s = After s.due s.place

warm_kept : (c : ClockPlace) → Taken c → AfterAll (timed_warm_of c)
warm_kept c t = go (found c.phase t.phase)
  where
    go : Found c.phase → AfterAll (timed_warm_of c)
    go r =
        let n = c.position + r.ahead - 1 in
        let x = t.least in
        let h : 1 ≤ c.position = omega arith in
        ⊎_elim
        (λ (l : c.count < n + 73). subst AfterAll (warm_not c r.phase r.arm r.ahead n r.same h refl l) (kept_waiting c t n r.ahead r.same.few refl l))
        (λ (g : n + 73 ≤ c.count).
        let d = n + 4 - 12 in
        subst AfterAll
        (warm_due c r.phase r.arm r.ahead n r.same h refl _ g (dropped_is r.phase c.rate c.start c.count (n + 4) d t.start refl))
        (kept_due c t r.phase n r.ahead d r.same.few refl refl g r.same.range, r.same.range, r.same.small, mod-lt (c.start + n) (omega arith)))
        (lt_or_ge c.count (n + 73))

-- ADMITTED IN, ADMITTED OUT: a step
pub timed_kept : (c : ClockPlace) → Admitted c → AfterAll (timed_of (taken_of c))
timed_kept c f = go c.warm refl
  where
    go : (b : Bool) → c.warm ≡ b → AfterAll (timed_of (taken_of c))
    go true w = subst AfterAll (timed_hot (taken_of c) w) (warm_kept (taken_of c) (taken_hot c f w))
    go false w = ⊎_elim
        (λ (l : c.count + 1 < 83).
        subst AfterAll (timed_cold (taken_of c) w l)
        (record { start = f.start; cold = λ z. ((f.cold w).0, omega arith); hot = λ z. absurd (true≢false (sym z ∙ w)); phase = f.phase; rate = f.rate }))
        (λ (g : 83 ≤ c.count + 1). subst AfterAll (timed_first (taken_of c) w g) (warm_kept (warmed_of (taken_of c)) (taken_first c f w)))
        (lt_or_ge (c.count + 1) 83)

-- and an update after a symbol
pub update_kept : (c : ClockPlace) (e : Float) → Admitted c → PhaseTurned c.phase → ErrorFits e → Admitted (updated_of c e)
unfolding updated_of
update_kept c e f p i =
    let k = moved_fits e (record { rate = c.rate; phase = c.phase }) i f.rate p in
    record { start = f.start; cold = f.cold; hot = f.hot; phase = k.1; rate = k.0 }

-- so a step, with an update after a symbol, keeps the admitted ranges
abbrev pub followed_of : Option Due → ClockPlace → Float → ClockPlace
followed_of None c e = c
followed_of (Some symbol) c e = updated_of c e

pub followed_kept : (a : Option Due) (c : ClockPlace) (e : Float) → After a c → ErrorFits e → Admitted (followed_of a c e)
followed_kept None c e h i = h
followed_kept (Some symbol) c e h i = update_kept c e h.0 h.1 i

pub step_update_kept : (c : ClockPlace) (e : Float) → Admitted c → ErrorFits e → Admitted (followed_of (timed_of (taken_of c)).due (timed_of (taken_of c)).place e)
step_update_kept c e f i = followed_kept (timed_of (taken_of c)).due (timed_of (taken_of c)).place e (timed_kept c f) i

pub fresh_admitted : Admitted fresh_place
unfolding le of_bits
fresh_admitted = record {
  start = omega arith;
  cold = λ z. (refl, omega arith);
  hot = λ z. absurd (true≢false (sym z));
  phase = inr (record { lower = tt; upper = tt });
  rate = inr (record { lower = tt; upper = tt });
}

-- ---- a sample into the ring, and the windows after it
pub ticked_is : (c : ClockPlace) (z : Complex32) (re im : List Float) (at : ℕ) (s : Stepped) → at ≡ (c.start + c.count) % 256 → s ≡ timed_of (taken_of c)
    → ◌≡◌ {A = Ticked} (record { stepped = s; real = slice_set re at z.real; imaginary = slice_set im at z.imaginary }) (ticked_of c z re im)
unfolding ticked_of
ticked_is c z re im at s e q = rw (e, q)

pub after_of : (c : ClockPlace) (s : Stepped) → Admitted c → s ≡ timed_of (taken_of c) → After s.due s.place
after_of c s f e = subst AfterAll (sym e) (timed_kept c f)

module _ (taps derivatives : List Float) (c : ClockPlace) (z : Complex32) (re im : List Float) (before : Windows) (s : Stepped) (real imaginary : List Float)
    (e : ◌≡◌ {A = Ticked} (record { stepped = s; real = real; imaginary = imaginary }) (ticked_of c z re im)) where
  step_is : (w : Windows) → w ≡ windows_of s.due taps derivatives real imaginary before
      → ◌≡◌ {A = ClockStep} (record { stepped = s; real = real; imaginary = imaginary; windows = w }) (stepped_of taps derivatives c z re im before)
  unfolding stepped_of ticked_of
  step_is w h = ap (λ (w : Windows). record { stepped = s; real = real; imaginary = imaginary; windows = w }) h ∙ ap (λ (p : Ticked). with_windows p.stepped taps derivatives p.real p.imaginary before) e

  pub step_waiting : s.due ≡ None → ◌≡◌ {A = ClockStep} (record { stepped = s; real = real; imaginary = imaginary; windows = before }) (stepped_of taps derivatives c z re im before)
  step_waiting a = step_is before (ap (λ (a : Option Due). windows_of a taps derivatives real imaginary before) (sym a))

  pub step_symbol : (symbol : Due) (w : Windows) → s.due ≡ Some symbol → w ≡ matched_of taps derivatives real imaginary symbol.arm symbol.from
      → ◌≡◌ {A = ClockStep} (record { stepped = s; real = real; imaginary = imaginary; windows = w }) (stepped_of taps derivatives c z re im before)
  step_symbol symbol w a h = step_is w (h ∙ ap (λ (a : Option Due). windows_of a taps derivatives real imaginary before) (sym a))

-- the place and what is due turn on the place alone
pub stepped_place : (taps derivatives : List Float) (c : ClockPlace) (z : Complex32) (re im : List Float) (before : Windows) → (stepped_of taps derivatives c z re im before).stepped ≡ timed_of (taken_of c)
unfolding stepped_of
stepped_place taps derivatives c z re im before = refl

-- ---- the update's loop, ended
pub update_is : (c : ClockPlace) (e p r h : Float) (k : ℕ) → ◌≡◌ {A = Moving} (record { rate = r; phase = p }) (turns (move_turn e) k (record { rate = c.rate; phase = add binary32 c.phase c.rate }))
    → k ≤ 4 → 4 ≤ k → h ≡ clamp_of r minus_tenth tenth
    → ◌≡◌ {A = ClockPlace} (record { start = c.start; count = c.count; position = c.position; warm = c.warm; phase = p; rate = h }) (updated_of c e)
unfolding updated_of moved_of
update_is c e p r h k q a b w =
    let y = turns_end (move_turn e) k 4 (record { rate = c.rate; phase = add binary32 c.phase c.rate }) (record { rate = r; phase = p }) q a b in
    ap₂ (λ (p r : Float). record { start = c.start; count = c.count; position = c.position; warm = c.warm; phase = p; rate = r })
    (ap (λ (m : Moving). m.phase) y) (w ∙ ap (λ (m : Moving). clamp_of m.rate minus_tenth tenth) y)

-- the filter may be run for a symbol
pub after_symbol : (a : Option Due) (p : ClockPlace) (symbol : Due) → a ≡ Some symbol → After a p → (symbol.arm < 32) × (symbol.from < 256)
after_symbol a p symbol e h = let k = subst (λ (z : Option Due). After z p) e h in (k.2, k.3)
