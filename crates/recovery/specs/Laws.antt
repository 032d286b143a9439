-- The stage's definition met from what its parts answer, one law for each way out of a function, and the ranges that each step keeps. Assumes nothing.
use Rattle.std.specs.Prelude.{◌≡◌, Bool, true, false, ◌&&◌, List, Option, Some, None, T, length, set, Float}
use Rattle.std.proofs.Common.{sym, ap₂, ◌∙◌, length-set}
use Rattle.std.proofs.Math.Path.{ap, subst}
use Prim.Native.Nat.{ℕ, zero, suc, ◌+◌, ◌≤◌, ◌<◌}
use native.Mathlib.Omega.{arith}
use Rattle.std.specs.Float.Ieee.{of_bits, neg, lt}
use Rattle.std.specs.Float.Ieee.Bits.{is_true}
use Rattle.std.specs.Float.Ieee.Fits.{and_l, and_r}
use Rattle.laws.specs.Turns.{turns, turns_start, turns_step}
use Rattle.numbers.specs.Constants.{one32, minus_one32}
use Rattle.complex.specs.declared.Complex32.{Complex32}
use Rattle.peak.specs.declared.KeeperPlace.{KeeperPlace}
use Rattle.peak.specs.declared.Level.{Level}
use Rattle.peak.specs.Peak as Peak
use Rattle.peak.proofs.Laws as PeakLaws
use Rattle.filter.specs.Filter.{Windows}
use Rattle.clock.specs.declared.ClockPlace.{ClockPlace}
use Rattle.clock.specs.declared.Due.{Due}
use Rattle.clock.specs.Clock as Clock
use Rattle.clock.specs.Ranges.{ErrorFits, After}
use Rattle.clock.proofs.Laws.{after_of, stepped_place, update_kept}
use Rattle.clock.specs.AdmittedLaws as ClockLaws
use Rattle.taps.specs.declared.Tables.{Tables}
use Rattle.taps.specs.Taps.{both_tables}
use Rattle.equalizer.specs.Equalizer as Equalizer
use Rattle.equalizer.specs.Laws.{timing_not_below, timing_not_above}
use Rattle.complex.specs.Planes.{point_at}
use Rattle.recovery.specs.declared.RecoveryPlace.{RecoveryPlace}
use Rattle.recovery.specs.declared.step.Found.{Found}
use Rattle.recovery.specs.Recovery.{admitted_of, RecoveryState, Step, with_keeper, with_clock, symbol_of, clocked_with, clock_step, level_of, stepped_with, stepped_of}
use Rattle.recovery.specs.Rows.{Symbols, Lent, put_of, linked_with, linked_of, row_turn, row_of, recovered_of}
use Rattle.recovery.specs.Ranges.{Admitted, KeeperRanged, Ranged, Roomy, Asks}

-- ---- a value's three ways
module _ (taps derivatives : List Float) (s : RecoveryState) (z : Complex32) (k : Peak.KeeperStep) (is_kept : k ≡ Peak.kept_of s.place.keeper z s.keeper) where
  stepped_is : (r : Step) → r ≡ stepped_with taps derivatives s k → r ≡ stepped_of taps derivatives s z
  unfolding stepped_of
  stepped_is r e = e ∙ ap (stepped_with taps derivatives s) is_kept

  pub stepped_filling : k.kept.level ≡ None
      → ◌≡◌ {A = Step}
      (record { state = record { place = record { keeper = k.kept.place; clock = s.place.clock }; keeper = k.ring; clock = s.clock; weights = s.weights }; found = None })
      (stepped_of taps derivatives s z)
  unfolding level_of
  stepped_filling l = stepped_is _ (rw l)

  module _ (level : Level) (is_level : k.kept.level ≡ Some level) (r : Clock.ClockStep)
      (is_run : r ≡ clock_step taps derivatives (with_keeper s k) level.value) where
    clocked_is : (q : Step) → q ≡ clocked_with (with_keeper s k) r level.reliable → q ≡ stepped_of taps derivatives s z
    unfolding level_of
    clocked_is q e = stepped_is q (e ∙ ap (λ (r : Clock.ClockStep). clocked_with (with_keeper s k) r level.reliable) is_run ∙ ap (λ (l : Option Level). level_of taps derivatives l (with_keeper s k)) (sym is_level))

    pub stepped_waiting : r.stepped.due ≡ None
        → ◌≡◌ {A = Step}
        (record {
          state = record { place = record { keeper = k.kept.place; clock = r.stepped.place }; keeper = k.ring; clock = record { real = r.real; imaginary = r.imaginary }; weights = s.weights };
          found = None;
        })
        (stepped_of taps derivatives s z)
    unfolding symbol_of
    stepped_waiting a = clocked_is _ (rw a)

    pub stepped_here : (symbol : Due) (e : Equalizer.Step) (clock : ClockPlace) → r.stepped.due ≡ Some symbol
        → e ≡ Equalizer.equalized_of s.weights (Equalizer.row_of r.windows.real r.windows.imaginary) (Equalizer.row_of r.windows.derivative_real r.windows.derivative_imaginary) level.reliable
        → clock ≡ Clock.updated_of r.stepped.place e.equalized.timing
        → ◌≡◌ {A = Step}
        (record {
          state = record { place = record { keeper = k.kept.place; clock = clock }; keeper = k.ring; clock = record { real = r.real; imaginary = r.imaginary }; weights = e.weights };
          found = Some (record { symbol = e.equalized.value; reliable = level.reliable });
        })
        (stepped_of taps derivatives s z)
    unfolding symbol_of
    stepped_here symbol e clock a is_e is_clock = clocked_is _ (rw (a, is_clock, is_e))

-- ---- ranges
-- THE TEST AND THE FACTS
pub admitted_facts : (p : RecoveryPlace) → admitted_of p ≡ true → Admitted p
admitted_facts p e =
    let t : T (admitted_of p) = rw e tt in
    record {
      keeper = PeakLaws.admitted_facts p.keeper (is_true _ (and_l (Peak.admitted_of p.keeper) (Clock.admitted_of p.clock) t));
      clock = ClockLaws.admitted_facts p.clock (is_true _ (and_r (Peak.admitted_of p.keeper) (Clock.admitted_of p.clock) t));
    }

pub facts_admitted : (p : RecoveryPlace) → Admitted p → admitted_of p ≡ true
facts_admitted p a = ap₂ ◌&&◌ (PeakLaws.facts_admitted p.keeper a.keeper) (ClockLaws.facts_admitted p.clock a.clock)

-- a stage whose places are admitted, and whose keeper has its 64 values, is in range
pub admitted_ranged : (s : RecoveryState) → Admitted s.place → length s.keeper.real ≡ 64 → length s.keeper.imaginary ≡ 64 → Ranged s
admitted_ranged s a r i = record { keeper = record { head = a.keeper.head; fill = a.keeper.fill; real_size = r; imaginary_size = i }; clock = a.clock }

-- the keeper
keeper_kept : (p : KeeperPlace) (z : Complex32) (ring : Peak.Ring) → KeeperRanged p ring → KeeperRanged (Peak.kept_of p z ring).kept.place (Peak.kept_of p z ring).ring
unfolding Peak.kept_of
keeper_kept p z ring h =
    let k = PeakLaws.kept_admitted p z ring (record { head = h.head; fill = h.fill }) in
    record { head = k.head; fill = k.fill; real_size = simp length-set h.real_size; imaginary_size = simp length-set h.imaginary_size }

-- a timing error turns the clock's loop within its ranges
error_fits : (w x dx : Equalizer.Row) (reliable : Bool) → ErrorFits (Equalizer.equalized_of w x dx reliable).equalized.timing
unfolding Equalizer.equalized_of of_bits neg
error_fits w x dx reliable =
    let t = Equalizer.timing_error_of (Equalizer.tap_sums_of w x dx) reliable in
    let low : lt t minus_one32 ≡ false = timing_not_below (Equalizer.tap_sums_of w x dx) reliable in
    let high : lt one32 t ≡ false = timing_not_above (Equalizer.tap_sums_of w x dx) reliable in
    ClockLaws.within_from t minus_one32 one32 tt (rw (low, high) tt)

symbol_ranged : (a : Option Due) (w : Windows) (s : RecoveryState) (reliable : Bool) → KeeperRanged s.place.keeper s.keeper → After a s.place.clock → Ranged (symbol_of a w s reliable).state
unfolding symbol_of
symbol_ranged None w s reliable k t = record { keeper = k; clock = t }
symbol_ranged (Some symbol) w s reliable k t =
    record {
      keeper = k;
      clock = update_kept s.place.clock _ t.0 t.1 (error_fits s.weights (Equalizer.row_of w.real w.imaginary) (Equalizer.row_of w.derivative_real w.derivative_imaginary) reliable);
    }

put_asks : (n : ℕ) (row : Symbols) (f : Option Found) → Roomy (suc n) row → Roomy n (put_of row f)
put_asks n row None h = let a = h.room in record { room = omega arith; real = h.real; imaginary = h.imaginary; reliable = h.reliable }
put_asks n row (Some found) h = let a = h.room in record { room = omega arith; real = simp length-set h.real; imaginary = simp length-set h.imaginary; reliable = simp length-set h.reliable }

module _ (taps derivatives : List Float) where
  level_ranged : (l : Option Level) (s : RecoveryState) → Ranged s → Ranged (level_of taps derivatives l s).state
  unfolding level_of
  level_ranged None s h = h
  level_ranged (Some level) s h =
      let r = clock_step taps derivatives s level.value in
      symbol_ranged r.stepped.due r.windows (with_clock s r) level.reliable h.keeper
      (after_of s.place.clock r.stepped h.clock (stepped_place taps derivatives s.place.clock level.value s.clock.real s.clock.imaginary _))

  pub stepped_ranged : (s : RecoveryState) (z : Complex32) → Ranged s → Ranged (stepped_of taps derivatives s z).state
  unfolding stepped_of
  stepped_ranged s z h =
      let k = Peak.kept_of s.place.keeper z s.keeper in
      level_ranged k.kept.level (with_keeper s k) (record { keeper = keeper_kept s.place.keeper z s.keeper h.keeper; clock = h.clock })

  linked_asks : (n : ℕ) (l : Lent) (z : Complex32) → Asks (suc n) l → Asks n (linked_of taps derivatives l z)
  unfolding linked_of
  linked_asks n l z h = record { state = stepped_ranged l.state z h.state; symbols = put_asks n l.symbols (stepped_of taps derivatives l.state z).found h.symbols }

  pub linked_is : (l : Lent) (z : Complex32) (s : Step) (symbols : Symbols) → s ≡ stepped_of taps derivatives l.state z → symbols ≡ put_of l.symbols s.found
      → ◌≡◌ {A = Lent} (record { state = s.state; symbols = symbols }) (linked_of taps derivatives l z)
  unfolding linked_of
  linked_is l z s symbols e q = ap (λ (w : Symbols). record { state = s.state; symbols = w }) q ∙ ap (linked_with taps derivatives l) e

  module _ (real imaginary : List Float) where
    asks_after : (i n : ℕ) (b : Lent) → Asks (n + i) b → Asks n (row_of taps derivatives real imaginary i b)
    unfolding row_of turns
    asks_after zero n b h = let e : n + 0 ≡ n = omega arith in subst (λ (k : ℕ). Asks k b) e h
    asks_after (suc i) n b h = let e : n + suc i ≡ suc n + i = omega arith in linked_asks n (turns (row_turn taps derivatives real imaginary) i b) _ (asks_after i (suc n) b (subst (λ (k : ℕ). Asks k b) e h))

    pub row_start : (b : Lent) → b ≡ row_of taps derivatives real imaginary 0 b
    unfolding row_of
    row_start b = turns_start _ _

    pub row_step : (i : ℕ) (b l m : Lent) → m ≡ linked_of taps derivatives l (point_at (record { real = real; imaginary = imaginary }) i) → l ≡ row_of taps derivatives real imaginary i b
        → m ≡ row_of taps derivatives real imaginary (i + 1) b
    unfolding row_of
    row_step i b l m e h = e ∙ turns_step (row_turn taps derivatives real imaginary) i b l h

    pub fewer : (m n : ℕ) (l : Lent) → n ≤ m → Asks m l → Asks n l
    fewer m n l h a = let r = a.symbols.room in record { state = a.state; symbols = record { room = omega arith; real = a.symbols.real; imaginary = a.symbols.imaginary; reliable = a.symbols.reliable } }

    -- the next value may be taken
    pub row_asks : (i n : ℕ) (b l : Lent) → Asks n b → l ≡ row_of taps derivatives real imaginary i b → i < n → Asks 1 l
    row_asks i n b l a e h = rw e (asks_after i 1 b (fewer n (1 + i) b (omega arith) a))

    pub row_end : (i n : ℕ) (b l : Lent) → Asks n b → l ≡ row_of taps derivatives real imaginary i b → i ≤ n → n ≤ i → (l ≡ row_of taps derivatives real imaginary n b) × Asks 0 l
    row_end i n b l a e h k =
        let q : i ≡ n = omega arith in
        (e ∙ ap (λ (m : ℕ). row_of taps derivatives real imaginary m b) q, rw e (asks_after i 0 b (fewer n (0 + i) b (omega arith) a)))

-- a symbol at most for each value
put_most : (row : Symbols) (f : Option Found) → (put_of row f).count ≤ row.count + 1
put_most row None = omega arith
put_most row (Some found) = omega arith

pub symbols_most : (taps derivatives real imaginary : List Float) (n : ℕ) (b : Lent) → (row_of taps derivatives real imaginary n b).symbols.count ≤ b.symbols.count + n
unfolding row_of linked_of turns
symbols_most taps derivatives real imaginary zero b = omega arith
symbols_most taps derivatives real imaginary (suc n) b =
    let a = row_of taps derivatives real imaginary n b in
    let m = symbols_most taps derivatives real imaginary n b in
    let p = put_most a.symbols (stepped_of taps derivatives a.state (point_at (record { real = real; imaginary = imaginary }) n)).found in
    omega arith

-- the tables that the code takes are the matched filter's
pub recovered_is : (tables : Tables) (real imaginary : List Float) (n : ℕ) (b a : Lent) → tables ≡ both_tables → a ≡ row_of tables.taps tables.derivatives real imaginary n b
    → a ≡ recovered_of real imaginary n b
unfolding recovered_of
recovered_is tables real imaginary n b a t e = e ∙ ap (λ (t : Tables). row_of t.taps t.derivatives real imaginary n b) t

-- ---- a symbol written
pub put_none : (row : Symbols) (f : Option Found) → f ≡ None → row ≡ put_of row f
put_none row f e = rw e

pub put_here : (row : Symbols) (f : Option Found) (found : Found) → f ≡ Some found
    → ◌≡◌ {A = Symbols}
    (record {
      real = set row.real row.count found.symbol.real;
      imaginary = set row.imaginary row.count found.symbol.imaginary;
      reliable = set row.reliable row.count found.reliable;
      count = row.count + 1;
    })
    (put_of row f)
put_here row f found e = rw e
