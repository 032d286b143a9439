-- THE STAGES: the chain value by value is the first stage over the row of values, then the later ones over its row of symbols. Assumes nothing.
use Rattle.std.specs.Prelude.{◌≡◌, Bool, false, length, get_or, set, Option, Some, None, Float}
use Rattle.std.proofs.Math.Path.{refl, sym, ap}
use Rattle.std.proofs.Common.{◌∙◌, get_or-set_same, get_or-set_other}
use Prim.Native.Nat.{ℕ, zero, suc, ◌+◌, ◌*◌, ◌≤◌}
use native.Mathlib.Omega.{arith}
use mathlib.Core.List.{List, foldl-append}
use Rattle.std.specs.Float.{nan}
use Rattle.laws.specs.Turns.{turns, turns_step}
use Rattle.laws.specs.Places.{upto, upto_more}
use Rattle.complex.specs.declared.Complex32.{Complex32}
use Rattle.complex.specs.Planes.{point_at}
use Rattle.answers.specs.declared.soft.Soft.{Soft}
use Rattle.answers.specs.Observed.{record_before}
use Rattle.recovery.specs.declared.step.Found.{Found}
use Rattle.recovery.specs.Recovery as Recovery
use Rattle.recovery.specs.Rows as Recovered
use Rattle.recovery.specs.Ranges as RecoveryRanges
use Rattle.recovery.specs.Laws as RecoveryLaws
use Rattle.decisions.specs.Rows as Decided
use Rattle.delivery.specs.Delivery as Delivery
use Rattle.chain.specs.Chain.{ChainState, recovery_of, joined_of, Step, heard_of, stepped_of}
use Rattle.chain.specs.Rows.{dibits_of, pair_of, others_of, other_pair_of, records_after, Told, start, slot_at, next_of, told, ran_of, Room, laid_in, Lent, laid_over, values_of}
use Rattle.chain.specs.Ranges.{Ranged}
use Rattle.chain.specs.RowLaws.{all_ran, laid_more}
use Rattle.chain.specs.Later.{Later, later_of, joined_lent, said_of, said_row}

-- ---- the later stages over a row of symbols

abbrev pub over : Recovered.Symbols → Later → Later
over s l = said_row s.real s.imaginary s.reliable s.count l

-- a later place of the row changes nothing
row_set : (r i : List Float) (b : List Bool) (at : ℕ) (x y : Float) (sure : Bool) (m : ℕ) (l : Later) → m ≤ at
    → said_row (set r at x) (set i at y) (set b at sure) m l ≡ said_row r i b m l
unfolding said_row turns
row_set r i b at x y sure zero l h = refl
row_set r i b at x y sure (suc m) l h =
    let e : get_or (set r at x) m nan ≡ get_or r m nan = get_or-set_other r at m x nan (λ e. omega arith) in
    let f : get_or (set i at y) m nan ≡ get_or i m nan = get_or-set_other i at m y nan (λ e. omega arith) in
    let g : get_or (set b at sure) m false ≡ get_or b m false = get_or-set_other b at m sure false (λ e. omega arith) in
    λ j. said_of (row_set r i b at x y sure m l (omega arith) j) (record { real = e j; imaginary = f j }) (g j)

-- no symbol, nothing said
pub over_none : (s : Recovered.Symbols) (l : Later) → s.count ≡ 0 → over s l ≡ l
unfolding said_row turns
over_none s l e = ap (λ (n : ℕ). said_row s.real s.imaginary s.reliable n l) e

-- a symbol, where there is one, decided and delivered
abbrev said_by : Option Found → Later → Later
said_by None l = l
said_by (Some found) l = said_of l found.symbol found.reliable

row_more : (r i : List Float) (b : List Bool) (n : ℕ) (l : Later) → said_row r i b (n + 1) l ≡ said_of (said_row r i b n l) (point_at (record { real = r; imaginary = i }) n) (get_or b n false)
unfolding said_row
row_more r i b n l = sym (turns_step _ n l _ refl)

-- a symbol put after those of the row is taken after them
over_put : (s : Recovered.Symbols) (f : Option Found) (l : Later) → RecoveryRanges.Roomy 1 s → over (Recovered.put_of s f) l ≡ said_by f (over s l)
over_put s None l h = refl
over_put s (Some found) l h =
    let z = found.symbol in
    let sure = found.reliable in
    let room = h.room in
    let lr = h.real in
    let li = h.imaginary in
    let lb = h.reliable in
    let n = s.count in
    let e : get_or (set s.real n z.real) n nan ≡ z.real = get_or-set_same s.real n z.real nan (omega arith) in
    let f : get_or (set s.imaginary n z.imaginary) n nan ≡ z.imaginary = get_or-set_same s.imaginary n z.imaginary nan (omega arith) in
    let g : get_or (set s.reliable n sure) n false ≡ sure = get_or-set_same s.reliable n sure false (omega arith) in
    row_more (set s.real n z.real) (set s.imaginary n z.imaginary) (set s.reliable n sure) n l
    ∙ (λ j. said_of (row_set s.real s.imaginary s.reliable n z.real z.imaginary sure n l (omega arith) j) (record { real = e j; imaginary = f j }) (g j))

-- ---- one value

-- what a step leaves, laid over what is lent
abbrev linked_with : Lent → Step → Lent
linked_with l s = record {
  state = s.state;
  records = records_after s.outcome (slot_at l.state) l.records;
  room = laid_in l.room (dibits_of s.outcome) (pair_of s.outcome);
  other = laid_in l.other (others_of s.outcome) (other_pair_of s.outcome);
}

-- without a symbol nothing is written, and a symbol is decided and delivered
heard_linked : (f : Option Found) (m : ChainState) (r : Recovery.RecoveryState) (d : Later) → slot_at m ≡ Decided.slot_at d.state
    → linked_with (record { state = m; records = d.records; room = d.delivery.room; other = d.other }) (heard_of f r d.state d.second d.delivery.place (record_before d.records (Decided.slot_at d.state))) ≡ joined_lent r (said_by f d)
unfolding heard_of said_of Delivery.delivered_of
heard_linked None m r d e =
    let n : d.delivery.room.written + 0 ≡ d.delivery.room.written = omega arith in
    let o : d.other.written + 0 ≡ d.other.written = omega arith in
    rw (n, o)
heard_linked (Some found) m r d e = rw e

module _ (taps derivatives : List Float) where
  abbrev linked_of : Lent → Complex32 → Lent
  linked_of l z = linked_with l (next_of taps derivatives l.state l.records z)

  value_staged : (r : Recovery.RecoveryState) (d : Later) (z : Complex32)
      → linked_of (joined_lent r d) z ≡ joined_lent (Recovery.stepped_of taps derivatives r z).state (said_by (Recovery.stepped_of taps derivatives r z).found d)
  unfolding stepped_of
  value_staged r d z = let k = Recovery.stepped_of taps derivatives r z in heard_linked k.found (joined_of r d.state d.second d.delivery.place) k.state d refl

  laid_told : (room other : Room) (t : Told) (z : Complex32) → length t.reliabilities ≡ 2 * length t.dibits → length t.other_reliabilities ≡ 2 * length t.others
      → linked_of (laid_over room other t) z ≡ laid_over room other (told taps derivatives t z)
  unfolding told
  laid_told room other t z h k =
      let s = next_of taps derivatives t.state t.records z in
      let first = laid_more room t.dibits t.reliabilities (dibits_of s.outcome) (pair_of s.outcome) h in
      let second = laid_more other t.others t.other_reliabilities (others_of s.outcome) (other_pair_of s.outcome) k in
      λ i. record { state = s.state; records = records_after s.outcome (slot_at t.state) t.records; room = first i; other = second i }

  -- ---- a row, value by value
  module _ (real imaginary : List Float) where
    abbrev pub told_at : ChainState → List (Option Soft) → ℕ → Told
    told_at s records i = ran_of taps derivatives (values_of real imaginary i) (start s records)

    told_more : (s : ChainState) (records : List (Option Soft)) (i : ℕ) → told_at s records (suc i) ≡ told taps derivatives (told_at s records i) (point_at (record { real = real; imaginary = imaginary }) i)
    unfolding ran_of values_of
    told_more s records i =
        let e : suc i ≡ i + 1 = omega arith in
        ap (told_at s records) e ∙ rw (upto_more (point_at (record { real = real; imaginary = imaginary })) i, foldl-append)

    none_told : (l : Lent) → l ≡ laid_over l.room l.other (told_at l.state l.records 0)
    unfolding ran_of values_of upto
    none_told l =
        let e : l.room.written + 0 ≡ l.room.written = omega arith in
        let f : l.other.written + 0 ≡ l.other.written = omega arith in
        rw (e, f)

    told_pairs : (s : ChainState) (records : List (Option Soft)) (i : ℕ) → Ranged s → length (told_at s records i).reliabilities ≡ 2 * length (told_at s records i).dibits
    told_pairs s records i h = let p = (all_ran taps derivatives (values_of real imaginary i) (start s records) h).pairs in omega arith

    other_pairs : (s : ChainState) (records : List (Option Soft)) (i : ℕ) → Ranged s → length (told_at s records i).other_reliabilities ≡ 2 * length (told_at s records i).others
    other_pairs s records i h = let p = (all_ran taps derivatives (values_of real imaginary i) (start s records) h).other_pairs in omega arith

    -- ---- THE LAW: a row of values recovered, and its symbols decided and delivered, is the row value by value
    abbrev pub symbols_by : ℕ → Recovery.RecoveryState → Recovered.Symbols → Recovered.Lent
    symbols_by n r row = Recovered.row_of taps derivatives real imaginary n (record { state = r; symbols = row })

    pub staged : (n : ℕ) (l : Lent) (row : Recovered.Symbols) → row.count ≡ 0 → RecoveryRanges.Asks n (record { state = recovery_of l.state; symbols = row }) → Ranged l.state
        → joined_lent (symbols_by n (recovery_of l.state) row).state (over (symbols_by n (recovery_of l.state) row).symbols (later_of l))
        ≡ laid_over l.room l.other (told_at l.state l.records n)
    unfolding Recovered.row_of Recovered.linked_of turns
    staged zero l row e h k = ap (joined_lent (recovery_of l.state)) (over_none row (later_of l) e) ∙ none_told l
    staged (suc n) l row e h k =
        let z = point_at (record { real = real; imaginary = imaginary }) n in
        let b : Recovered.Lent = record { state = recovery_of l.state; symbols = row } in
        let a : Recovered.Lent = symbols_by n (recovery_of l.state) row in
        let s = Recovery.stepped_of taps derivatives a.state z in
        let asks : RecoveryRanges.Asks 1 a = RecoveryLaws.row_asks taps derivatives real imaginary n (suc n) b a h refl (omega arith) in
        ap (joined_lent s.state) (over_put a.symbols s.found (later_of l) asks.symbols)
        ∙ sym (value_staged a.state (over a.symbols (later_of l)) z)
        ∙ ap (λ (m : Lent). linked_of m z) (staged n l row e (RecoveryLaws.fewer taps derivatives real imaginary (suc n) n b (omega arith) h) k)
        ∙ laid_told l.room l.other (told_at l.state l.records n) z (told_pairs l.state l.records n k) (other_pairs l.state l.records n k)
        ∙ ap (laid_over l.room l.other) (sym (told_more l.state l.records n))
