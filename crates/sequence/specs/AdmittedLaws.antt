-- The tests pass exactly where the ranges hold: `admitted_ranged` and `ranged_admitted` of the place, `states_table` and `table_states` of the parents.
-- Assumes nothing.
use Rattle.std.specs.Prelude.{◌≡◌, refl, Bool, true, ◌&&◌, List, ℕ, zero, suc, max, ltb, leb, get_or, Option, None, Some}
use Rattle.std.proofs.Common.{sym, ap, ◌∙◌, inl, inr, arith, ltb-true, leb-true, lt-ltb, le-ltb, le-leb}
use Rattle.laws.specs.Turns.{turns}
use Rattle.laws.specs.Places.{all_true, true_all}
use Rattle.laws.specs.Branches.{and_true}
use Rattle.laws.specs.Ring.{lt_or_ge}
use Rattle.sequence.specs.declared.step.DetectorPlace.{DetectorPlace}
use Rattle.answers.specs.Walk.{Table, Earlier}
use Rattle.sequence.specs.Ranges.{PlaceRanged}
use Rattle.sequence.specs.Admitted.{is_symbol, admitted_of, states_turn, are_states, largest_turn, largest_of}

-- ---- what the code gives is what the definitions say
pub symbol_is : (p : Option ℕ) (s : ℕ) → p ≡ Some s → ltb s 4 ≡ is_symbol p
symbol_is p s e = sym (ap is_symbol e)

pub admitted_is : (d : DetectorPlace) (b : Bool) → b ≡ is_symbol d.previous → ((ltb d.write 32 && leb d.filled 32) && b) ≡ admitted_of d
unfolding admitted_of
admitted_is d b e = ap (λ (t : Bool). (ltb d.write 32 && leb d.filled 32) && t) e

below_both : (a b : ℕ) → ltb (max a b) 64 ≡ (ltb a 64 && ltb b 64)
below_both a b = elim (lt_or_ge a 64) [
  | inl l ↦ elim (lt_or_ge b 64) [
    | inl m ↦ rw (lt-ltb a 64 l, lt-ltb b 64 m, lt-ltb (max a b) 64 (omega arith))
    | inr m ↦ rw (lt-ltb a 64 l, le-ltb b 64 m, le-ltb (max a b) 64 (omega arith))
  ]
  | inr l ↦ rw (le-ltb a 64 l, le-ltb (max a b) 64 (omega arith))
]

below_turns : (parents : List ℕ) (n : ℕ) → ltb (turns (largest_turn parents) n 0) 64 ≡ turns (states_turn parents) n true
unfolding turns
below_turns parents zero = refl
below_turns parents (suc n) =
    below_both (turns (largest_turn parents) n 0) (get_or parents n 0) ∙ ap (λ (b : Bool). b && ltb (get_or parents n 0) 64) (below_turns parents n)

-- all are below 64 where the largest is
pub largest_below : (parents : List ℕ) (n : ℕ) → n ≡ largest_of parents → ltb n 64 ≡ are_states parents
unfolding largest_of are_states
largest_below parents n e = ap (λ (k : ℕ). ltb k 64) e ∙ below_turns parents 2048

-- ---- the place
symbol_from : (p : Option ℕ) → is_symbol p ≡ true → Earlier p
symbol_from None h = tt
symbol_from (Some s) h = ltb-true s 4 h

symbol_to : (p : Option ℕ) → Earlier p → is_symbol p ≡ true
symbol_to None h = refl
symbol_to (Some s) h = lt-ltb s 4 h

pub admitted_ranged : (d : DetectorPlace) → admitted_of d ≡ true → PlaceRanged d
unfolding admitted_of
admitted_ranged d h =
    let t = and_true (ltb d.write 32 && leb d.filled 32) (is_symbol d.previous) h in
    let u = and_true (ltb d.write 32) (leb d.filled 32) t.0 in
    record { write = ltb-true d.write 32 u.0; filled = leb-true d.filled 32 u.1; earlier = symbol_from d.previous t.1 }

pub ranged_admitted : (d : DetectorPlace) → PlaceRanged d → admitted_of d ≡ true
unfolding admitted_of
ranged_admitted d h = rw (lt-ltb d.write 32 h.write, le-leb d.filled 32 h.filled, symbol_to d.previous h.earlier)

-- ---- the parents
pub states_table : (parents : List ℕ) → are_states parents ≡ true → Table parents
unfolding are_states
states_table parents h = record { below = λ i l. ltb-true (get_or parents i 0) 64 (true_all (λ (k : ℕ). ltb (get_or parents k 0) 64) 2048 h i l) }

pub table_states : (parents : List ℕ) → Table parents → are_states parents ≡ true
unfolding are_states
table_states parents t = all_true (λ (k : ℕ). ltb (get_or parents k 0) 64) 2048 (λ k l. lt-ltb (get_or parents k 0) 64 (t.below k l))
