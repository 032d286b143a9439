-- What the proofs of the detector's functions apply, over plain variables. Assumes nothing.
use Rattle.std.specs.Prelude.{◌≡◌, refl, ℕ, zero, suc, ◌+◌, ◌-◌, ◌/◌, ◌%◌, ◌≤◌, ◌<◌, Bool, true, false, List, eqb, ltb, Float, None, Some, Option}
use Rattle.std.proofs.Math.Path.{ap}
use Rattle.std.proofs.Common.{ap₂, sym, ◌∙◌, arith, lt→ltb}
use Rattle.std.proofs.Math.Bool.{◌&&◌}
use Rattle.std.proofs.Math.Dec.{ltb→lt, not_T}
use Rattle.std.specs.Float.Ieee.Bits.{is_true, is_false}
use Rattle.complex.specs.declared.Complex32.{Complex32}
use Rattle.complex.specs.Complex.{conjugate_product_of, power_of, both_finite}
use Rattle.channels.specs.declared.channel.Taps.{Taps}
use Rattle.answers.specs.declared.soft.Soft.{Soft}
use Rattle.answers.specs.declared.walk.Dibit.{Dibit}
use Rattle.answers.specs.declared.combine.Seen.{Seen}
use Rattle.answers.specs.declared.walk.Walked.{Walked}
use Rattle.answers.specs.Observed.{cancelled_of, weighted_of, is_usable, divided_of, observed_with, observed_of, agreed_of}
use Rattle.answers.specs.Walk.{state_before_of, dibit_of, with_record_of, decided_of, walked_of}

-- ---- the observation
module _ (input : Complex32) (reliable : Bool) (t : Taps) (prior : ℕ) (power : Float) (rest v : Complex32) (a b : Bool)
    (p : power ≡ power_of t.main) (r : rest ≡ cancelled_of input t prior) (w : v ≡ conjugate_product_of rest t.main) (u : a ≡ is_usable reliable power) (f : b ≡ both_finite v) where
  observed_is : observed_with (a && b) v power ≡ observed_of input reliable t prior
  unfolding observed_of
  observed_is =
      ap (λ (z : Bool). observed_with z v power) (ap₂ ◌&&◌ u f)
      ∙ ap (λ (z : Complex32). observed_with (is_usable reliable power && both_finite z) z power) (w ∙ ap (λ (z : Complex32). conjugate_product_of z t.main) r)
      ∙ ap (λ (z : Float). observed_with (is_usable reliable z && both_finite (weighted_of input t prior)) (weighted_of input t prior) z) p

  pub observed_yes : (z : Complex32) → (a && b) ≡ true → z ≡ divided_of v power → ◌≡◌ {A = Seen} (record { combined = Some v; equalized = Some z }) (observed_of input reliable t prior)
  observed_yes z y d = go (a && b) y ∙ observed_is
    where
      go : (c : Bool) → c ≡ true → ◌≡◌ {A = Seen} (record { combined = Some v; equalized = Some z }) (observed_with c v power)
      go c e = unfold observed_with in rw (e, d)

  pub observed_no : (a && b) ≡ false → ◌≡◌ {A = Seen} (record { combined = None; equalized = None }) (observed_of input reliable t prior)
  observed_no n = go (a && b) n ∙ observed_is
    where
      go : (c : Bool) → c ≡ false → ◌≡◌ {A = Seen} (record { combined = None; equalized = None }) (observed_with c v power)
      go c e = unfold observed_with in rw e

-- ---- the answer
pub dibit_three : (q : ℕ) → q < 4 → (q ≡ 0 → ⊥) → (q ≡ 1 → ⊥) → (q ≡ 2 → ⊥) → 2 ≡ dibit_of q
dibit_three zero h a b c = absurd (a refl)
dibit_three (suc zero) h a b c = absurd (b refl)
dibit_three (suc (suc zero)) h a b c = absurd (c refl)
dibit_three (suc (suc (suc zero))) h a b c = refl
dibit_three (suc (suc (suc (suc q)))) h a b c = absurd (omega arith)

pub answer_is : (value : ℕ) (soft : Option Soft) (s : Soft) (x y : ℕ) → soft ≡ Some s
    → x ≡ agreed_of s.high_sign (eqb (value / 2 % 2) 1) s.high_reliability → y ≡ agreed_of s.low_sign (eqb (value % 2) 1) s.low_reliability
    → ◌≡◌ {A = Dibit} (record { value = value; high = x; low = y }) (with_record_of value soft)
answer_is value soft s x y e f g = rw (e, f, g)

pub decided_is : (current : ℕ) (previous : Option ℕ) (soft : Option Soft) (last dibit : ℕ) (r : Dibit) → previous ≡ Some last
    → dibit ≡ dibit_of ((current + 4 - last) % 4) → r ≡ with_record_of dibit soft → r ≡ decided_of current previous soft
decided_is current previous soft last dibit r e f g = g ∙ ap (λ (z : ℕ). with_record_of z soft) f ∙ sym (ap (λ (z : Option ℕ). decided_of current z soft) e)

module _ (parents : List ℕ) (newest filled best : ℕ) (previous : Option ℕ) (oldest : Option Soft) where
  pub walk_silent : filled < 31 → ◌≡◌ {A = Walked} (record { previous = previous; answer = None }) (walked_of parents newest filled best previous oldest)
  unfolding walked_of
  walk_silent h = rw (is_true (ltb filled 31) (lt→ltb filled 31 h))

  pub walk_full : (state : ℕ) (r : Dibit) → 31 ≤ filled → state ≡ state_before_of parents newest best → r ≡ decided_of (state % 4) previous oldest
      → ◌≡◌ {A = Walked} (record { previous = Some (state % 4); answer = Some r }) (walked_of parents newest filled best previous oldest)
  unfolding walked_of
  walk_full state r h e f = rw (f, e, is_false (ltb filled 31) (not_T (ltb filled 31) (λ t. let l = ltb→lt filled 31 t in omega arith)))
