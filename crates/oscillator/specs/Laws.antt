-- The turn's two ways, the counter's bound, the test of an oscillator, which passes exactly where its range holds, a fresh oscillator, the profile that is conjugated, and what a sample has to be.
-- Assumes nothing.
use Rattle.std.specs.Prelude.{◌+◌, ◌<◌, ◌≡◌, refl, true, false, eqb, ℤ, pos, negsuc, Float}
use Rattle.std.proofs.Common.{arith, ap, ⊎_elim, SFits, of_z, to_z-of_z, eq-eqb, ne_eqb, ltb-true, lt-ltb}
use Rattle.std.specs.Int.{w32}
use Rattle.std.specs.Float.Ieee.{is_nan}
use Rattle.numbers.specs.Constants.{zero64, one64}
use Rattle.laws.specs.Places.{le_or}
use Rattle.laws.specs.Branches.{cond_then, cond_no}
use Rattle.routines.specs.Circle.{sine_of, cosine_of}
use Rattle.complex.specs.declared.Complex32.{Complex32}
use Rattle.oscillator.specs.declared.Oscillator.{Oscillator}
use Rattle.oscillator.specs.Oscillator.{angle_of, fresh_of, admitted_of, Admitted, moved_of, renormalized_of, turned_of, conjugated_of, Number}

pub turned_last : (o r : Oscillator) → o.renormalize + 1 ≡ 4096 → r ≡ renormalized_of (moved_of o) → r ≡ turned_of o
unfolding turned_of
turned_last o r h e = cond_then (eqb (o.renormalize + 1) 4096) (renormalized_of (moved_of o)) (moved_of o) r (eq-eqb (o.renormalize + 1) 4096 h) e

pub turned_other : (o : Oscillator) → (o.renormalize + 1 ≡ 4096 → ⊥) → moved_of o ≡ turned_of o
unfolding turned_of
turned_other o h = cond_no (eqb (o.renormalize + 1) 4096) (renormalized_of (moved_of o)) (moved_of o) (moved_of o) (ne_eqb (o.renormalize + 1) 4096 h) refl

-- THE COUNTER is below 4,096 in and out
pub turned_below : (o : Oscillator) → o.renormalize < 4096 → (turned_of o).renormalize < 4096
unfolding turned_of
turned_below o l = ⊎_elim
    (λ (k : o.renormalize + 1 < 4096). rw (ne_eqb (o.renormalize + 1) 4096 (λ e. omega arith)) k)
    (λ (e : o.renormalize + 1 ≡ 4096). rw (eq-eqb (o.renormalize + 1) 4096 e) (omega arith))
    (le_or (o.renormalize + 1) 4096 (omega arith))

pub still_below : (o r : Oscillator) → o.renormalize < 4096 → r ≡ turned_of o → r.renormalize < 4096
still_below o r l e = rw e (turned_below o l)

-- ---- the test and its fact
pub admitted_facts : (o : Oscillator) → admitted_of o ≡ true → Admitted o
admitted_facts o e = record { renormalize_in = ltb-true o.renormalize 4096 e }

pub facts_admitted : (o : Oscillator) → Admitted o → admitted_of o ≡ true
facts_admitted o a = lt-ltb o.renormalize 4096 a.renormalize_in

pub fresh_admitted : (rate offset : Float) → Admitted (fresh_of rate offset)
fresh_admitted rate offset = record { renormalize_in = omega arith }

-- ADMITTED IN, ADMITTED OUT
pub turned_admitted : (o : Oscillator) → Admitted o → Admitted (turned_of o)
turned_admitted o a = record { renormalize_in = turned_below o a.renormalize_in }

pub fresh_is : (rate offset c s : Float) → c ≡ cosine_of (angle_of rate offset) → s ≡ sine_of (angle_of rate offset)
    → ◌≡◌ {A = Oscillator} (record { real = one64; imaginary = zero64; step_real = c; step_imaginary = s; renormalize = 0 }) (fresh_of rate offset)
fresh_is rate offset c s p q = rw (p, q)

-- ---- the profile's number, by its bits
pub profile_one : (p : ℤ) → SFits w32 p → of_z w32 p ≡ 1 → true ≡ conjugated_of p
profile_one p f e = rw (← to_z-of_z f, e)

other : (p : ℤ) → (p ≡ pos 1 → ⊥) → false ≡ conjugated_of p
other (pos n) h = rw (ne_eqb n 1 (λ e. h (ap pos e)))
other (negsuc n) h = refl

pub profile_other : (p : ℤ) → (of_z w32 p ≡ 1 → ⊥) → false ≡ conjugated_of p
profile_other p h = other p (λ e. h (ap (of_z w32) e))

-- ---- a sample whose parts are tested
pub number : (s : Complex32) → is_nan s.real ≡ false → is_nan s.imaginary ≡ false → Number s
number s p q = record { real = rw p tt; imaginary = rw q tt }
