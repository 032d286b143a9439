-- A refusal's number tells which it is, and that it is one. Assumes nothing.
use Rattle.std.specs.Prelude.{◌≡◌, refl, cond, ℕ, eqb, Result, Ok, Err, ⊤}
use Rattle.std.proofs.Common.{sym, ap, ◌∙◌, true≢false}
use Rattle.checks.specs.declared.refusal.Refusal.{Refusal}
use Rattle.checks.specs.declared.refusal.Refusal.TheVariants.{Rate, Offset, Table, Count, Sample, Room, State, File}
use Rattle.checks.specs.Refusal.{number_of, verdict_of}
use Rattle.checks.specs.Ways.{number_not}

-- the refusal of each number
abbrev refusal_of : ℕ → Refusal
refusal_of n = cond (eqb n 1) Rate (cond (eqb n 2) Offset (cond (eqb n 3) Table (cond (eqb n 4) Count (cond (eqb n 5) Sample (cond (eqb n 6) Room (cond (eqb n 7) State File))))))

refusal_back : (r : Refusal) → refusal_of (number_of r) ≡ r
refusal_back Rate = refl
refusal_back Offset = refl
refusal_back Table = refl
refusal_back Count = refl
refusal_back Sample = refl
refusal_back Room = refl
refusal_back State = refl
refusal_back File = refl

pub number_tells : (a b : Refusal) → number_of a ≡ number_of b → a ≡ b
number_tells a b e = sym (refusal_back a) ∙ ap refusal_of e ∙ refusal_back b

-- no refusal has the number of an accepted call
pub apart : (r : Refusal) → 0 ≡ number_of r → ⊥
apart r h = true≢false (ap (λ (n : ℕ). eqb n 0) h ∙ number_not r)

-- so the number tells an accepted call and every refusal apart
pub verdict_tells : (x y : Result ⊤ Refusal) → verdict_of x ≡ verdict_of y → x ≡ y
verdict_tells (Ok a) (Ok b) e = refl
verdict_tells (Ok a) (Err r) e = absurd (apart r e)
verdict_tells (Err r) (Ok b) e = absurd (apart r (sym e))
verdict_tells (Err r) (Err s) e = ap (λ (t : Refusal). Err t) (number_tells r s e)
