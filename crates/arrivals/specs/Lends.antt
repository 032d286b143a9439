-- What the functions are lent, by the names of their parameters: each is a type that computes to the clause written out. Definitions only.
use Rattle.std.specs.Prelude.{◌≡◌, ℕ, Float}
use Rattle.laws.specs.Lent.{LendsMut}
use Rattle.laws.specs.Places.{upto, laid}
use Rattle.arrivals.specs.declared.choice.Branch.{Branch}

-- ---- branches, a plane for each of their four parts
module _ (cost : LendsMut Float) (prior : LendsMut ℕ) (real imaginary : LendsMut Float) where
  -- the 16 branches f 0 to f 15 stand at `from` and after it, and no other place is moved
  abbrev pub Lays : ℕ → (ℕ → Branch) → Type 0
  Lays from f =
      (cost.exit.now ≡ laid (λ q. (f q).cost) from 16 cost.entry.now)
      × (prior.exit.now ≡ laid (λ q. (f q).prior) from 16 prior.entry.now)
      × (real.exit.now ≡ laid (λ q. (f q).real) from 16 real.entry.now)
      × (imaginary.exit.now ≡ laid (λ q. (f q).imaginary) from 16 imaginary.entry.now)

  -- the 64 branches f 0 to f 63 stand there, state after state
  abbrev pub Fills : (ℕ → Branch) → Type 0
  Fills f =
      (cost.exit.now ≡ upto (λ s. (f s).cost) 64)
      × (prior.exit.now ≡ upto (λ s. (f s).prior) 64)
      × (real.exit.now ≡ upto (λ s. (f s).real) 64)
      × (imaginary.exit.now ≡ upto (λ s. (f s).imaginary) 64)
