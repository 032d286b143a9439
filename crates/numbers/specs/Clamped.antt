-- Where a clamped value lies: `clamp_of` of any value is not beyond an end, and of a finite value lies between both. Assumes nothing.
use Rattle.std.specs.Prelude.{◌≡◌, Bool, true, false, cond, not, T, Float}
use Rattle.std.proofs.Math.Path.{refl}
use Rattle.std.specs.Float.Ieee.{lt, le}
use Rattle.std.specs.Float.Ieee.Fits.{and_l, and_r}
use Rattle.std.specs.Float.Ieee.Scale.{finite}
use Rattle.laws.specs.FloatOrder.{le_self, not_lt→le}
use Rattle.laws.specs.FloatSums.{In, ends}
use Rattle.numbers.specs.Numbers.{clamp_of}

-- ---- any value, a NaN too: not below the lower end, not above the upper one
module _ (x lo hi : Float) (ordered : lt hi lo ≡ false) where
  low_cases : (b c : Bool) → lt lo lo ≡ false → lt x lo ≡ b → lt (cond b lo (cond c hi x)) lo ≡ false
  low_cases true c same h = same
  low_cases false true same h = ordered
  low_cases false false same h = h

  high_cases : (b c : Bool) → lt hi hi ≡ false → lt hi x ≡ c → lt hi (cond b lo (cond c hi x)) ≡ false
  high_cases true c same h = ordered
  high_cases false true same h = same
  high_cases false false same h = h

  pub clamped_low : lt lo lo ≡ false → lt (clamp_of x lo hi) lo ≡ false
  unfolding clamp_of
  clamped_low same = low_cases (lt x lo) (lt hi x) same refl

  pub clamped_high : lt hi hi ≡ false → lt hi (clamp_of x lo hi) ≡ false
  unfolding clamp_of
  clamped_high same = high_cases (lt x lo) (lt hi x) same refl

-- ---- a finite value: between the ends
pub clamp_in : (lo hi x : Float) → T (finite x) → T (ends lo hi) → T (le lo hi) → In lo hi (clamp_of x lo hi)
unfolding clamp_of
clamp_in lo hi x X p o = go (lt x lo) (lt hi x) (not_lt→le x lo X L) (not_lt→le hi x H X)
  where
    L : T (finite lo)
    L = and_l (finite lo) (finite hi) p

    H : T (finite hi)
    H = and_r (finite lo) (finite hi) p

    go : (s t : Bool) → (T (not s) → T (le lo x)) → (T (not t) → T (le x hi)) → In lo hi (cond s lo (cond t hi x))
    go true t h k = record { lower = le_self lo L; upper = o }
    go false true h k = record { lower = o; upper = le_self hi H }
    go false false h k = record { lower = h tt; upper = k tt }
