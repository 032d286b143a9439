-- The ranges of a clock's place as facts: what is admitted, what holds once a sample is taken, and what a step leaves. Definitions only.
use Rattle.std.specs.Prelude.{◌≡◌, ℕ, ◌+◌, ◌*◌, ◌<◌, ◌≤◌, true, false, ◌⊎◌, pos, neg_ℤ, Option, Some, None, Float}
use Rattle.std.specs.Float.{nan}
use Rattle.std.specs.Float.Ieee.{neg}
use Rattle.std.specs.Float.Ieee.Positive.{num, den}
use Rattle.laws.specs.FloatSums.{In}
use Rattle.numbers.specs.Constants.{one32, minus_one32, zero32}
use Rattle.clock.specs.Clock.{arm_number_of, thirty_two, tenth, minus_tenth, minus16, f48}
use Rattle.clock.specs.declared.ClockPlace.{ClockPlace}
use Rattle.clock.specs.declared.Due.{Due}

abbrev pub Within : Float → Float → Float → Type 0
Within low high x = (x ≡ nan) ⊎ In low high x

-- a phase that is admitted; one that is in range; a rate; a timing error
abbrev pub PhaseFits : Float → Type 0
PhaseFits = Within minus16 f48

abbrev pub PhaseTurned : Float → Type 0
PhaseTurned = Within zero32 thirty_two

abbrev pub RateFits : Float → Type 0
RateFits = Within minus_tenth tenth

abbrev pub ErrorFits : Float → Type 0
ErrorFits = Within minus_one32 one32

-- `admitted_of` as facts
pub record Admitted (c : ClockPlace) : Type 0 where
  pub start : c.start < 256
  pub cold : c.warm ≡ false → (c.position ≡ 0) × (c.count ≤ 82)
  pub hot : c.warm ≡ true → (5 ≤ c.position) × (c.position ≤ 12) × (c.count ≤ 100 + c.position)
  pub phase : PhaseFits c.phase
  pub rate : RateFits c.rate

-- a warm clock that has just taken its sample
pub record Taken (c : ClockPlace) : Type 0 where
  pub start : c.start < 256
  pub warm : c.warm ≡ true
  pub least : 5 ≤ c.position
  pub most : c.position ≤ 12
  pub count : c.count ≤ 101 + c.position
  pub phase : PhaseFits c.phase
  pub rate : RateFits c.rate

-- what a step leaves: an admitted place; with a symbol the phase is in range, and arm and ring place are the filter's
abbrev pub After : Option Due → ClockPlace → Type 0
After None c = Admitted c
After (Some symbol) c = Admitted c × PhaseTurned c.phase × (symbol.arm < 32) × (symbol.from < 256)

-- c is the smallest whole number that is not below x, which is in 0..16: so the phase -x has the arm's number -c
pub record Ceiling (x : Float) (c : ℕ) : Type 0 where
  pub most : c ≤ 16
  pub reached : num x ≤ c * den x
  pub arm : arm_number_of (neg x) ≡ neg_ℤ (pos c)
