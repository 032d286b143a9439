-- Which fronts may be run, as a test and as facts, which samples go in, and what a call keeps. Definitions only.
use Rattle.std.specs.Prelude.{ℕ, ◌+◌, ◌-◌, ◌*◌, ◌≤◌, ◌<◌, ◌≡◌, Bool, not, ◌&&◌, List, T, length, get_or, Float}
use Rattle.std.specs.Float.{nan}
use Rattle.std.specs.Float.Ieee.{is_nan}
use Rattle.oscillator.specs.Oscillator as oscillator
use Rattle.decimator.specs.Decimator as decimator
use Rattle.resampler.specs.Pass as resampler
use Rattle.resampler.specs.Admitted.{Admitted as RingAdmitted}
use Rattle.front.specs.declared.FrontPlace.{FrontPlace}
use Rattle.front.specs.declared.Fronted.{Fronted}
use Rattle.front.specs.declared.Drawn.{Drawn}
use Rattle.front.specs.declared.Offering.{Offering}
use Rattle.resampler.specs.declared.pass.Resampler.{Resampler}

-- may this front be run: each of the three may
abbrev pub admitted_of : FrontPlace → Bool
admitted_of p = oscillator.admitted_of p.oscillator && (decimator.admitted_of p.decimator && resampler.admitted_of p.resampler)

-- the same as facts
pub record Admitted (p : FrontPlace) : Type 0 where
  pub oscillator : oscillator.Admitted p.oscillator
  pub decimator : decimator.Admitted p.decimator
  pub resampler : RingAdmitted p.resampler

-- no float of a block is NaN: a block with such a sample is refused
pub record Numbers (xs : List Float) : Type 0 where
  pub each : (k : ℕ) → k < length xs → T (not (is_nan (get_or xs k nan)))

-- what n samples keep, up to n values into the ring
pub record Next (n : ℕ) (p q : FrontPlace) : Type 0 where
  pub admitted : Admitted q
  pub index_low : p.resampler.index ≤ q.resampler.index
  pub index : q.resampler.index ≤ p.resampler.index + n
  pub arm : q.resampler.arm ≡ p.resampler.arm
  pub decimation : q.decimator.decimation ≡ p.decimator.decimation

-- a call so far, `left` samples being there at its start
pub record Going (left : ℕ) (p : FrontPlace) (t : Fronted) : Type 0 where
  pub next : Next t.used p t.place
  pub most : t.used ≤ left
  pub room : t.made ≤ 256
  -- at most two values a sample
  pub few : t.made ≤ 2 * t.used

-- a whole call
pub record CallKeeps (left : ℕ) (p : FrontPlace) (r : Fronted) : Type 0 where
  pub next : Next r.used p r.place
  pub most : r.used ≤ left
  pub some : 0 < left → 0 < r.used
  pub room : r.made ≤ 256
  pub few : r.made ≤ 2 * r.used

-- a run
pub record Drew (left : ℕ) (p : FrontPlace) (q : Drawn) : Type 0 where
  pub turns : q.oscillator.renormalize < 4096
  pub early : q.decimator.counter < q.decimator.decimation
  pub decimation : q.decimator.decimation ≡ p.decimator.decimation
  pub some : 0 < left → 0 < q.run
  pub most : q.run ≤ left

-- a decimated value or none, with room for two values
pub record Offer (r : Resampler) (made : ℕ) (l : Offering) : Type 0 where
  pub admitted : RingAdmitted l.resampler
  pub index_low : r.index ≤ l.resampler.index
  pub index : l.resampler.index ≤ r.index + 1
  pub arm : l.resampler.arm ≡ r.arm
  pub few : l.made ≤ made + 2

-- a run and its values, `left` samples being there
pub record Moved (left : ℕ) (t r : Fronted) : Type 0 where
  pub next : Next (r.used - t.used) t.place r.place
  pub further : t.used < r.used
  pub most : r.used ≤ t.used + left
  pub few : r.made ≤ t.made + 2
