-- Which rates and which resamplers may be run, as facts, and what a value keeps of them. Definitions only.
use Rattle.std.specs.Prelude.{◌≡◌, ℕ, ◌+◌, ◌-◌, ◌/◌, ◌^◌, ◌<◌, ◌≤◌, false, pos, negsuc, from_bits, Float}
use Rattle.std.specs.Float.{fin, binary64}
use Rattle.std.specs.Float.Ieee.{of_int}
use Rattle.laws.specs.FloatSums.{In}
use Rattle.resampler.specs.declared.dimensions.Dimensions.{Dimensions}
use Rattle.resampler.specs.declared.pass.Resampler.{Resampler}
use Rattle.resampler.specs.declared.pass.Place.{Place}
use Rattle.resampler.specs.declared.pass.Passed.{Passed}
use Rattle.resampler.specs.Pass.{placed_of}

-- ---- the ends of the ranges

abbrev pub f0 : Float
f0 = fin false 0 (pos 0)  -- 0

abbrev pub half : Float
half = fin false 1 (negsuc 0)  -- 0.5

abbrev pub twenty : Float
twenty = fin false 5 (pos 2)  -- 20

-- 2^53, which no next output reaches
abbrev pub far : Float
far = fin false 1 (pos 53)  -- 2^53

-- ---- the input's rate, and what follows from it

abbrev pub lowest_rate : Float
lowest_rate = from_bits binary64 0x40c2_c000_0000_0000  -- 9600

abbrev pub highest_rate : Float
highest_rate = from_bits binary64 0x4173_12d0_0000_0000  -- 20000000

-- values a second after decimation
abbrev pub lowest_decimated : Float
lowest_decimated = fin false 75 (pos 7)  -- 9600

abbrev pub highest_decimated : Float
highest_decimated = fin false 375 (pos 10)  -- 384000

-- samples a second that setup admits
pub record AdmittedRate (rate : Float) : Type 0 where
  pub range : In lowest_rate highest_rate rate

-- what every admitted rate gives
pub record Sized (s : Dimensions) : Type 0 where
  pub decimation_low : 1 ≤ s.decimation
  pub decimation_high : s.decimation ≤ 78
  pub arm_low : 14 ≤ s.arm
  pub arm_high : s.arm ≤ 576
  pub rate_in : In lowest_decimated highest_decimated s.rate

-- what the code rounds to a whole number: 0 to 1,024, of either sign of zero
abbrev pub most_count : Float
most_count = fin false 1 (pos 10)  -- 1024

pub record Countable (x : Float) : Type 0 where
  pub range : In f0 most_count x

-- ---- a resampler

-- the last of the values that an output needs lies this far past its position
abbrev pub back : Resampler → ℕ
back r = r.arm - r.half

-- `admitted_of` as facts
pub record Admitted (r : Resampler) : Type 0 where
  pub arm_low : 14 ≤ r.arm
  pub arm_high : r.arm ≤ 576
  pub half_is : r.half ≡ r.arm / 2
  pub write_in : r.write < r.arm + 16
  pub index_in : r.index ≤ 2 ^ 52
  pub step_in : In half twenty r.step
  pub next_in : In f0 (of_int binary64 (pos (r.index + 600))) r.next
  -- nothing is pending
  pub idle : r.index < (placed_of r.next).position + back r

-- what places and indices need of it
pub record Dimensioned (r : Resampler) : Type 0 where
  pub arm_some : 1 ≤ r.arm
  pub arm_high : r.arm ≤ 576
  pub half_in : r.half ≤ r.arm
  pub write_in : r.write < r.arm + 16

-- a place that a next output can have
pub record Near (p : Place) : Type 0 where
  pub phase_in : p.phase < 32
  pub position_in : p.position ≤ 2 ^ 53 + 1

-- what a value in keeps
pub record PassKeeps (r : Resampler) (p : Passed) : Type 0 where
  pub admitted : Admitted p.resampler
  pub few : p.count ≤ 2
  pub one_more : p.resampler.index ≡ r.index + 1
  pub same_arm : p.resampler.arm ≡ r.arm
