-- The equalizer's step put together from what its parts answer, and what an unreliable one does. Assumes nothing.
use Rattle.std.specs.Prelude.{◌≡◌, refl, Bool, true, false, Float}
use Rattle.std.specs.Float.{binary32}
use Rattle.std.specs.Float.Ieee.{of_bits, div, neg, lt}
use Rattle.laws.specs.Branches.{cond_then, cond_no}
use Rattle.numbers.specs.Constants.{zero32, one32}
use Rattle.numbers.specs.Clamped.{clamped_low, clamped_high}
use Rattle.numbers.specs.Root.{sqrt_of}
use Rattle.complex.specs.Complex.{power_of}
use Rattle.equalizer.specs.declared.Sums.{Sums}
use Rattle.equalizer.specs.Equalizer.{Row, Step, tap_sums_of, step_of, adapted_of, most_norm, most_root, norm_of, scaled_by, limited_of, learns_of, updated_of, slope_of, timing_error_of, equalized_of}

-- ---- the norm's two ways
module _ (w : Row) (size : Float) (is_norm : size ≡ norm_of w) where
  pub limited_found : (root : Float) (after : Row) → lt most_norm size ≡ true → root ≡ sqrt_of binary32 size
      → after ≡ scaled_by (div binary32 most_root root) w → after ≡ limited_of w
  unfolding limited_of
  limited_found root after above is_root e = rw (← is_norm) (cond_then _ _ _ _ above (rw (← is_root) e))

  pub limited_kept : lt most_norm size ≡ false → w ≡ limited_of w
  unfolding limited_of
  limited_kept under = rw (← is_norm) (cond_no _ _ _ _ under refl)

-- ---- the update's two ways
module _ (s : Sums) (reliable : Bool) (x w : Row) (power : Float) (learning : Bool)
    (is_power : power ≡ power_of s.value) (is_learning : learning ≡ learns_of reliable s.energy power) where
  pub updated_found : (step : Float) (moved after : Row) → learning ≡ true → step ≡ step_of power s.energy
      → moved ≡ adapted_of s.value step x w → after ≡ limited_of moved → after ≡ updated_of s reliable x w
  unfolding updated_of
  updated_found step moved after taken is_step is_moved is_after =
      rw (← is_power, ← is_learning) (cond_then _ _ _ _ taken (rw (← is_step, ← is_moved) is_after))

  pub updated_kept : learning ≡ false → w ≡ updated_of s reliable x w
  unfolding updated_of
  updated_kept left = rw (← is_power, ← is_learning) (cond_no _ _ _ _ left refl)

-- ---- the whole step
pub step_made : (w x dx : Row) (reliable : Bool) (s : Sums) (after : Row) (timing : Float) → s ≡ tap_sums_of w x dx
    → after ≡ updated_of s reliable x w → timing ≡ timing_error_of s reliable
    → ◌≡◌ {A = Step} (record { equalized = record { value = s.value; timing = timing }; weights = after }) (equalized_of w x dx reliable)
unfolding equalized_of
step_made w x dx reliable s after timing is_sums is_after is_timing = rw (is_after, is_timing, is_sums)

-- an unreliable symbol leaves the weights alone and tells the clock nothing
pub unreliable_kept : (w x dx : Row) → (equalized_of w x dx false).weights ≡ w
unfolding equalized_of updated_of
unreliable_kept w x dx = refl

pub unreliable_silent : (w x dx : Row) → (equalized_of w x dx false).equalized.timing ≡ zero32
unfolding equalized_of timing_error_of
unreliable_silent w x dx = refl

-- ---- the timing error is a NaN or lies in -1..1
pub timing_not_below : (s : Sums) (reliable : Bool) → lt (timing_error_of s reliable) (neg one32) ≡ false
unfolding timing_error_of lt of_bits neg
timing_not_below s true = clamped_low (slope_of s) (neg one32) one32 refl refl
timing_not_below s false = refl

pub timing_not_above : (s : Sums) (reliable : Bool) → lt one32 (timing_error_of s reliable) ≡ false
unfolding timing_error_of lt of_bits neg
timing_not_above s true = clamped_high (slope_of s) (neg one32) one32 refl refl
timing_not_above s false = refl
