-- What a decimated value, or none, leaves of a resampler's state. Definitions only.
use Rattle.std.specs.Prelude.{◌+◌, ◌≤◌}
use Rattle.resampler.specs.declared.pass.Resampler.{Resampler}
use Rattle.resampler.specs.declared.pass.Passed.{Passed}
use Rattle.resampler.specs.Admitted.{Admitted}

pub record Held (r : Resampler) (p : Passed) : Type 0 where
  pub admitted : Admitted p.resampler
  pub few : p.count ≤ 2
  pub one_more : p.resampler.index ≤ r.index + 1
