-- `run` keeps the counter below d and the resampler admitted.
use Rattle.std.proofs.Common.{◌<◌}
use Rattle.resampler.specs.Admitted.{Admitted}
use Rattle.replay_resampler.proofs.run.Given as goal

abbrev pub invariant-loop : goal.invariant-loop
invariant-loop l = (l.d.counter < l.d.decimation) × Admitted l.r
