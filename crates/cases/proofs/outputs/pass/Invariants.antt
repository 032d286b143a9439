-- `cases::outputs::pass` is safe: each sample leaves a resampler that may be run.
use Rattle.std.proofs.Common.{◌≤◌}
use Rattle.resampler.specs.Admitted.{Admitted}
use Rattle.cases.proofs.outputs.pass.Given as goal

abbrev pub invariant-loop-k : goal.invariant-loop-k
invariant-loop-k l = (l.r.index ≤ l.k) × Admitted l.r
